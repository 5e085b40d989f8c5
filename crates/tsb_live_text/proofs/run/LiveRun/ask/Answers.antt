use Rattle.std.proofs.Common.{◌≡◌, ◌∙◌, ap, refl, subst, codes, None}
use Rattle.std.specs.Prelude.{IfOk, vec_items}
use Rattle.tsb_bench.specs.Held.{Held, state_of}
use Rattle.tsb_text.specs.kept.Changed.{last_change}
use Rattle.tsb_log_text.specs.RowInputs.{value_of}
use Rattle.tsb_text.specs.kept.Kept.{Stock, kept_of}
use Rattle.tsb_status_text.specs.EditsLine.{edits_text}
use Rattle.tsb_live_text.specs.saved.Saved.{saved_text}
use Rattle.tsb_status_text.specs.PlanLine.{plan_text}
use Rattle.tsb_step.specs.tsb_plan.Plan.{Plan}
use Rattle.tsb_step.specs.State.{State}
use Rattle.tsb_step.specs.Status.{status}
use Rattle.tsb_status.specs.Alike.{Alike}
use Rattle.tsb_status.specs.Plain.{status_of}
use Rattle.tsb_status_text.specs.StatusText.{status_text}
use Rattle.tsb_text.specs.Answers.{when_line}
use Rattle.tsb_command_text.specs.declared.live_command.LiveCommand.TheVariants as asks
use Rattle.tsb_live_text.specs.GoTo.{tick_of}
use Rattle.tsb_live_text.specs.Live.{present, with_echo, with_events, with_lines}
use Rattle.tsb_live_text.specs.declared.help.TheConstants.{HELP}
use Rattle.tsb_live_text.proofs.LiveLemmas.{does-as, does-plan, does-tell, does-tick-at, echo-stands, events-stands, lines-stands, made-plan, present-kept, present-state, present-tick, same-echo}
use Rattle.tsb_live_text.proofs.run.LiveRun.ask.Goals as goal

pub returns-in-Session-clause-done : goal.returns-in-Session-clause-done
returns-in-Session-clause-done g c s stands = does-as c.obey.result s _ c.args.line.now c.args.command (asks.Session c.in-Session.command) _ _ _ _ c.in-Session.is (c.obey.ensures.done s stands)

pub returns-in-Changes-clause-done : goal.returns-in-Changes-clause-done
returns-in-Changes-clause-done g c s stands = does-as c.changes.result s _ c.args.line.now c.args.command (asks.Changes c.in-Changes.ticks) _ _ _ _ c.in-Changes.is (c.changes.ensures.done s stands)

pub returns-in-GoTo-clause-done : goal.returns-in-GoTo-clause-done
returns-in-GoTo-clause-done g c s stands = does-as c.go_to.result s _ c.args.line.now c.args.command (asks.GoTo c.in-GoTo.aim) _ _ _ _ c.in-GoTo.is (c.go_to.ensures.done s stands)

pub returns-in-Plan-clause-done : goal.returns-in-Plan-clause-done
returns-in-Plan-clause-done g c s stands =
    does-as c.tell_plan.result s _ c.args.line.now c.args.command asks.Plan _ _ _ _ c.in-Plan.is
    (does-plan c.tell_plan.result _ s c.args.line.now c.deref.result.now _ _ _ _ stands (same-echo c.args.self.now s c.args.line.now c.deref.result.now stands (c.deref.ensures.0 ∙ c.echo-echo.ensures))
    (made-plan vec_items c.plan_line-plan.result c.tell_plan.result (state_of c.args.self.now.course.bench).plan c.deref.result.now _ _ _ _
    (subst (λ (p : Plan). IfOk c.plan_line-plan.result (λ line. vec_items line ≡ plan_text p)) (c.plan.ensures ∙ ap (λ (b : Held). (state_of b).plan) c.bench.ensures) c.plan_line-plan.ensures.line)
    c.tell_plan.ensures.told))

pub returns-in-Status-clause-done : goal.returns-in-Status-clause-done
returns-in-Status-clause-done g c s stands =
    does-as c.tell.result s _ c.args.line.now c.args.command asks.Status _ _ _ _ c.in-Status.is
    (does-tell c.tell.result None _ s s c.args.line.now c.deref-in-Status.result.now c.as_bytes.result.now (status_text (status (present s))) _ _ _ _ stands
    (same-echo c.args.self.now s c.args.line.now c.deref-in-Status.result.now stands (c.deref-in-Status.ensures.0 ∙ c.echo-echo.ensures)) (c.as_bytes.ensures.bytes ∙ c.status_line-status.ensures.alike (status (present s)) (subst (λ (v : State). Alike (status_of c.status.result) (status v)) (ap state_of c.bench-in-Status.ensures ∙ present-state c.args.self.now s stands) c.status.ensures)) c.tell.ensures.told)

pub returns-in-Edits-clause-done : goal.returns-in-Edits-clause-done
returns-in-Edits-clause-done g c s stands =
    does-as c.tell-in-Edits.result s _ c.args.line.now c.args.command asks.Edits _ _ _ _ c.in-Edits.is
    (does-tell c.tell-in-Edits.result None _ s s c.args.line.now c.deref-in-Edits.result.now c.as_bytes-in-Edits.result.now (edits_text (present s).desk) _ _ _ _ stands
    (same-echo c.args.self.now s c.args.line.now c.deref-in-Edits.result.now stands (c.deref-in-Edits.ensures.0 ∙ c.echo-echo.ensures)) (c.as_bytes-in-Edits.ensures.bytes ∙ c.edits_line-edits.ensures ∙ ap edits_text c.desk.ensures ∙ ap (λ (v : State). edits_text v.desk) (ap state_of c.bench-in-Edits.ensures ∙ present-state c.args.self.now s stands)) c.tell-in-Edits.ensures.told)

pub returns-in-When-clause-done : goal.returns-in-When-clause-done
returns-in-When-clause-done g c s stands =
    does-as c.tell-in-When.result s _ c.args.line.now c.args.command (asks.When c.in-When.which) _ _ _ _ c.in-When.is
    (does-tell c.tell-in-When.result None _ s s c.args.line.now c.deref-in-When.result.now c.as_bytes-in-When.result.now (when_line (last_change (value_of c.in-When.which) s.plan s.inputs)) _ _ _ _ stands
    (same-echo c.args.self.now s c.args.line.now c.deref-in-When.result.now stands (c.deref-in-When.ensures.0 ∙ c.echo-echo.ensures)) (c.as_bytes-in-When.ensures.bytes ∙ c.when_line-change.ensures.line ∙ ap when_line (c.last_change.ensures s.plan s.inputs (ap (λ (k : Stock). k.kept) c.kept.ensures ∙ present-kept c.args.self.now s stands))) c.tell-in-When.ensures.told)

pub returns-in-TickAt-clause-done : goal.returns-in-TickAt-clause-done
returns-in-TickAt-clause-done g c s stands =
    does-as c.tell_tick.result s _ c.args.line.now c.args.command (asks.TickAt c.in-TickAt.aim) _ _ _ _ c.in-TickAt.is
    (does-tick-at c.tick_of.result (tick_of (present s).start_moment (present s).now c.in-TickAt.aim) c.tell_tick.result _ s c.args.line.now c.deref-in-TickAt.result.now _ _ _ _
    (c.tick_of.ensures ∙ present-tick c.args.self.now s c.in-TickAt.aim stands) stands
    (same-echo c.args.self.now s c.args.line.now c.deref-in-TickAt.result.now stands (c.deref-in-TickAt.ensures.0 ∙ c.echo-echo.ensures)) c.tell_tick.ensures.told)

pub returns-in-Events-clause-done : goal.returns-in-Events-clause-done
returns-in-Events-clause-done g c s stands =
    does-as c.tell-in-Events-2.result s _ c.args.line.now c.args.command (asks.Events c.in-Events.on) _ _ _ _ c.in-Events.is
    (does-tell c.tell-in-Events-2.result None _ s (with_events c.in-Events.on s) c.args.line.now c.deref-in-Events.result.now (codes "ok") (codes "ok") _ _ _ _ (events-stands c.args.self.now _ s c.in-Events.on stands c.tell-in-Events.ensures.mode c.tell-in-Events.ensures.bench c.tell-in-Events.ensures.rows c.tell-in-Events.ensures.kept c.tell-in-Events.ensures.acts c.tell-in-Events.ensures.wide refl refl refl)
    (same-echo c.args.self.now s c.args.line.now c.deref-in-Events.result.now stands (c.deref-in-Events.ensures.0 ∙ c.echo-echo.ensures)) (refl) c.tell-in-Events-2.ensures.told)

pub returns-in-Echo-clause-done : goal.returns-in-Echo-clause-done
returns-in-Echo-clause-done g c s stands =
    does-as c.tell-in-Echo.result s _ c.args.line.now c.args.command (asks.Echo c.in-Echo.on) _ _ _ _ c.in-Echo.is
    (does-tell c.tell-in-Echo.result None _ s (with_echo c.in-Echo.on s) c.args.line.now c.deref-in-Echo.result.now (codes "ok") (codes "ok") _ _ _ _ (echo-stands c.args.self.now _ s c.in-Echo.on stands refl refl refl refl)
    (same-echo c.args.self.now s c.args.line.now c.deref-in-Echo.result.now stands (c.deref-in-Echo.ensures.0 ∙ c.echo-echo.ensures)) (refl) c.tell-in-Echo.ensures.told)

pub returns-in-Lines-clause-done : goal.returns-in-Lines-clause-done
returns-in-Lines-clause-done g c s stands =
    does-as c.tell-in-Lines.result s _ c.args.line.now c.args.command (asks.Lines c.in-Lines.is_wide) _ _ _ _ c.in-Lines.is
    (does-tell c.tell-in-Lines.result None _ s (with_lines c.in-Lines.is_wide s) c.args.line.now c.deref-in-Lines.result.now (codes "ok") (codes "ok") _ _ _ _ (lines-stands c.args.self.now _ s c.in-Lines.is_wide stands c.lay_lines.ensures refl refl refl)
    (same-echo c.args.self.now s c.args.line.now c.deref-in-Lines.result.now stands (c.deref-in-Lines.ensures.0 ∙ c.echo-echo.ensures)) (refl) c.tell-in-Lines.ensures.told)

pub returns-in-Save-clause-done : goal.returns-in-Save-clause-done
returns-in-Save-clause-done g c s stands =
    does-as c.tell_saved.result s _ c.args.line.now c.args.command asks.Save _ _ _ _ c.in-Save.is
    (does-tell c.tell_saved.result None _ s s c.args.line.now c.deref-in-Save.result.now (saved_text c.args.self.now.course.kept.kept c.args.self.now.course.bench.tick) (saved_text (kept_of s.plan s.inputs) (present s).now) _ _ _ _ stands
    (same-echo c.args.self.now s c.args.line.now c.deref-in-Save.result.now stands (c.deref-in-Save.ensures.0 ∙ c.echo-echo.ensures)) (λ j. saved_text (present-kept c.args.self.now s stands j) (ap (λ (v : State). v.now) (present-state c.args.self.now s stands) j)) c.tell_saved.ensures.told)

pub returns-in-Help-clause-done : goal.returns-in-Help-clause-done
returns-in-Help-clause-done g c s stands =
    does-as c.tell-in-Help.result s _ c.args.line.now c.args.command asks.Help _ _ _ _ c.in-Help.is
    (does-tell c.tell-in-Help.result None _ s s c.args.line.now c.deref-in-Help.result.now HELP.now HELP.now _ _ _ _ stands
    (same-echo c.args.self.now s c.args.line.now c.deref-in-Help.result.now stands (c.deref-in-Help.ensures.0 ∙ c.echo-echo.ensures)) (refl) c.tell-in-Help.ensures.told)
