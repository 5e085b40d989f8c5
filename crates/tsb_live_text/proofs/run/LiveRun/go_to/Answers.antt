use Rattle.std.proofs.Common.{◌∙◌, ℕ, ap, sym}
use Rattle.tsb_bench.specs.Held.{Held}
use Rattle.tsb_step.specs.State.{State}
use Rattle.tsb_live_text.specs.GoTo.{command_to, tick_of}
use Rattle.tsb_live_text.specs.Live.{present}
use Rattle.tsb_live_text.proofs.LiveLemmas.{does-go, does-not-go, present-state, present-tick, same-echo}
use Rattle.tsb_live_text.proofs.run.LiveRun.go_to.Goals as goal

pub returns-in-Ok-clause-done : goal.returns-in-Ok-clause-done
returns-in-Ok-clause-done g c s stands =
    does-go c.in-Ok.tick (tick_of (present s).start_moment (present s).now c.args.aim) c.command_to-command.result c.obey.result _ s c.args.line.now _ _ _ _
    (sym c.in-Ok.is ∙ c.tick_of.ensures ∙ present-tick c.args.self.now s c.args.aim stands)
    (c.command_to-command.ensures ∙ ap (λ (n : ℕ). command_to n c.in-Ok.tick) (c.now.ensures.now ∙ ap (λ (h : Held). h.tick) c.bench.ensures ∙ ap (λ (v : State). v.now) (present-state c.args.self.now s stands)))
    (c.obey.ensures.done s stands)

pub returns-in-Err-clause-done : goal.returns-in-Err-clause-done
returns-in-Err-clause-done g c s stands =
    does-not-go c.in-Err.fault (tick_of (present s).start_moment (present s).now c.args.aim) c.tell_fault.result _ s c.args.line.now c.deref.result.now _ _ _ _
    (sym c.in-Err.is ∙ c.tick_of.ensures ∙ present-tick c.args.self.now s c.args.aim stands) stands
    (same-echo c.args.self.now s c.args.line.now c.deref.result.now stands (c.deref.ensures.0 ∙ c.echo-echo.ensures)) c.tell_fault.ensures.told
