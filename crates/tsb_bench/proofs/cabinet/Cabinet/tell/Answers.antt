use Rattle.std.proofs.Common.{◌≡◌, ◌∙◌, sym, ap, subst}
use Rattle.tsb_objects.specs.Checked.{checked_plan}
use Rattle.tsb_plan.specs.PlanOf.{plan_of}
use Rattle.tsb_step.specs.Events.{Found, events_between, events_of, found, selected, tick_events, view}
use Rattle.tsb_step.specs.State.{State}
use Rattle.tsb_step.specs.Step.{step}
use Rattle.tsb_step.specs.declared.inputs.Input.{Input}
use Rattle.tsb_step.specs.declared.inputs.Input.TheVariants as inputs
use Rattle.tsb_events.specs.Seen.{found_of, selected_of, view_of}
use Rattle.tsb_events.proofs.AgreeLemmas.{others-same, ticks-same}
use Rattle.tsb_controller.specs.Whole.{all_in}
use Rattle.tsb_bench.specs.Cabinet.{rows_of}
use Rattle.tsb_bench.specs.Telling.{IsAllowed}
use Rattle.tsb_bench.proofs.TellingLemmas.{other-told, plan-stays}
use Rattle.tsb_bench.proofs.cabinet.Cabinet.tell.Goals as goal

pub found-found-requires : goal.found-found-requires
unfolding checked_plan plan_of
found-found-requires c =
    let was = c.requires.was in
    let stepped = was.4 ∙ ap (step (all_in c.args.before.now.tick was.0)) c.in-Tick.is in
    record {
      was = (
        was.0,
        was.1,
        was.2,
        subst (IsAllowed c.args.before.now.tick was.0) c.in-Tick.is was.3,
        sym (plan-stays c.args.before.now.tick c.args.now was.0 (rows_of c.args.self.now) c.in-Tick.row stepped),
      );
    }

pub returns-in-Tick : goal.returns-in-Tick
unfolding events_of
returns-in-Tick c a before by stepped =
    c.tick_events.ensures
    ∙ ticks-same c.args.now (found_of c.found-found.result) f (view_of c.args.before.now.seen) (view s) (view_of c.view-seen.result) (view (all_in c.args.now (rows_of c.args.self.now)))
    (c.found-found.ensures a c.args.now before by ticked) before.seen c.view-seen.ensures.sees
    ∙ ap (λ (after : State). tick_events after.now f (view s) (view after)) ticked
    ∙ ap (λ (i : Input). events_of c.args.noted.now s i) (sym c.in-Tick.is)
  where
    s : State
    s = all_in c.args.before.now.tick a

    f : Found
    f = found c.args.noted.now s c.in-Tick.row (step s (inputs.Tick c.in-Tick.row))

    ticked : all_in c.args.now (rows_of c.args.self.now) ≡ step s (inputs.Tick c.in-Tick.row)
    ticked = stepped ∙ ap (step s) c.in-Tick.is

pub returns-in_default : goal.returns-in_default
unfolding events_of
returns-in_default c a before by stepped =
    c.other_events.ensures
    ∙ others-same c.args.now c.args.noted.now (view_of c.args.before.now.seen) (view s) (view_of c.view-seen.result) (view after)
    (selected_of c.args.before.now.selected) (selected s) (selected_of c.selected.result) (selected after)
    before.seen c.view-seen.ensures.sees (before.selected c.args.before.now.tick) (c.selected.ensures c.args.now)
    ∙ sym (other-told c.args.noted.now s after c.args.input.now c.in_default.not-Tick)
    ∙ ap (events_between c.args.noted.now s c.args.input.now) stepped
  where
    s : State
    s = all_in c.args.before.now.tick a

    after : State
    after = all_in c.args.now (rows_of c.args.self.now)
