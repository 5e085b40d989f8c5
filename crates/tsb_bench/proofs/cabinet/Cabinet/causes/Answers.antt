use Rattle.std.proofs.Common.{◌≡◌, ◌∙◌, ℕ, ◌+◌, ◌-◌, false, List, Option, None, refl, sym, ap, subst, arith}
use Rattle.tsb_types.specs.Intervals.{is_yellow}
use Rattle.tsb_types.proofs.OptionLemmas.{is-none}
use Rattle.tsb_objects.specs.Checked.{checked_plan}
use Rattle.tsb_plan.specs.PlanOf.{plan_of}
use Rattle.tsb_phase.specs.Promises.{TellsIntervals}
use Rattle.tsb_step.specs.Cells.{clock_at}
use Rattle.tsb_step.specs.Events.{ends_freely}
use Rattle.tsb_step.specs.MonitorCells.{trip_in}
use Rattle.tsb_step.specs.State.{Tripped}
use Rattle.tsb_step.specs.Step.{step}
use Rattle.tsb_step.specs.declared.inputs.Input.TheVariants as inputs
use Rattle.tsb_controller.specs.Layer as layers
use Rattle.tsb_controller.specs.Rows.{AreBy, Rows}
use Rattle.tsb_controller.specs.Whole.{all_in}
use Rattle.tsb_controller.proofs.SeenLemmas.{yellow-set}
use Rattle.tsb_bench.specs.Cabinet.{rows_of}
use Rattle.tsb_bench.proofs.TellingLemmas.{causes-told, plan-stays, tick-below, tripped-ends-none}
use Rattle.tsb_bench.proofs.cabinet.Cabinet.causes.Goals as goal

-- no set has a phase, and no green ends
pub returns-then-before : goal.returns-then-before
returns-then-before c a now before by stepped = record {
  gap = λ p from to. c.none.ensures.gap p ∙ sym (rw (ends p) refl);
  maximum = λ p from to. c.none.ensures.maximum p ∙ sym (rw (ends p) refl);
  force_off = λ p from to. c.none.ensures.force_off p ∙ sym (rw (ends p) refl);
}
  where
    ends : (p : ℕ) → ends_freely (all_in c.args.before.now.tick a) c.args.row.now (step (all_in c.args.before.now.tick a) (inputs.Tick c.args.row.now)) p ≡ false
    ends p = tripped-ends-none (all_in c.args.before.now.tick a) c.args.row.now p (sym before.tripped ∙ c.if-before.true)

pub overflow_add-before : goal.overflow_add-before
overflow_add-before c = let was = c.requires.was in let least = tick-below c.args.before.now.tick was.0 c.args.row.now was.3 in omega (arith, least)

pub causes-requires-clause-in_time : goal.causes-requires-clause-in_time
causes-requires-clause-in_time c = let was = c.requires.was in let least = tick-below c.args.before.now.tick was.0 c.args.row.now was.3 in omega (arith, least)

-- the controller has not tripped
pub causes-requires-clause-by : goal.causes-requires-clause-by
causes-requires-clause-by c =
    let was = c.requires.was in
    let number : c.args.before.now.tick ≡ c.args.before.now.tick + 1 - 1 = omega arith in
    let none : trip_in was.0.monitor ≡ None = is-none (trip_in was.0.monitor) (sym was.1.tripped ∙ c.if-before.false) in
    subst (λ (n : ℕ). AreBy n (layers.rows_of c.args.before.now.controller)) number
    (subst (λ (r : Rows). AreBy c.args.before.now.tick r) (sym was.1.layers)
    (subst (λ (o : Option Tripped). AreBy (clock_at c.args.before.now.tick o) was.0.layers) none was.2.layers))

pub returns : goal.returns
unfolding checked_plan plan_of
returns c a now before by stepped =
    causes-told c.args.before.now.tick now a (rows_of c.args.self.now) c.args.row.now (checked_plan c.args.self.now.plan) (layers.rows_of c.args.before.now.controller) c.difference-yellow.result c.causes.result
    (is-none (trip_in a.monitor) (sym before.tripped ∙ c.if-before.false))
    (plan-stays c.args.before.now.tick now a (rows_of c.args.self.now) c.args.row.now stepped) before.layers stepped
    (λ p from to. c.difference-yellow.ensures p ∙ yellow-set c.intervals-intervals.result p
    ∙ ap is_yellow (intervals (clock_at now (all_in now (rows_of c.args.self.now)).trip) p from to))
    c.causes.ensures
  where
    intervals : TellsIntervals (rows_of c.args.self.now).layers.phases c.intervals-intervals.result
    intervals = subst (λ (row : List ℕ). TellsIntervals row c.intervals-intervals.result) c.phases.ensures.cells c.intervals-intervals.ensures
