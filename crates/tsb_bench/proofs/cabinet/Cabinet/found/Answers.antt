use Rattle.std.proofs.Common.{◌≡◌, ◌+◌, ◌∙◌, refl, sym, ap, subst, arith}
use Rattle.tsb_objects.specs.Checked.{checked_plan}
use Rattle.tsb_plan.specs.Plan.{Plan}
use Rattle.tsb_plan.specs.PlanOf.{plan_of}
use Rattle.tsb_phase.specs.declared.cause.Cause.TheVariants.{ForceOff, Gap, Maximum}
use Rattle.tsb_phase.specs.Causes.{cause}
use Rattle.tsb_preempt.specs.Preempts.{has_been_served}
use Rattle.tsb_step.specs.tsb_coord.Cells.{IsBy}
use Rattle.tsb_step.specs.tsb_coord.Cycle.{TellsYields, TellsZero, comes_to_zero, yields}
use Rattle.tsb_step.specs.Cells.{clock_at}
use Rattle.tsb_step.specs.Events.{ends_freely}
use Rattle.tsb_step.specs.MonitorCells.{trip_in}
use Rattle.tsb_step.specs.State.{State}
use Rattle.tsb_step.specs.Step.{step}
use Rattle.tsb_step.specs.Tick.{phases_given, phase_read, preempts_given, preempts_read}
use Rattle.tsb_step.specs.declared.inputs.Input.TheVariants as inputs
use Rattle.tsb_controller.specs.Causes.{TellsServed}
use Rattle.tsb_controller.specs.Rows.{Rows}
use Rattle.tsb_controller.specs.Whole.{all_in}
use Rattle.tsb_bench.specs.Cabinet.{rows_of}
use Rattle.tsb_bench.proofs.InputLemmas.{beside, clock-most}
use Rattle.tsb_bench.proofs.TellingLemmas.{caused, plan-stays, tick-below}
use Rattle.tsb_bench.proofs.cabinet.Cabinet.found.Goals as goal

pub is_served-requires-clause-in_time : goal.is_served-requires-clause-in_time
is_served-requires-clause-in_time c =
    let was = c.requires.was in
    let clock : c.args.before.now.clock ≡ clock_at c.args.before.now.tick (trip_in was.0.monitor) = was.1.clock in
    let most = clock-most c.args.before.now.tick was.0 was.2 in
    let below = tick-below c.args.before.now.tick was.0 c.args.row.now was.3 in
    omega (arith, clock, most, below)

pub comes_to_zero-requires-clause-in_time : goal.comes_to_zero-requires-clause-in_time
comes_to_zero-requires-clause-in_time c =
    let was = c.requires.was in tick-below c.args.before.now.tick was.0 c.args.row.now was.3

pub comes_to_zero-requires-clause-pattern_by : goal.comes_to_zero-requires-clause-pattern_by
comes_to_zero-requires-clause-pattern_by c =
    let was = c.requires.was in subst (λ (r : Rows). IsBy r.pattern) (sym was.1.layers) was.2.layers.pattern

pub yields-requires-clause-in_time : goal.yields-requires-clause-in_time
yields-requires-clause-in_time c =
    let was = c.requires.was in tick-below c.args.before.now.tick was.0 c.args.row.now was.3

pub yields-requires-clause-pattern_by : goal.yields-requires-clause-pattern_by
yields-requires-clause-pattern_by c =
    let was = c.requires.was in subst (λ (r : Rows). IsBy r.pattern) (sym was.1.layers) was.2.layers.pattern

pub returns : goal.returns
unfolding checked_plan plan_of
returns c a now before by stepped =
    let s : State = all_in c.args.before.now.tick a in
    let causes = c.causes-causes.ensures a now before by stepped in
    let ends = ends_freely s c.args.row.now (step s (inputs.Tick c.args.row.now)) in
    let plan : checked_plan c.args.self.now.plan ≡ s.plan = plan-stays c.args.before.now.tick now a (rows_of c.args.self.now) c.args.row.now stepped in
    let served = subst (λ (r : Rows). TellsServed c.args.before.now.clock c.args.row.now (checked_plan c.args.self.now.plan) r c.is_served.result) before.layers c.is_served.ensures in
    record {
      minimum = λ p from to. c.from_list.ensures.named p ∙ c.list.ensures p ∙ before.completed p from to;
      gap = λ p from to. causes.gap p from to ∙ caused Gap (ends p) (cause s.plan (phases_given s c.args.row.now) p (phase_read s p));
      maximum = λ p from to. causes.maximum p from to ∙ caused Maximum (ends p) (cause s.plan (phases_given s c.args.row.now) p (phase_read s p));
      force_off = λ p from to. causes.force_off p from to ∙ caused ForceOff (ends p) (cause s.plan (phases_given s c.args.row.now) p (phase_read s p));
      noted = refl;
      row = refl;
      zero = subst (λ (r : Rows). TellsZero (c.args.before.now.tick + 1) (checked_plan c.args.self.now.plan) r.pattern c.comes_to_zero.result) before.layers c.comes_to_zero.ensures
          ∙ ap (λ (x : Plan). comes_to_zero x s.pattern s.correction (c.args.before.now.tick + 1)) plan;
      yields = λ p from to. c.from_list-2.ensures.named p ∙ c.list-2.ensures p
          ∙ subst (λ (r : Rows). TellsYields (c.args.before.now.tick + 1) (checked_plan c.args.self.now.plan) r.pattern c.yields.result) before.layers c.yields.ensures p from to
          ∙ ap (λ (x : Plan). yields x s.pattern s.correction (c.args.before.now.tick + 1) p) plan;
      served = served c.args.before.now.tick (beside a) (sym plan) (sym before.clock)
          ∙ ap (λ (x : Plan). has_been_served x (preempts_given s c.args.row.now) (preempts_read s)) plan;
    }
