use Rattle.std.proofs.Common.{Bool, ◌||◌, ◌∙◌, ap₂}
use Rattle.tsb_plan.specs.declared.object.Object.TheVariants.{OverlapIncludedPhases, PreemptDwellPhase}
use Rattle.tsb_plan.specs.PlanOf.{plan_of}
use Rattle.tsb_objects.proofs.TableLemmas.{is-some}
use Rattle.tsb_objects.proofs.part_tables.PartTables.of.Goals as goal

pub returns : goal.returns
unfolding plan_of
returns c = record {
  overlaps = λ o. c.numbers_with.ensures o ∙ is-some ((plan_of c.args.plan.now).value OverlapIncludedPhases o);
  arrows = c.arrows_of-arrows.ensures;
  timed = λ o. c.union.ensures o ∙ ap₂ (λ (a b : Bool). a || b) (c.arrows_of-arrows.ensures o) (c.trailing_of.ensures o);
  preempts = λ n. c.numbers_with-2.ensures n ∙ is-some ((plan_of c.args.plan.now).value PreemptDwellPhase n);
}
