use Rattle.std.proofs.Common.{◌<◌, arith, sym, ◌∙◌, inl, inr}
use Rattle.std.proofs.lemmas.Bool.{cases_lt}
use Rattle.tsb_plan.specs.Objects.{indices}
use Rattle.tsb_plan.specs.PlanOf.{plan_of}
use Rattle.tsb_objects.proofs.TableLemmas.{no-value-behind}
use Rattle.tsb_objects.proofs.tables.detectors_with.Goals as goal

pub returns : goal.returns
unfolding plan_of
returns c n =
    elim (cases_lt n c.loop-number.number) [
      | inl below ↦ c.loop-number.invariant.told n below
      | inr above ↦
          let behind : indices c.args.object < n = omega arith in
          c.loop-number.invariant.rest n above ∙ sym (no-value-behind c.args.plan.now.values c.args.object n behind)
    ]
