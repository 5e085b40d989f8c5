use Rattle.std.proofs.Common.{◌<◌, arith, sym, ◌∙◌, inl, inr, rules}
use Rattle.std.proofs.lemmas.Bool.{cases_lt}
use Rattle.tsb_plan.specs.PlanOf.{plan_of}
use Rattle.tsb_objects.proofs.TableLemmas.{no-trail-behind}
use Rattle.tsb_objects.proofs.part_tables.trailing_of.Goals as goal

pub returns : goal.returns
unfolding plan_of
returns c n =
    elim (cases_lt n c.loop-number.number) [
      | inl below ↦ c.loop-number.invariant.told n below
      | inr above ↦
          let behind : 16 < n = omega arith in
          c.loop-number.invariant.rest n above ∙ sym (no-trail-behind c.args.plan.now.values n behind)
    ]

pub loop-number-preserved : goal.loop-number-preserved
unfolding plan_of
loop-number-preserved c = search rules fits 300
