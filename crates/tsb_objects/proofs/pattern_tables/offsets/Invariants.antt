use Rattle.std.proofs.Common.{◌≡◌, ℕ, ◌+◌, ◌<◌, true, get_or, length}
use Rattle.tsb_plan.specs.Parts.{is_used}
use Rattle.tsb_plan.specs.PlanOf.{plan_of}
use Rattle.tsb_objects.specs.Instants.{offset_in_effect}
use Rattle.tsb_objects.proofs.pattern_tables.offsets.Given as goal

-- word j so far is the offset in effect of pattern j + 1
abbrev pub invariant-loop-k : goal.invariant-loop-k
invariant-loop-k l = record {
  full : length l.words ≡ 16;
  told : (j : ℕ) → j < l.k → is_used (plan_of l.plan) (j + 1) ≡ true → get_or l.words j 0 ≡ offset_in_effect (plan_of l.plan) (j + 1);
}
