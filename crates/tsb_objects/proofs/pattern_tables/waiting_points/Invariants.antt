use Rattle.std.proofs.Common.{◌≡◌, ℕ, ◌+◌, ◌<◌, true, get_or, length}
use Rattle.tsb_plan.specs.Parts.{is_used}
use Rattle.tsb_plan.specs.PlanOf.{plan_of}
use Rattle.tsb_objects.specs.Instants.{waiting_point}
use Rattle.tsb_objects.proofs.pattern_tables.waiting_points.Given as goal

-- the words so far are told, word j of pattern j + 1
abbrev pub invariant-loop-k : goal.invariant-loop-k
invariant-loop-k l = record {
  full : length l.words ≡ 16;
  told : (j : ℕ) → j < l.k → is_used (plan_of l.plan) (j + 1) ≡ true → get_or l.words j 0 ≡ waiting_point (plan_of l.plan) (j + 1);
}
