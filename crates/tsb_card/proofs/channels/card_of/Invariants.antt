use Rattle.std.proofs.Common.{◌≡◌, ℕ, suc, ◌<◌, ◌≤◌, false, get_or, length}
use Rattle.tsb_plan.specs.PlanOf.{plan_of}
use Rattle.tsb_types.specs.Sets.{has_number, set_of_list}
use Rattle.tsb_card.specs.Pairs.{is_permissive}
use Rattle.tsb_card.proofs.channels.card_of.Given as goal

-- rows so far are those of their channels, and the others are blank
abbrev pub invariant-loop-place : goal.invariant-loop-place
invariant-loop-place l = record {
  full : length l.rows ≡ 16;
  done : (k : ℕ) → k < l.place → (b : ℕ) → has_number (get_or l.rows k (set_of_list 0)) b ≡ is_permissive (plan_of l.plan) (suc k) b;
  left : (k : ℕ) → l.place ≤ k → (b : ℕ) → has_number (get_or l.rows k (set_of_list 0)) b ≡ false;
}
