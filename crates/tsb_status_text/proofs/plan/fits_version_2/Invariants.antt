use Rattle.std.proofs.Common.{◌≡◌, ℕ, ◌<◌, ◌≤◌, ◌==◌, ◌||◌, true}
use Rattle.tsb_plan.specs.PlanOf.{plan_of}
use Rattle.tsb_status_text.specs.PlanLine.{is_of_version_2}
use Rattle.tsb_status_text.proofs.plan.fits_version_2.Given as goal

-- version 2 has each index so far at which the object is not 0, up to its value
abbrev pub invariant-loop-index : goal.invariant-loop-index
invariant-loop-index l = (k : ℕ) → 1 ≤ k → k < l.index → ((plan_of l.plan).value l.object k == 0 || is_of_version_2 (plan_of l.plan) l.object k) ≡ true
