use Rattle.std.proofs.Common.{◌≡◌, ℕ, ◌+◌, ◌<◌, get_or, length}
use Rattle.tsb_types.specs.declared.limits.TheConstants.{VEHICLE_DETECTORS}
use Rattle.tsb_plan.specs.Parts.{call_phase}
use Rattle.tsb_plan.specs.PlanOf.{plan_of}
use Rattle.tsb_types.specs.Lists.{is}
use Rattle.tsb_types.specs.Sets.{names}
use Rattle.tsb_objects.proofs.union_tables.called.Given as goal

-- the sets so far are told
abbrev pub invariant-loop-k : goal.invariant-loop-k
invariant-loop-k l = record {
  full : length l.sets ≡ VEHICLE_DETECTORS;
  told : (j p : ℕ) → j < l.k → names (get_or l.sets j 0) p ≡ is p (call_phase (plan_of l.plan) (j + 1));
}
