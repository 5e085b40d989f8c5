-- Unions of sets of phases: what a table of them says, and which of them a checked plan has.
use Rattle.tsb_types.specs.declared.limits.TheConstants.{VEHICLE_DETECTORS}
use Rattle.std.specs.Prelude.{◌≡◌, ℕ, ◌+◌, ◌*◌, ◌<◌, ◌≤◌, ◌==◌, Bool, not, ◌&&◌, List, [], get_or, slice_index}
use Rattle.tsb_plan.specs.Parts.{call_phase, pedestrian_call_phase}
use Rattle.tsb_plan.specs.Plan.{Plan, is_concurrent}
use Rattle.tsb_objects.specs.declared.unions.Unions.{Unions}
use Rattle.tsb_objects.specs.declared.unions.WideUnions.{WideUnions}
use Rattle.tsb_objects.specs.declared.union_tables.UnionTables.{UnionTables}
use Rattle.tsb_types.specs.Lists.{some_passes, run_from, is}
use Rattle.tsb_types.specs.Sets.{names}

-- `test n p`: phase p is in the set of number n. A word is of a set k of numbers from 1 to 8, as a list: it has the
-- phases that are in the set of one of these.
abbrev pub AreOfEight : (ℕ → ℕ → Bool) → List ℕ → Type 0
AreOfEight test words =
    (k p : ℕ) → k < 256 → 1 ≤ p → p ≤ 16 → names (slice_index words k) p ≡ some_passes (λ n. names k n && test n p) (run_from 1 8)

-- the words of numbers 1 to 8, and those of 9 to 16
pub record AreUnions (test : ℕ → ℕ → Bool) (unions : Unions) : Type 0 where
  pub low : AreOfEight test unions.low
  pub high : AreOfEight (λ n p. test (8 + n) p) unions.high

-- the words of detectors 1 to 8, then those of 9 to 16, and so on
pub record AreWideUnions (test : ℕ → ℕ → Bool) (unions : WideUnions) : Type 0 where
  pub each : (k : ℕ) → 8 * k < VEHICLE_DETECTORS → AreOfEight (λ n p. test (8 * k + n) p) (get_or unions.eights k [])

-- the set of a detector is the phase that it calls, and that of a phase is those other than it that are not concurrent
-- with it
pub record AreUnionTables (plan : Plan) (tables : UnionTables) : Type 0 where
  pub called : AreWideUnions (λ d p. is p (call_phase plan d)) tables.called
  pub walks_called : AreUnions (λ d p. is p (pedestrian_call_phase plan d)) tables.walks_called
  pub conflicts : AreUnions (λ q p. not (q == p) && not (is_concurrent plan p q)) tables.conflicts
