-- The tables of a checked plan: what the plan says of all its phases at once, as sets.
use Rattle.std.specs.Prelude.{◌≡◌, ℕ, ◌+◌, ◌<◌, ◌==◌, nat_le, not, slice_index}
use Rattle.tsb_plan.specs.declared.object.Object.TheVariants.{VehicleDetectorDelay, VehicleDetectorNoActivity, VehicleDetectorMaxPresence, OverlapIncludedPhases, PreemptDwellPhase}
use Rattle.tsb_plan.specs.Plan.{Plan, is_enabled, is_non_locking, has_soft_recall, has_dual_entry, ring_of, side_of}
use Rattle.tsb_objects.specs.declared.detector_tables.DetectorTables.{DetectorTables}
use Rattle.tsb_objects.specs.declared.part_tables.PartTables.{PartTables}
use Rattle.tsb_objects.specs.declared.tables.PhaseTables.{PhaseTables}
use Rattle.tsb_objects.specs.TimedOverlaps.{AreArrows, AreTimed}
use Rattle.tsb_rules.specs.Rules.{has_walk}
use Rattle.tsb_types.specs.Sets.{names, has, has_detector, has_number}

-- what the tables of phases say; in an array the first word is of ring 1 or side 1
pub record ArePhaseTables (plan : Plan) (tables : PhaseTables) : Type 0 where
  pub enabled : (p : ℕ) → has tables.enabled p ≡ is_enabled plan p
  pub non_locking : (p : ℕ) → has tables.non_locking p ≡ is_non_locking plan p
  pub soft_recall : (p : ℕ) → has tables.soft_recall p ≡ has_soft_recall plan p
  pub dual_entry : (p : ℕ) → has tables.dual_entry p ≡ has_dual_entry plan p
  pub walk : (p : ℕ) → has tables.with_walk p ≡ has_walk plan p
  pub rings : (k p : ℕ) → k < 2 → names (slice_index tables.rings k) p ≡ (ring_of plan p == k + 1)
  pub sides : (k p : ℕ) → k < 4 → names (slice_index tables.sides k) p ≡ (side_of plan p == k + 1)

-- what the tables of detectors say
pub record AreDetectorTables (plan : Plan) (tables : DetectorTables) : Type 0 where
  pub delay : (d : ℕ) → has_detector tables.with_delay d ≡ nat_le 1 (plan.value VehicleDetectorDelay d)
  pub no_activity : (d : ℕ) → has_detector tables.with_no_activity d ≡ nat_le 1 (plan.value VehicleDetectorNoActivity d)
  pub maximum_presence : (d : ℕ) → has_detector tables.with_maximum_presence d ≡ nat_le 1 (plan.value VehicleDetectorMaxPresence d)

-- what the tables of overlaps and preempts say
pub record ArePartTables (plan : Plan) (tables : PartTables) : Type 0 where
  pub overlaps : (o : ℕ) → has_number tables.overlaps o ≡ not (plan.value OverlapIncludedPhases o == 0)
  pub arrows : AreArrows plan tables.arrows
  pub timed : AreTimed plan tables.timed
  pub preempts : (n : ℕ) → has_number tables.preempts n ≡ not (plan.value PreemptDwellPhase n == 0)
