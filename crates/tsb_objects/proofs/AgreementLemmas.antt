-- What a table says of a plan it says of each plan that agrees with it on the objects that the table is made from.
use Rattle.std.proofs.Common.{◌≡◌, ◌∙◌, ℕ, Bool, true, false, if◌then◌else◌, List, Option, Some, None, refl, sym, ap, ap₂, subst}
use Rattle.std.proofs.Math.Path.{fun_ext}
use Rattle.tsb_plan.specs.declared.object.Object.{Object}
use Rattle.tsb_plan.specs.declared.plan.patterns.OffsetReference.{OffsetReference}
use Rattle.tsb_plan.specs.declared.plan.patterns.OffsetReference.TheVariants.{SplitEnd, FirstGreen, LastGreen, FirstYellow, LastYellow, FirstRed}
use Rattle.tsb_plan.specs.Parts.{offset_reference}
use Rattle.tsb_plan.specs.Plan.{Plan, all_counts}
use Rattle.tsb_plan.specs.PlanOf.{plan_in}
use Rattle.tsb_objects.specs.declared.detector_tables.DetectorTables.{DetectorTables}
use Rattle.tsb_objects.specs.declared.pattern_tables.PatternTables.{PatternTables}
use Rattle.tsb_objects.specs.declared.tables.PhaseTables.{PhaseTables}
use Rattle.tsb_objects.specs.declared.union_tables.UnionTables.{UnionTables}
use Rattle.tsb_objects.specs.Agreement.{Agree, is_for_phases, is_for_detectors, is_for_patterns, is_for_unions}
use Rattle.tsb_objects.specs.declared.offsets.SplitMoment.{SplitMoment}
use Rattle.tsb_objects.specs.declared.offsets.SplitMoment.TheVariants.{GreenBegin, YellowBegin, RedBegin}
use Rattle.tsb_objects.specs.Instants.{reference, coordinated_in_ring, force_off, end_within, moment_of, moment_in, moment_in_ring, lesser, greater, first_moment, last_moment, counted_to, offset_from, offset_in_effect}
use Rattle.tsb_objects.specs.PatternTables.{ArePatternTables}
use Rattle.tsb_objects.specs.Tables.{ArePhaseTables, AreDetectorTables}
use Rattle.tsb_objects.specs.Unions.{AreUnionTables}
use Rattle.tsb_rules.specs.PatternRules.{split_sum, side_sum, split_end}

-- the plan with the values of those objects alone that pass the test
abbrev only : (Object → Bool) → Plan → Plan
only test plan = record {
  phase_count = plan.phase_count;
  side_count = plan.side_count;
  counts = plan.counts;
  value = λ o i. if test o then plan.value o i else 0;
}

-- plans that agree on these objects are one then
same-only : (test : Object → Bool) (cells others : List ℕ) → Agree test (plan_in cells) (plan_in others) → only test (plan_in cells) ≡ only test (plan_in others)
same-only test cells others agree =
    ap (λ (f : Object → ℕ → ℕ). let made : Plan = record { phase_count = 16; side_count = 4; counts = all_counts; value = f } in made)
    (fun_ext (λ o. fun_ext (λ i. go o i (test o) refl)))
  where
    go : (o : Object) (i : ℕ) (b : Bool) → test o ≡ b → (if b then (plan_in cells).value o i else 0) ≡ (if b then (plan_in others).value o i else 0)
    go o i true is = agree.each o i is
    go o i false is = refl

-- ## The tables of phases

phases-in : (plan : Plan) (tables : PhaseTables) → ArePhaseTables plan tables → ArePhaseTables (only is_for_phases plan) tables
phases-in plan tables are = record {
  enabled = are.enabled;
  non_locking = are.non_locking;
  soft_recall = are.soft_recall;
  dual_entry = are.dual_entry;
  walk = are.walk;
  rings = are.rings;
  sides = are.sides;
}

phases-out : (plan : Plan) (tables : PhaseTables) → ArePhaseTables (only is_for_phases plan) tables → ArePhaseTables plan tables
phases-out plan tables are = record {
  enabled = are.enabled;
  non_locking = are.non_locking;
  soft_recall = are.soft_recall;
  dual_entry = are.dual_entry;
  walk = are.walk;
  rings = are.rings;
  sides = are.sides;
}

pub same-phases : (cells others : List ℕ) (tables : PhaseTables) → Agree is_for_phases (plan_in cells) (plan_in others) →
    ArePhaseTables (plan_in cells) tables → ArePhaseTables (plan_in others) tables
same-phases cells others tables agree are =
    phases-out (plan_in others) tables
    (subst (λ (plan : Plan). ArePhaseTables plan tables) (same-only is_for_phases cells others agree) (phases-in (plan_in cells) tables are))

-- ## The tables of detectors

detectors-in : (plan : Plan) (tables : DetectorTables) → AreDetectorTables plan tables → AreDetectorTables (only is_for_detectors plan) tables
detectors-in plan tables are = record { delay = are.delay; no_activity = are.no_activity; maximum_presence = are.maximum_presence }

detectors-out : (plan : Plan) (tables : DetectorTables) → AreDetectorTables (only is_for_detectors plan) tables → AreDetectorTables plan tables
detectors-out plan tables are = record { delay = are.delay; no_activity = are.no_activity; maximum_presence = are.maximum_presence }

pub same-detectors : (cells others : List ℕ) (tables : DetectorTables) → Agree is_for_detectors (plan_in cells) (plan_in others) →
    AreDetectorTables (plan_in cells) tables → AreDetectorTables (plan_in others) tables
same-detectors cells others tables agree are =
    detectors-out (plan_in others) tables
    (subst (λ (plan : Plan). AreDetectorTables plan tables) (same-only is_for_detectors cells others agree) (detectors-in (plan_in cells) tables are))

-- ## The unions

unions-in : (plan : Plan) (tables : UnionTables) → AreUnionTables plan tables → AreUnionTables (only is_for_unions plan) tables
unions-in plan tables are = record {
  called = record { each = are.called.each };
  walks_called = record { low = are.walks_called.low; high = are.walks_called.high };
  conflicts = record { low = are.conflicts.low; high = are.conflicts.high };
}

unions-out : (plan : Plan) (tables : UnionTables) → AreUnionTables (only is_for_unions plan) tables → AreUnionTables plan tables
unions-out plan tables are = record {
  called = record { each = are.called.each };
  walks_called = record { low = are.walks_called.low; high = are.walks_called.high };
  conflicts = record { low = are.conflicts.low; high = are.conflicts.high };
}

pub same-unions : (cells others : List ℕ) (tables : UnionTables) → Agree is_for_unions (plan_in cells) (plan_in others) →
    AreUnionTables (plan_in cells) tables → AreUnionTables (plan_in others) tables
same-unions cells others tables agree are =
    unions-out (plan_in others) tables
    (subst (λ (plan : Plan). AreUnionTables plan tables) (same-only is_for_unions cells others agree) (unions-in (plan_in cells) tables are))

-- ## The tables of patterns

-- the offset in effect is by the same moments
moment-same : (plan : Plan) (moment : SplitMoment) (n p : ℕ) → moment_of moment (only is_for_patterns plan) n p ≡ moment_of moment plan n p
unfolding split_end side_sum split_sum
moment-same plan GreenBegin n p = refl
moment-same plan YellowBegin n p = refl
moment-same plan RedBegin n p = refl

moment-in-same : (plan : Plan) (moment : SplitMoment) (n : ℕ) (c : Option ℕ) → moment_in moment (only is_for_patterns plan) n c ≡ moment_in moment plan n c
moment-in-same plan moment n None = refl
moment-in-same plan moment n (Some c) = ap Some (moment-same plan moment n c)

coordinated-same : (plan : Plan) (n r : ℕ) → coordinated_in_ring (only is_for_patterns plan) n r ≡ coordinated_in_ring plan n r
coordinated-same plan n r = refl

ring-same : (plan : Plan) (moment : SplitMoment) (n r : ℕ) → moment_in_ring moment (only is_for_patterns plan) n r ≡ moment_in_ring moment plan n r
ring-same plan moment n r =
    ap (moment_in moment (only is_for_patterns plan) n) (coordinated-same plan n r)
    ∙ moment-in-same plan moment n (coordinated_in_ring plan n r)

first-same : (plan : Plan) (moment : SplitMoment) (n : ℕ) → first_moment moment (only is_for_patterns plan) n ≡ first_moment moment plan n
first-same plan moment n = ap₂ lesser (ring-same plan moment n 1) (ring-same plan moment n 2)

last-same : (plan : Plan) (moment : SplitMoment) (n : ℕ) → last_moment moment (only is_for_patterns plan) n ≡ last_moment moment plan n
last-same plan moment n = ap₂ greater (ring-same plan moment n 1) (ring-same plan moment n 2)

counted-same : (plan : Plan) (reference : OffsetReference) (n : ℕ) → counted_to reference (only is_for_patterns plan) n ≡ counted_to reference plan n
counted-same plan SplitEnd n = refl
counted-same plan FirstGreen n = first-same plan GreenBegin n
counted-same plan LastGreen n = last-same plan GreenBegin n
counted-same plan FirstYellow n = first-same plan YellowBegin n
counted-same plan LastYellow n = last-same plan YellowBegin n
counted-same plan FirstRed n = first-same plan RedBegin n

end-same : (plan : Plan) (n : ℕ) → end_within (only is_for_patterns plan) n (reference (only is_for_patterns plan) n) ≡ end_within plan n (reference plan n)
unfolding split_end side_sum split_sum
end-same plan n = refl

from-same : (plan : Plan) (n : ℕ) (moment end : Option ℕ) → offset_from (only is_for_patterns plan) n moment end ≡ offset_from plan n moment end
from-same plan n None end = refl
from-same plan n (Some x) None = refl
from-same plan n (Some x) (Some e) = refl

offset-same : (plan : Plan) (n : ℕ) → offset_in_effect (only is_for_patterns plan) n ≡ offset_in_effect plan n
offset-same plan n =
    ap₂ (offset_from (only is_for_patterns plan) n) (counted-same plan (offset_reference plan) n) (end-same plan n)
    ∙ from-same plan n (counted_to (offset_reference plan) plan n) (end_within plan n (reference plan n))

patterns-in : (plan : Plan) (tables : PatternTables) → ArePatternTables plan tables → ArePatternTables (only is_for_patterns plan) tables
unfolding force_off split_end side_sum split_sum
patterns-in plan tables are = record {
  coordinated = are.coordinated;
  omitted = are.omitted;
  minimum_recall = are.minimum_recall;
  maximum_recall = are.maximum_recall;
  pedestrian_recall = are.pedestrian_recall;
  pedestrian_recycle = are.pedestrian_recycle;
  instants = are.instants;
  ends = are.ends;
  waiting_points = are.waiting_points;
  offsets = λ n from to used. are.offsets n from to used ∙ sym (offset-same plan n);
}

patterns-out : (plan : Plan) (tables : PatternTables) → ArePatternTables (only is_for_patterns plan) tables → ArePatternTables plan tables
unfolding force_off split_end side_sum split_sum
patterns-out plan tables are = record {
  coordinated = are.coordinated;
  omitted = are.omitted;
  minimum_recall = are.minimum_recall;
  maximum_recall = are.maximum_recall;
  pedestrian_recall = are.pedestrian_recall;
  pedestrian_recycle = are.pedestrian_recycle;
  instants = are.instants;
  ends = are.ends;
  waiting_points = are.waiting_points;
  offsets = λ n from to used. are.offsets n from to used ∙ offset-same plan n;
}

pub same-patterns : (cells others : List ℕ) (tables : PatternTables) → Agree is_for_patterns (plan_in cells) (plan_in others) →
    ArePatternTables (plan_in cells) tables → ArePatternTables (plan_in others) tables
same-patterns cells others tables agree are =
    patterns-out (plan_in others) tables
    (subst (λ (plan : Plan). ArePatternTables plan tables) (same-only is_for_patterns cells others agree) (patterns-in (plan_in cells) tables are))
