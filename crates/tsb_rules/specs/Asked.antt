-- What a check asks one by one: of each phase, of each phase that a list names, of each overlap, preempt and pattern.
-- The rules say the same in their own words, and each comes to one of these tests for all of them.
use Rattle.std.specs.Prelude.{ℕ, ◌==◌, nat_le, nat_lt, Bool, not, ◌&&◌, ◌||◌, List}
use Rattle.std.specs.List.{list_all}
use Rattle.tsb_plan.specs.declared.object.Object.TheVariants.{PhaseConcurrency, OverlapIncludedPhases}
use Rattle.tsb_rules.specs.declared.rules.asked.OfEnabled.{OfEnabled}
use Rattle.tsb_rules.specs.declared.rules.asked.OfEnabled.TheVariants.{Placed, NamesAcrossRings, LongYellow, ReducibleGap, ReachedMinimum, WalkRecalled, ReachedByLimit, HeldBy}
use Rattle.tsb_rules.specs.declared.rules.asked.OfPhase.{OfPhase}
use Rattle.tsb_rules.specs.declared.rules.asked.OfPhase.TheVariants.{EmptyUnused, NamedBack, ConcurrentIn, CoordinatesIn}
use Rattle.tsb_rules.specs.declared.rules.asked.Sought.{Sought}
use Rattle.tsb_rules.specs.declared.rules.asked.Sought.TheVariants.{Enabled, CoordinatedIn, OnSide}
use Rattle.tsb_rules.specs.declared.rules.lists.OfNamed.{OfNamed}
use Rattle.tsb_rules.specs.declared.rules.lists.OfNamed.TheVariants.{IsEnabled, IsAcross, NamesBack, GoesWith, Is, Opposes}
use Rattle.tsb_rules.specs.declared.rules.lists.OfOverlap.{OfOverlap}
use Rattle.tsb_rules.specs.declared.rules.lists.OfOverlap.TheVariants.{IncludesEnabled, ModifiesRightly, PointsRightly, TrailsRightly}
use Rattle.tsb_rules.specs.declared.rules.lists.OfPreempt.{OfPreempt}
use Rattle.tsb_rules.specs.declared.rules.lists.OfPreempt.TheVariants.{HasConcurrentLists, DwellsOrIsEmpty}
use Rattle.tsb_rules.specs.declared.rules.patterns.OfPattern.{OfPattern}
use Rattle.tsb_rules.specs.declared.rules.patterns.OfPattern.TheVariants.{Whole, HoldsPhases, FillsCycle, IsCoordinated, PermissiveTimeEnds}
use Rattle.tsb_rules.specs.declared.rules.sequences.OfListed.{OfListed}
use Rattle.tsb_rules.specs.declared.rules.sequences.OfListed.TheVariants.{IsOfRing, IsFromSide}
use Rattle.tsb_plan.specs.Parts.{cycle, permissive_time, leads_and_lags, split_of, sequence_of, is_coordinated}
use Rattle.tsb_plan.specs.Plan.{Plan, phases, is_enabled, has_pedestrian_recall, ring_of, side_of, is_concurrent, minimum_green, minimum_gap, passage, yellow_change, dynamic_maximum_limit}
use Rattle.tsb_rules.specs.PatternRules.{some_and, is_whole, holds_phase, holds_phases, fills, is_on, coordinates, coordinated_agree}
use Rattle.tsb_rules.specs.Rules.{is_placed, names_across_rings, is_named_back, may_be_concurrent, reaches_minimum, has_walk, goes_with_all, names_enabled, has_concurrent_lists, dwells_or_is_empty, modifies_rightly, points_rightly, trails_rightly}
use Rattle.tsb_types.specs.Sets.{names}

-- of each enabled phase: K2, K4, K8 to K11, K22, and K18 of split table t
abbrev pub enabled_meets : OfEnabled → Plan → ℕ → Bool
enabled_meets Placed plan = is_placed plan
enabled_meets NamesAcrossRings plan = names_across_rings plan
enabled_meets LongYellow plan = λ p. nat_le 30 (yellow_change plan p)
enabled_meets ReducibleGap plan = λ p. nat_le (minimum_gap plan p) (passage plan p)
enabled_meets ReachedMinimum plan = reaches_minimum plan
enabled_meets WalkRecalled plan = λ p. not (has_pedestrian_recall plan p) || has_walk plan p
enabled_meets ReachedByLimit plan = λ p. dynamic_maximum_limit plan p == 0 || nat_le (minimum_green plan p) (dynamic_maximum_limit plan p)
enabled_meets (HeldBy t) plan = holds_phase plan t

-- of each phase: K3, K5, K15 of a list, and K20 of sequence s and split table t, whose coordinated splits may end apart
-- or not
abbrev pub phase_meets : OfPhase → Plan → ℕ → Bool
phase_meets EmptyUnused plan = λ p. is_enabled plan p || plan.value PhaseConcurrency p == 0
phase_meets NamedBack plan = is_named_back plan
phase_meets (ConcurrentIn list) plan = λ p. not (names list p) || (is_enabled plan p && goes_with_all plan list p)
phase_meets (CoordinatesIn apart s t) plan = λ p. not (is_coordinated plan t p) || coordinates plan apart s t p

-- what some phase has to be: K1, K20 of split table t, and an enabled one of ring r on side d
abbrev pub is_sought : Sought → Plan → ℕ → Bool
is_sought Enabled plan = is_enabled plan
is_sought (CoordinatedIn t) plan = is_coordinated plan t
is_sought (OnSide r d) plan = is_on plan r d

-- a test that each phase passes that a list names
abbrev pub each_named : Plan → ℕ → (ℕ → Bool) → Bool
each_named plan list test = list_all (λ q. not (names list q) || test q) (phases plan)

-- of each phase that a list names: K14 and K21, K4 and K5 in the list of p, K15 beside p, and K28 of the turn p
abbrev pub named_meets : OfNamed → Plan → ℕ → Bool
named_meets IsEnabled plan = is_enabled plan
named_meets (IsAcross p) plan = may_be_concurrent plan p
named_meets (NamesBack p) plan = λ q. is_concurrent plan q p
named_meets (GoesWith p) plan = λ q. p == q || is_concurrent plan p q
named_meets (Is p) plan = λ q. q == p
named_meets (Opposes p) plan = λ q. not (q == p) && not (is_concurrent plan p q)

-- of each overlap: K14, K21, K28 and K29
abbrev pub overlap_meets : OfOverlap → Plan → ℕ → Bool
overlap_meets IncludesEnabled plan = λ o. names_enabled plan (plan.value OverlapIncludedPhases o)
overlap_meets ModifiesRightly plan = modifies_rightly plan
overlap_meets PointsRightly plan = points_rightly plan
overlap_meets TrailsRightly plan = trails_rightly plan

-- of each preempt: K15 and K16
abbrev pub preempt_meets : OfPreempt → Plan → ℕ → Bool
preempt_meets HasConcurrentLists plan = has_concurrent_lists plan
preempt_meets DwellsOrIsEmpty plan = dwells_or_is_empty plan

-- of each used pattern: K17 to K20, and K23
abbrev pub pattern_meets : OfPattern → Plan → ℕ → Bool
pattern_meets Whole plan = is_whole plan
pattern_meets HoldsPhases plan = λ n. some_and (holds_phases plan) (split_of plan n)
pattern_meets FillsCycle plan = λ n. some_and (fills plan n) (split_of plan n)
pattern_meets IsCoordinated plan = λ n. some_and (λ s. some_and (coordinated_agree plan (leads_and_lags plan n) s) (split_of plan n)) (sequence_of plan n)
pattern_meets PermissiveTimeEnds plan = λ n. nat_lt (permissive_time plan n) (cycle plan n)

-- of each listed phase: K6 and K7, that it is of ring r, and that it is of side d or a higher one
abbrev pub listed_meets : OfListed → Plan → ℕ → Bool
listed_meets (IsOfRing r) plan = λ q. is_enabled plan q && ring_of plan q == r
listed_meets (IsFromSide d) plan = λ q. nat_le d (side_of plan q)

-- a test that each listed phase passes
abbrev pub each_listed : List ℕ → (ℕ → Bool) → Bool
each_listed ps test = list_all (λ q. q == 0 || test q) ps
