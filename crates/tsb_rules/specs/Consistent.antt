-- What every plan that meets the rules is like, in facts that the layers of the controller stand on. Each is the
-- contract of a function in src/consistent.rt.
use Rattle.std.specs.Prelude.{◌≡◌, ◌≢◌, ℕ, ◌<◌, ◌≤◌, Bool, true, false, List, Some, None}
use Rattle.tsb_plan.specs.declared.object.Object.TheVariants.{OverlapTrailGreen, OverlapType, PreemptTrackPhase, PreemptDwellPhase, PreemptExitPhase}
use Rattle.tsb_types.specs.Lists.{among, first}
use Rattle.tsb_plan.specs.Parts.{is_used, cycle, offset, permissive_time, leads_and_lags, split_of, sequence_of, is_omitted, is_coordinated, is_track_phase, is_dwell_phase, is_exit_phase, is_included, is_modifier, includes_none, trail_yellow}
use Rattle.tsb_rules.specs.PatternRules.{split_end, coordinated_count, has_phases}
use Rattle.tsb_plan.specs.Plan.{Plan, phases, is_enabled, ring_of, side_of, is_concurrent, sequence}
use Rattle.tsb_rules.specs.Rules.{first_broken}
use Rattle.tsb_rules.specs.SequenceRules.{lists_once, rises, zeros_last}

-- p is the number of a phase
pub record IsPhase (plan : Plan) (p : ℕ) : Type 0 where
  pub from_one : 1 ≤ p
  pub within : p ≤ plan.phase_count

-- an enabled phase is of ring 1 or 2, and on one of the sides
pub record IsPlaced (plan : Plan) (p : ℕ) : Type 0 where
  pub ring_from : 1 ≤ ring_of plan p
  pub ring_to : ring_of plan p ≤ 2
  pub side_from : 1 ≤ side_of plan p
  pub side_to : side_of plan p ≤ plan.side_count

-- K2: each enabled phase has its ring and its side
abbrev pub PhasesArePlaced : Plan → Type 0
PhasesArePlaced plan = (p : ℕ) → IsPhase plan p → is_enabled plan p ≡ true → IsPlaced plan p

-- two concurrent phases are enabled, of the two rings and of one side, and concurrent the other way round
pub record GoTogether (plan : Plan) (p q : ℕ) : Type 0 where
  pub first_enabled : is_enabled plan p ≡ true
  pub second_enabled : is_enabled plan q ≡ true
  pub rings : ring_of plan p ≢ ring_of plan q
  pub sides : side_of plan p ≡ side_of plan q
  pub back : is_concurrent plan q p ≡ true

-- K3 to K5: where one phase's concurrency list names another, the two may be in service together
abbrev pub ConcurrentGoTogether : Plan → Type 0
ConcurrentGoTogether plan = (p q : ℕ) → IsPhase plan p → IsPhase plan q → is_concurrent plan p q ≡ true → GoTogether plan p q

-- a pattern that is used, with its sequence s and its split table t
pub record IsInUse (plan : Plan) (n s t : ℕ) : Type 0 where
  pub from_one : 1 ≤ n
  pub within : n ≤ 16
  pub used : is_used plan n ≡ true
  pub sequence : sequence_of plan n ≡ Some s
  pub split : split_of plan n ≡ Some t

-- a list has the phases of a ring, each once and no other, sides in rising order, with zeros only after them
pub record ListsRing (plan : Plan) (r : ℕ) (ps : List ℕ) : Type 0 where
  pub only_enabled : (p : ℕ) → among p ps ≡ true → p ≢ 0 → is_enabled plan p ≡ true
  pub only_ring : (p : ℕ) → among p ps ≡ true → p ≢ 0 → ring_of plan p ≡ r
  pub each : (p : ℕ) → IsPhase plan p → is_enabled plan p ≡ true → ring_of plan p ≡ r → among p ps ≡ true
  pub once : lists_once ps ≡ true
  pub sides : rises plan ps ≡ true
  pub last : zeros_last ps ≡ true

-- a sequence lists the phases of both rings
pub record ListsRings (plan : Plan) (s : ℕ) : Type 0 where
  pub first : ListsRing plan 1 (sequence plan s 1)
  pub second : ListsRing plan 2 (sequence plan s 2)

-- K6: sequence 1, that of free operation, lists both rings
abbrev pub FirstSequenceListsRings : Plan → Type 0
FirstSequenceListsRings plan = ListsRings plan 1

-- K6, K7 and K17: the sequence of each used pattern lists both rings
abbrev pub SequencesInUseListRings : Plan → Type 0
SequencesInUseListRings plan = (n s t : ℕ) → IsInUse plan n s t → ListsRings plan s

-- the phases that pass a test are enabled and pairwise concurrent
pub record AreCompatible (plan : Plan) (test : ℕ → Bool) : Type 0 where
  pub enabled : (p : ℕ) → IsPhase plan p → test p ≡ true → is_enabled plan p ≡ true
  pub concurrent : (p q : ℕ) → IsPhase plan p → IsPhase plan q → test p ≡ true → test q ≡ true → p ≢ q → is_concurrent plan p q ≡ true

-- what a preempt wants is compatible, and one that does not dwell wants nothing
pub record IsPreemptSound (plan : Plan) (n : ℕ) : Type 0 where
  pub track : AreCompatible plan (is_track_phase plan n)
  pub dwell : AreCompatible plan (is_dwell_phase plan n)
  pub exit : AreCompatible plan (is_exit_phase plan n)
  pub no_track : plan.value PreemptDwellPhase n ≡ 0 → plan.value PreemptTrackPhase n ≡ 0
  pub no_exit : plan.value PreemptDwellPhase n ≡ 0 → plan.value PreemptExitPhase n ≡ 0

-- K15 and K16: each preempt can be served, as what it wants is compatible
abbrev pub PreemptsAreSound : Plan → Type 0
PreemptsAreSound plan = (n : ℕ) → 1 ≤ n → n ≤ plan.counts.preempts → IsPreemptSound plan n

-- a used pattern has a sequence and a split table, and an offset below its cycle
pub record IsWhole (plan : Plan) (n : ℕ) : Type 0 where
  pub its_sequence : ℕ
  pub its_split : ℕ
  pub in_use : IsInUse plan n its_sequence its_split
  pub sequence_to : its_sequence ≤ 4
  pub split_to : its_split ≤ 8
  pub below : offset plan n < cycle plan n

-- K17: each used one of the 16 patterns has a sequence, a split table and an offset below its cycle
abbrev pub PatternsAreWhole : Plan → Type 0
PatternsAreWhole plan = (n : ℕ) → 1 ≤ n → n ≤ 16 → is_used plan n ≡ true → IsWhole plan n

-- two coordinated phases are on one side, the same or concurrent, and their splits end at one time unless they may end
-- apart
pub record EndTogether (plan : Plan) (apart : Bool) (s t p q : ℕ) : Type 0 where
  pub side : side_of plan p ≡ side_of plan q
  pub concurrent : p ≢ q → is_concurrent plan p q ≡ true
  pub ends : apart ≡ false → split_end plan s t p ≡ split_end plan s t q

-- the coordinated phases of a pattern: some, enabled, not omitted, ending together unless they may end apart, one of
-- each ring that has phases on their side
pub record AreCoordinated (plan : Plan) (apart : Bool) (s t : ℕ) : Type 0 where
  pub one : ℕ
  pub is_phase : IsPhase plan one
  pub is_one : is_coordinated plan t one ≡ true
  pub enabled : (p : ℕ) → IsPhase plan p → is_coordinated plan t p ≡ true → is_enabled plan p ≡ true
  pub served : (p : ℕ) → IsPhase plan p → is_coordinated plan t p ≡ true → is_omitted plan t p ≡ false
  pub together : (p q : ℕ) → IsPhase plan p → IsPhase plan q → is_coordinated plan t p ≡ true → is_coordinated plan t q ≡ true → EndTogether plan apart s t p q
  pub in_each_ring : (p r : ℕ) → IsPhase plan p → is_coordinated plan t p ≡ true → 1 ≤ r → r ≤ 2 → has_phases plan r (side_of plan p) ≡ true →
      coordinated_count plan t r ≡ 1

-- K20: each used pattern has coordinated phases that agree, by its sequence and its split table. They may end apart
-- where the pattern leads and lags
abbrev pub CoordinatedPhasesAgree : Plan → Type 0
CoordinatedPhasesAgree plan = (n s t : ℕ) → IsInUse plan n s t → AreCoordinated plan (leads_and_lags plan n) s t

-- K23: the permissive time of each used one of the 16 patterns is below its cycle
abbrev pub PermissiveTimesEnd : Plan → Type 0
PermissiveTimesEnd plan = (n : ℕ) → 1 ≤ n → n ≤ 16 → is_used plan n ≡ true → permissive_time plan n < cycle plan n

-- an arrow includes a phase, and has one modifier phase, its turn, which is enabled, not included, and concurrent with no
-- phase that it includes
pub record IsArrowSound (plan : Plan) (o : ℕ) : Type 0 where
  pub turn : ℕ
  pub is_phase : IsPhase plan turn
  pub is_first : first (is_modifier plan o) (phases plan) ≡ Some turn
  pub is_only : (p : ℕ) → IsPhase plan p → is_modifier plan o p ≡ true → p ≡ turn
  pub enabled : is_enabled plan turn ≡ true
  pub includes_some : includes_none plan o ≡ false
  pub apart : (p : ℕ) → IsPhase plan p → is_included plan o p ≡ true → p ≢ turn
  pub opposed : (p : ℕ) → IsPhase plan p → is_included plan o p ≡ true → is_concurrent plan turn p ≡ false

-- K21 and K28: each arrow, an overlap of type 2, has a turn that goes with no phase that it includes
abbrev pub ArrowsAreSound : Plan → Type 0
ArrowsAreSound plan = (o : ℕ) → 1 ≤ o → o ≤ plan.counts.overlaps → plan.value OverlapType o ≡ 2 → IsArrowSound plan o

-- an overlap that trails is normal, and has a trailing yellow of at least 3 s, in tenths of a second
pub record IsTrailSound (plan : Plan) (o : ℕ) : Type 0 where
  pub normal : plan.value OverlapType o ≡ 0
  pub yellow : 30 ≤ trail_yellow plan o

-- K29: each overlap with a trailing green is sound
abbrev pub TrailsAreSound : Plan → Type 0
TrailsAreSound plan = (o : ℕ) → 1 ≤ o → o ≤ plan.counts.overlaps → plan.value OverlapTrailGreen o ≢ 0 → IsTrailSound plan o

-- a fact of each plan that breaks no rule
abbrev pub OfConsistentPlans : (Plan → Type 0) → Type 0
OfConsistentPlans fact = (plan : Plan) → first_broken plan ≡ None → fact plan
