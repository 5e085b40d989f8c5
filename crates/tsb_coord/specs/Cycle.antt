-- How the local counter goes, for event logs: the state of the cycle, local zero, and the yield points of coordinated
-- phases. A counter that takes two steps in a tick comes to both places, and one that stays for another tick comes to
-- none. That a state describes the counter, and not the cycle's length, is the profile's own.
use Rattle.std.specs.Prelude.{◌≡◌, ℕ, ◌+◌, ◌-◌, ◌%◌, ◌==◌, ◌≤◌, Bool, true, false, not, ◌&&◌, ◌||◌, if◌then◌else◌, List, Option, Some, None}
use Rattle.tsb_objects.specs.tsb_types.declared.event.TheConstants.{CYCLE_FREE, CYCLE_IN_STEP, CYCLE_ADDS, CYCLE_SUBTRACTS, CYCLE_DWELLS}
use Rattle.tsb_objects.specs.tsb_types.declared.phase_set.PhaseSet.{PhaseSet}
use Rattle.tsb_objects.specs.tsb_types.Sets.{has}
use Rattle.tsb_objects.specs.tsb_plan.declared.plan.patterns.CorrectionMode.{CorrectionMode}
use Rattle.tsb_objects.specs.tsb_plan.declared.plan.patterns.CorrectionMode.TheVariants as modes
use Rattle.tsb_objects.specs.tsb_plan.Plan.{Plan}
use Rattle.tsb_objects.specs.tsb_plan.Parts.{cycle, correction_mode}
use Rattle.tsb_objects.specs.tsb_plan.Running.{running, is_coordinated_now}
use Rattle.tsb_coord.specs.declared.cycle.CycleState.{CycleState}
use Rattle.tsb_coord.specs.declared.cycle.CycleState.TheVariants.{Free, InStep, Adds, Subtracts, Dwells}
use Rattle.tsb_coord.specs.Cells.{pattern_in, correction_in}
use Rattle.tsb_coord.specs.Coordinated.{agree, counter, force_off}
use Rattle.tsb_coord.specs.Correction.{Correction, ahead_in, is_slower_way, shift_of, stays_in, steps_twice_in}

-- the number of a state in an event
abbrev pub number_of : CycleState → ℕ
number_of Free = CYCLE_FREE
number_of InStep = CYCLE_IN_STEP
number_of Adds = CYCLE_ADDS
number_of Subtracts = CYCLE_SUBTRACTS
number_of Dwells = CYCLE_DWELLS

-- where the counter of pattern n is not in step, it comes into step so
abbrev pub way_in : CorrectionMode → Plan → ℕ → Correction → CycleState
way_in modes.AtOnce plan n c = InStep
way_in modes.Dwell plan n c = Dwells
way_in modes.ShortWay plan n c = if is_slower_way (cycle plan n) (c.ahead % cycle plan n) then Adds else Subtracts
way_in modes.AddOnly plan n c = Adds

-- how that of a pattern goes in tick t; with none it is free operation
abbrev pub state_in : Plan → Option ℕ → Correction → ℕ → CycleState
state_in plan None c t = Free
state_in plan (Some n) c t = if ahead_in plan (Some n) c t == 0 then InStep else way_in (correction_mode plan) plan n c

-- of the pattern that runs
abbrev pub cycle_state : Plan → Option ℕ → Correction → ℕ → CycleState
cycle_state plan selected c t = state_in plan (running plan selected) c t

-- the tick in which one that counts from tick number 0 is where that of pattern n is in tick t
abbrev pub counted : Plan → ℕ → Correction → ℕ → ℕ
counted plan n c t = t + shift_of plan n c + ahead_in plan (Some n) c t

-- where that of pattern n comes to with a step, by the tick in which one in step is there; nowhere without a step
abbrev pub place_by : Plan → ℕ → Bool → ℕ → Option ℕ
place_by plan n true k = Some (counter plan n k)
place_by plan n false k = None

-- with its last step in tick t
abbrev pub last_place : Plan → ℕ → Correction → ℕ → Option ℕ
last_place plan n c t = place_by plan n (not (stays_in plan n c t)) (counted plan n c t)

-- and with the first of two
abbrev pub first_place : Plan → ℕ → Correction → ℕ → Option ℕ
first_place plan n c t = place_by plan n (steps_twice_in plan (Some n) c t) (counted plan n c t - 1)

-- one of two places is this instant
abbrev pub is_either : Option ℕ → Option ℕ → Option ℕ → Bool
is_either last first instant = agree last instant || agree first instant

-- that of pattern n comes to an instant in tick t
abbrev pub comes_to : Plan → ℕ → Correction → ℕ → Option ℕ → Bool
comes_to plan n c t instant = is_either (last_place plan n c t) (first_place plan n c t) instant

-- to local zero
abbrev pub zero_in : Plan → Option ℕ → Correction → ℕ → Bool
zero_in plan None c t = false
zero_in plan (Some n) c t = comes_to plan n c t (Some 0)

-- of the pattern that runs
abbrev pub comes_to_zero : Plan → Option ℕ → Correction → ℕ → Bool
comes_to_zero plan selected c t = zero_in plan (running plan selected) c t

-- phase p is a coordinated phase, and one of two places is the force-off instant of p
abbrev pub yields_at : Plan → ℕ → Option ℕ → Option ℕ → ℕ → Bool
yields_at plan n last first p = is_coordinated_now plan (Some n) p && is_either last first (force_off plan (Some n) p)

-- that of pattern n comes there in tick t
abbrev pub yield_in : Plan → Option ℕ → Correction → ℕ → ℕ → Bool
yield_in plan None c t p = false
yield_in plan (Some n) c t p = yields_at plan n (last_place plan n c t) (first_place plan n c t) p

-- of the pattern that runs
abbrev pub yields : Plan → Option ℕ → Correction → ℕ → ℕ → Bool
yields plan selected c t p = yield_in plan (running plan selected) c t p

-- ## The clauses of `Coord::cycle_state`, `Coord::is_at_zero` and `Coord::yields`, over the cells

-- how it goes
abbrev pub TellsCycle : ℕ → Plan → List ℕ → CycleState → Type 0
TellsCycle now plan row result = result ≡ cycle_state plan (pattern_in row) (correction_in row) now

-- it comes to local zero
abbrev pub TellsZero : ℕ → Plan → List ℕ → Bool → Type 0
TellsZero now plan row result = result ≡ comes_to_zero plan (pattern_in row) (correction_in row) now

-- the phases at their yield points
abbrev pub TellsYields : ℕ → Plan → List ℕ → PhaseSet → Type 0
TellsYields now plan row result =
    (p : ℕ) → 1 ≤ p → p ≤ 16 → has result p ≡ yields plan (pattern_in row) (correction_in row) now p
