-- The contracts of the public calls of `TimedOverlaps`, clause by clause, over its cells: `old` before a call, `new`
-- after it.
use Rattle.std.specs.Prelude.{◌≡◌, ℕ, ◌-◌, ◌≤◌, ◌<◌, Bool, false, List, Option, option_map}
use Rattle.tsb_objects.specs.tsb_types.declared.flow.OverlapLights.{OverlapLights}
use Rattle.tsb_objects.specs.tsb_types.declared.limits.TheConstants.{OVERLAPS}
use Rattle.tsb_objects.specs.tsb_types.declared.number_set.NumberSet.{NumberSet}
use Rattle.tsb_objects.specs.tsb_types.declared.phase_set.PhaseSet.{PhaseSet}
use Rattle.tsb_objects.specs.tsb_types.Flow.{light_of}
use Rattle.tsb_objects.specs.tsb_types.Lists.{first, run_from}
use Rattle.tsb_objects.specs.tsb_types.Sets.{has, has_number}
use Rattle.tsb_objects.specs.tsb_plan.Plan.{Plan}
use Rattle.tsb_overlap.specs.Overlap.{Overlap, Given, at_power_up, as_read, run_on, settled, next, holds, is_held, light, is_trail_green, trail_left}
use Rattle.tsb_overlap.specs.declared.surroundings.Surroundings.{Surroundings}
use Rattle.tsb_overlap.specs.Cells.{overlap_in, omitted_in, IsBy}
use Rattle.tsb_overlap.specs.Reading.{given_by}

-- overlaps are the same
abbrev pub IsSame : (ℕ → Overlap) → (ℕ → Overlap) → Type 0
IsSame new said = (o : ℕ) → 1 ≤ o → o ≤ OVERLAPS → new o ≡ said o

-- `new` and `reset`: everything is as at power-up, at whatever tick the cells are read
pub record IsAtPowerUp (new : List ℕ) : Type 0 where
  pub overlaps : (now : ℕ) → IsSame (overlap_in now new) (λ o. at_power_up)
  pub omitted : (o : ℕ) → omitted_in new o ≡ false

-- `omit(set)`: these arrows are omitted, and all else is as it was
pub record IsOmitted (set : NumberSet) (old new : List ℕ) : Type 0 where
  pub omitted : (o : ℕ) → omitted_in new o ≡ has_number set o
  pub overlaps : (now : ℕ) → IsSame (overlap_in now new) (overlap_in now old)

-- `lights()`: what heads show, by intervals
abbrev pub TellsLights : List ℕ → OverlapLights → Type 0
TellsLights row result = (now o : ℕ) → 1 ≤ o → o ≤ OVERLAPS → light_of result o ≡ light (overlap_in now row o).interval

-- `trailing_greens()`: those that are green after their phases
abbrev pub TellsTrails : List ℕ → NumberSet → Type 0
TellsTrails row result = (now o : ℕ) → IsBy now row → 1 ≤ o → o ≤ OVERLAPS → has_number result o ≡ is_trail_green (overlap_in now row o).interval

-- `run_on(now, is_preempted, plan)`, clause `state`: what has lasted its time is over
abbrev pub IsRunOn : ℕ → Bool → Plan → List ℕ → List ℕ → Type 0
IsRunOn now preempted plan old new =
    IsSame (overlap_in now new) (λ o. run_on plan preempted o (as_read (overlap_in (now - 1) old o)))

-- and its answer, clause `held`: the phases that overlaps hold in clearance
abbrev pub AreHeld : ℕ → Bool → Plan → List ℕ → PhaseSet → Type 0
AreHeld now preempted plan old result = (p : ℕ) → 1 ≤ p → p ≤ 16 → has result p ≡ is_held plan preempted (overlap_in (now - 1) old) p

-- `settle(now, seen, plan)`: overlaps follow the phases
abbrev pub IsSettled : ℕ → Given → Plan → List ℕ → List ℕ → Type 0
IsSettled now given plan old new = IsSame (overlap_in now new) (λ o. settled plan given o (overlap_in now old o))

-- ## Ticks that may be passed over

-- tick `now` leaves the overlaps as they are, by their cells; what they see of it is what they see afterwards
abbrev pub AreStanding : ℕ → Given → Plan → List ℕ → Type 0
AreStanding now given plan row = IsSame (next plan given (overlap_in (now - 1) row)) (overlap_in now row)

-- tick t leaves the overlaps as they are: what has lasted its time is none of them, and phases change none of them
pub record AreQuiet (t : ℕ) (given : Given) (plan : Plan) (row : List ℕ) : Type 0 where
  pub runs : IsRunOn t given.preempted plan row row
  pub settles : IsSettled t given plan row row

-- `due(now, seen, plan)`, clause `quiet`: so they do from `now` on in each tick before it in which they see the same
abbrev pub AreQuietUntil : ℕ → Surroundings → Plan → List ℕ → ℕ → Type 0
AreQuietUntil now seen plan row due = (t : ℕ) (lights : OverlapLights) → now ≤ t → t < due →
    AreStanding now (given_by now seen (omitted_in row) lights) plan row → AreQuiet t (given_by t seen (omitted_in row) lights) plan row

-- ## Waits

-- overlap o, if there is one, and how long it holds its phases still after tick `now`, at most
abbrev pub with_left : ℕ → Bool → Plan → List ℕ → ℕ → ℕ × ℕ
with_left now preempted plan row o =
    record { 0 = o; 1 = trail_left plan preempted o (overlap_in now row o) (overlap_in now row o).interval }

-- `holder(phase, now, is_preempted, plan)`: the least overlap that holds the phase in clearance in the tick after
-- `now`, where the preempt in service stays
abbrev pub TellsHolder : ℕ → ℕ → Bool → Plan → List ℕ → Option (ℕ × ℕ) → Type 0
TellsHolder phase now preempted plan row result =
    result ≡ option_map (with_left now preempted plan row) (first (holds plan preempted (overlap_in now row) phase) (run_from 1 plan.counts.overlaps))
