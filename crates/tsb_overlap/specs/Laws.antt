-- Laws of overlaps that have intervals of their own and of their cells, of any phases, rings and preempts that a tick
-- may give them. Each is the contract of a function in src/laws.rt, and proved there. Laws of every run are tsb_laws'
-- own.
use Rattle.std.specs.Prelude.{◌≡◌, ◌≢◌, ℕ, ◌-◌, ◌≤◌, ◌<◌, Bool, true, false, ◌⊎◌, List, Option, Some, None}
use Rattle.tsb_cells.specs.Timer.{has_reached, is_on, IsWithin}
use Rattle.tsb_objects.specs.tsb_types.Intervals.{is_green}
use Rattle.tsb_objects.specs.tsb_types.declared.limits.TheConstants.{OVERLAPS}
use Rattle.tsb_objects.specs.tsb_plan.Plan.{Plan, yellow_change}
use Rattle.tsb_objects.specs.tsb_plan.Parts.{is_arrow, is_included, is_timed, trails, trail_green, trail_yellow, trail_red}
use Rattle.tsb_overlap.specs.declared.parts.OverlapInterval.{OverlapInterval}
use Rattle.tsb_overlap.specs.declared.parts.OverlapInterval.TheVariants.{Red, Green, TrailGreen, Flashing, Yellow, RedClear}
use Rattle.tsb_overlap.specs.Overlap.{Overlap, Given, at_power_up, as_read, next, run_on, settled, is_held, turn_of, is_turning, is_trailing, trail_left}
use Rattle.tsb_overlap.specs.Cells.{is_overlap, overlap_in, omitted_in, overlaps_cells, IsBy}
use Rattle.tsb_overlap.specs.Promises.{IsSame, IsRunOn, IsSettled}

-- ## Cells and what is read in them

-- cells that the overlaps can hold are the table of what is read in them
abbrev pub RowsAreTold : Type 0
RowsAreTold = (now : ℕ) (row : List ℕ) → IsBy now row → overlaps_cells now (overlap_in now row) (omitted_in row) ≡ row

-- cells that the overlaps can hold at a tick they can hold at each later one
abbrev pub StaysBy : Type 0
StaysBy = (m n : ℕ) (row : List ℕ) → m ≤ n → IsBy m row → IsBy n row

-- no phase, or one of 1 to 16
abbrev pub IsPhaseOrNone : Option ℕ → Type 0
IsPhaseOrNone None = Unit {0}
IsPhaseOrNone (Some p) = (1 ≤ p) × (p ≤ 16)

-- an overlap that cells can say at tick `now`: its timer began at tick 0 or later
pub record IsOverlapIn (now : ℕ) (x : Overlap) : Type 0 where
  pub timer : IsWithin now x.timer
  pub phase : IsPhaseOrNone x.phase

-- overlaps and omitted arrows that cells can say at tick `now`: what is no overlap is as at power-up, and not omitted
pub record IsStateBy (now : ℕ) (f : ℕ → Overlap) (omitted : ℕ → Bool) : Type 0 where
  pub each : (o : ℕ) → 1 ≤ o → o ≤ OVERLAPS → IsOverlapIn now (f o)
  pub others : (o : ℕ) → is_overlap o ≡ false → f o ≡ at_power_up
  pub few : (o : ℕ) → is_overlap o ≡ false → omitted o ≡ false

-- their table is read as they are
pub record IsReadAs (now : ℕ) (f : ℕ → Overlap) (omitted : ℕ → Bool) : Type 0 where
  pub overlaps : overlap_in now (overlaps_cells now f omitted) ≡ f
  pub omits : omitted_in (overlaps_cells now f omitted) ≡ omitted

-- of overlaps and omitted arrows that cells can say
abbrev pub StatesAreRead : Type 0
StatesAreRead = (now : ℕ) (f : ℕ → Overlap) (omitted : ℕ → Bool) → IsStateBy now f omitted → IsReadAs now f omitted

-- the overlaps can hold it
abbrev pub StatesAreBy : Type 0
StatesAreBy = (now : ℕ) (f : ℕ → Overlap) (omitted : ℕ → Bool) → IsStateBy now f omitted → IsBy now (overlaps_cells now f omitted)

-- and what they can hold says such overlaps
abbrev pub RowsAreStates : Type 0
RowsAreStates = (now : ℕ) (row : List ℕ) → IsBy now row → IsStateBy now (overlap_in now row) (omitted_in row)

-- ## What a tick looks at

-- the same of phases 1 to 16, the same commitments and preempt, and the same overlaps omitted
pub record AreAlike (one : Given) (other : Given) : Type 0 where
  pub was_green : (p : ℕ) → 1 ≤ p → p ≤ 16 → one.was_green p ≡ other.was_green p
  pub interval : (p : ℕ) → 1 ≤ p → p ≤ 16 → one.shown.interval p ≡ other.shown.interval p
  pub pedestrian : (p : ℕ) → 1 ≤ p → p ≤ 16 → one.shown.pedestrian p ≡ other.shown.pedestrian p
  pub commitment : (r : ℕ) → one.shown.commitment r ≡ other.shown.commitment r
  pub timer : (p : ℕ) → 1 ≤ p → p ≤ 16 → one.timer p ≡ other.timer p
  pub preempted : one.preempted ≡ other.preempted
  pub omitted : (o : ℕ) → 1 ≤ o → o ≤ OVERLAPS → one.omitted o ≡ other.omitted o

-- it looks at nothing else
abbrev pub LooksOnlyAtItsOwn : Type 0
LooksOnlyAtItsOwn = (plan : Plan) (one other : Given) (o : ℕ) (x : Overlap) → plan.phase_count ≤ 16 → AreAlike one other → 1 ≤ o → o ≤ OVERLAPS →
    settled plan one o x ≡ settled plan other o x

-- who is held it finds of the overlaps that there are
abbrev pub HoldsByItsOwn : Type 0
HoldsByItsOwn = (plan : Plan) (preempted : Bool) (f g : ℕ → Overlap) (p : ℕ) → plan.counts.overlaps ≤ OVERLAPS → IsSame f g →
    is_held plan preempted f p ≡ is_held plan preempted g p

-- no other overlaps are timed in a plan
abbrev pub TimesFew : Plan → Type 0
TimesFew plan = (o : ℕ) → is_overlap o ≡ false → is_timed plan o ≡ false

-- so what the two calls of a tick leave in the cells is `next` of all that is alike
abbrev pub TicksAsNext : Type 0
TicksAsNext = (now : ℕ) (plan : Plan) (seen given : Given) (old middle new : List ℕ) → plan.phase_count ≤ 16 → TimesFew plan → AreAlike seen given →
    IsRunOn now given.preempted plan old middle → IsSettled now seen plan middle new → overlap_in now new ≡ next plan given (overlap_in (now - 1) old)

-- ## Where no overlap is timed

-- no tick changes an overlap that is neither an arrow nor trails
abbrev pub UntimedStay : Type 0
UntimedStay = (plan : Plan) (given : Given) (f : ℕ → Overlap) (o : ℕ) → is_timed plan o ≡ false → next plan given f o ≡ as_read (f o)

-- and where there is none that is, no phase is held
abbrev pub UntimedHoldNone : Type 0
UntimedHoldNone = (plan : Plan) (preempted : Bool) (f : ℕ → Overlap) (p : ℕ) → ((o : ℕ) → is_timed plan o ≡ false) → is_held plan preempted f p ≡ false

-- ## Arrows

-- an included phase of overlap o is Green, and its turn t is neither in service nor next
pub record IsPermitted (plan : Plan) (given : Given) (o t : ℕ) : Type 0 where
  pub phase : ℕ
  pub included : is_included plan o phase ≡ true
  pub green : is_green (given.shown.interval phase) ≡ true
  pub apart : is_turning given t ≡ false

-- an arrow flashes after a tick only where that permits it
abbrev pub ArrowsFlashByPermission : Type 0
ArrowsFlashByPermission = (plan : Plan) (given : Given) (f : ℕ → Overlap) (o t : ℕ) → is_arrow plan o ≡ true → turn_of plan o ≡ Some t →
    (next plan given f o).interval ≡ Flashing → IsPermitted plan given o t

-- and it is green exactly where its turn is Green
abbrev pub ArrowsAreTheirTurns : Type 0
ArrowsAreTheirTurns = (plan : Plan) (given : Given) (f : ℕ → Overlap) (o t : ℕ) → is_arrow plan o ≡ true → turn_of plan o ≡ Some t →
    ((next plan given f o).interval ≡ Green → is_green (given.shown.interval t) ≡ true)
    × (is_green (given.shown.interval t) ≡ true → (next plan given f o).interval ≡ Green)

-- ## Times

-- it is in an interval that overlaps of its kind have: an arrow does not trail, and one that trails does not flash
abbrev pub IsOfKind : Plan → ℕ → OverlapInterval → Type 0
IsOfKind plan o Red = Unit {0}
IsOfKind plan o Green = Unit {0}
IsOfKind plan o Yellow = Unit {0}
IsOfKind plan o TrailGreen = is_arrow plan o ≡ false
IsOfKind plan o RedClear = is_arrow plan o ≡ false
IsOfKind plan o Flashing = is_arrow plan o ≡ true

-- what is lit before a tick and red after it was yellow, and its time has passed
pub record HasHadItsYellow (plan : Plan) (o : ℕ) (x : Overlap) : Type 0 where
  pub yellow : x.interval ≡ Yellow
  pub arrow : (p : ℕ) → is_arrow plan o ≡ true → x.phase ≡ Some p → has_reached (as_read x).timer (yellow_change plan p) ≡ true
  pub trail : is_arrow plan o ≡ false → has_reached (as_read x).timer (trail_yellow plan o) ≡ true

-- so a lit head turns red by its yellow alone
abbrev pub LitOverlapsEndInYellow : Type 0
LitOverlapsEndInYellow = (plan : Plan) (given : Given) (f : ℕ → Overlap) (o : ℕ) → (is_arrow plan o ≡ true) ⊎ (trails plan o ≡ true) →
    IsOfKind plan o (f o).interval → (f o).interval ≢ Red → (f o).interval ≢ RedClear → ((next plan given f o).interval ≡ Red) ⊎ ((next plan given f o).interval ≡ RedClear) →
    HasHadItsYellow plan o (f o)

-- a trailing green that ends has lasted its time, or a preempt is in service, or its phases keep it green again
abbrev pub TrailsLast : Type 0
TrailsLast = (plan : Plan) (given : Given) (f : ℕ → Overlap) (o : ℕ) → is_arrow plan o ≡ false → trails plan o ≡ true →
    (f o).interval ≡ TrailGreen → (next plan given f o).interval ≡ Yellow →
    (given.preempted ≡ true) ⊎ (has_reached (as_read (f o)).timer (trail_green plan o) ≡ true)

-- and a red clearance that ends has lasted its time
abbrev pub RedClearancesLast : Type 0
RedClearancesLast = (plan : Plan) (given : Given) (f : ℕ → Overlap) (o : ℕ) → is_arrow plan o ≡ false → trails plan o ≡ true →
    (f o).interval ≡ RedClear → (next plan given f o).interval ≢ RedClear → has_reached (as_read (f o)).timer (trail_red plan o) ≡ true

-- what is left of a trail falls in each tick, while the plan stays: so each phase is let go in the end
abbrev pub TrailsRunOut : Type 0
TrailsRunOut = (plan : Plan) (preempted : Bool) (o : ℕ) (x : Overlap) → is_arrow plan o ≡ false → trails plan o ≡ true →
    1 ≤ trail_yellow plan o → is_on x.timer ≡ true → 1 ≤ trail_left plan preempted o x x.interval →
    trail_left plan preempted o (run_on plan preempted o (as_read x)) (run_on plan preempted o (as_read x)).interval < trail_left plan preempted o x x.interval

-- and over a whole tick, whatever preempts and phases do: it is off or green again, or less is left of the three times,
-- and its timer runs on
abbrev pub HeldPhasesAreReleased : Type 0
HeldPhasesAreReleased = (plan : Plan) (given : Given) (f : ℕ → Overlap) (o : ℕ) → is_arrow plan o ≡ false → trails plan o ≡ true → 1 ≤ trail_yellow plan o →
    is_trailing (f o).interval ≡ true → is_on (f o).timer ≡ true →
    (is_trailing (next plan given f o).interval ≡ false)
    ⊎ ((is_on (next plan given f o).timer ≡ true)
    × (trail_left plan false o (next plan given f o) (next plan given f o).interval < trail_left plan false o (f o) (f o).interval))
