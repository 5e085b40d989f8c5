-- What a status shows to be left of a time is when that time runs out. Each law here is the contract of a function in
-- src/times_left.rt, and proved there. Times are in tenths of a second, which are ticks.
--
-- Each is of a stretch of a run, the inputs `later` that came after those of `base`, in which the time itself stays as
-- it was shown in each tick. Other inputs may come at any place.
use Rattle.std.specs.Prelude.{◌≡◌, ℕ, ◌+◌, ◌<◌, Bool, true, false, List, [], ◌∷◌, ◌++◌, Option, Some, max}
use Rattle.tsb_step.specs.tsb_cells.Timer.{is_on, has_reached}
use Rattle.tsb_step.specs.tsb_types.declared.interval.Interval.{Interval}
use Rattle.tsb_step.specs.tsb_types.declared.interval.Interval.TheVariants.{Red, Green, Yellow, RedClear}
use Rattle.tsb_step.specs.tsb_types.declared.row.Row.{Row}
use Rattle.tsb_step.specs.tsb_types.Intervals.{is_yellow, is_walk, is_clearance}
use Rattle.tsb_step.specs.tsb_types.Sets.{is_phase}
use Rattle.tsb_step.specs.tsb_plan.Plan.{Plan, yellow_change, red_clear, red_revert}
use Rattle.tsb_step.specs.tsb_plan.Parts.{cycle}
use Rattle.tsb_step.specs.tsb_objects.Instants.{offset_in_effect}
use Rattle.tsb_step.specs.tsb_coord.Coordinated.{force_off, agree}
use Rattle.tsb_step.specs.tsb_ring.Rings.{Ring, own_ring}
use Rattle.tsb_step.specs.tsb_phase.Phase.{held_of}
use Rattle.tsb_step.specs.tsb_phase.Green.{gap, reduction_timer, gap_has_expired, acting_maximum, has_maxed_out}
use Rattle.tsb_step.specs.tsb_phase.Pedestrian.{ended_by, walk_time, clearance_time, is_resting_in_walk}
use Rattle.tsb_step.specs.declared.inputs.Input.{Input}
use Rattle.tsb_step.specs.declared.inputs.Input.TheVariants.{Tick}
use Rattle.tsb_step.specs.declared.waits.Lack.{Lack}
use Rattle.tsb_step.specs.declared.waits.Lack.TheVariants as lacks
use Rattle.tsb_step.specs.declared.waits.Wait.TheVariants as waits
use Rattle.tsb_step.specs.State.{State, interval, pedestrian_part}
use Rattle.tsb_step.specs.Signs.{local, IsInStep}
use Rattle.tsb_step.specs.Status.{RingStatus, status}
use Rattle.tsb_step.specs.Tick.{runs, phases_given, phase_read, over, reverted}
use Rattle.tsb_step.specs.Waits.{phases_again, time_to_last}
use Rattle.tsb_step.specs.Runs.{replay, AreTaken}
use Rattle.tsb_step.specs.Laws.{IsConsistent}
use Rattle.tsb_laws.specs.Stretches.{IsUntripped}

-- ## What is shown, and when it runs out

-- the status of a ring names this phase in service, and shows so much to be left of one of its times
pub record IsShown (s : State) (r : Ring) (p : ℕ) (shown : RingStatus → Option ℕ) (n : ℕ) : Type 0 where
  pub phase : ((status s).ring r).phase ≡ Some p
  pub left : shown ((status s).ring r) ≡ Some n

-- the number of the tick in which so much runs out: n ticks on. What has nothing left, as where a commit has made a
-- time shorter than has passed of it, runs out in the next tick
abbrev pub end_of : State → ℕ → ℕ
end_of s n = s.now + max 1 n

-- each tick of the stretch has a property, by the state that the tick finds; any other input passes
abbrev pub InEachTick : (State → Row → Type 0) → Plan → List Input → List Input → Type 0
InEachTick fact plan base [] = Unit {0}
InEachTick fact plan base (Tick row ∷ later) = InEachTick fact plan base later × fact (replay plan (later ++ base)) row
InEachTick fact plan base (i ∷ later) = InEachTick fact plan base later

-- a part that had so much left goes on until the tick in which that runs out, and is over with this tick
pub record EndsThen (part : State → Bool) (plan : Plan) (base later : List Input) (n : ℕ) : Type 0 where
  pub before : (replay plan (later ++ base)).now < end_of (replay plan base) n → part (replay plan (later ++ base)) ≡ true
  pub at_end : (replay plan (later ++ base)).now ≡ end_of (replay plan base) n → part (replay plan (later ++ base)) ≡ false

-- a time that had so much left has passed in the tick in which that runs out, and in no tick before; the tick `row` comes
-- after the stretch
pub record PassesThen (has_passed : State → Row → Bool) (plan : Plan) (base later : List Input) (row : Row) (n : ℕ) : Type 0 where
  pub before : (replay plan (later ++ base)).now + 1 < end_of (replay plan base) n → has_passed (replay plan (later ++ base)) row ≡ false
  pub at_end : (replay plan (later ++ base)).now + 1 ≡ end_of (replay plan base) n → has_passed (replay plan (later ++ base)) row ≡ true

-- ## Yellow change and red clearance

-- the yellow change of p is as long in the tick as it was where it was shown
abbrev pub KeepsYellow : ℕ → State → State → Row → Type 0
KeepsYellow p shown s row = yellow_change s.plan p ≡ yellow_change shown.plan p

-- A yellow ends as shown.
abbrev pub YellowsEndAsShown : Type 0
YellowsEndAsShown = (plan : Plan) (base later : List Input) (r : Ring) (p n : ℕ) → IsConsistent plan → AreTaken plan (later ++ base) →
    IsUntripped plan base later → IsShown (replay plan base) r p (λ x. x.yellow_left) n →
    InEachTick (KeepsYellow p (replay plan base)) plan base later → EndsThen (λ s. is_yellow (interval s p)) plan base later n

-- its red clearance is
abbrev pub KeepsRedClear : ℕ → State → State → Row → Type 0
KeepsRedClear p shown s row = red_clear s.plan p ≡ red_clear shown.plan p

-- A red clearance is done as shown: the phase is over in just that tick.
abbrev pub RedClearsEndAsShown : Type 0
RedClearsEndAsShown = (plan : Plan) (base later : List Input) (row : Row) (r : Ring) (p n : ℕ) → IsConsistent plan → AreTaken plan (later ++ base) →
    IsUntripped plan base later → IsShown (replay plan base) r p (λ x. x.red_clearance_left) n →
    InEachTick (KeepsRedClear p (replay plan base)) plan base (Tick row ∷ later) → PassesThen (λ s row. over s p) plan base later row n

-- ## Walk and pedestrian clearance

-- the walk time of p, which a preempt that ends p may cut short, is as long in the tick as it was shown; and p does not
-- rest in walk in the tick in which the walk is to end
pub record KeepsWalk (p n : ℕ) (shown s : State) (row : Row) : Type 0 where
  pub time : walk_time s.plan p (ended_by (phases_given s row) p) ≡ walk_time shown.plan p (ended_by (phases_again shown) p)
  pub moves_on : s.now + 1 ≡ end_of shown n → is_resting_in_walk s.plan (phases_given s row) p ≡ false

-- A walk ends as shown.
abbrev pub WalksEndAsShown : Type 0
WalksEndAsShown = (plan : Plan) (base later : List Input) (r : Ring) (p n : ℕ) → IsConsistent plan → AreTaken plan (later ++ base) →
    IsUntripped plan base later → IsShown (replay plan base) r p (λ x. x.walk_left) n →
    InEachTick (KeepsWalk p n (replay plan base)) plan base later → EndsThen (λ s. is_walk (pedestrian_part s p)) plan base later n

-- its pedestrian clearance time is
abbrev pub KeepsClearance : ℕ → State → State → Row → Type 0
KeepsClearance p shown s row =
    clearance_time s.plan p (ended_by (phases_given s row) p) ≡ clearance_time shown.plan p (ended_by (phases_again shown) p)

-- A pedestrian clearance ends as shown.
abbrev pub ClearancesEndAsShown : Type 0
ClearancesEndAsShown = (plan : Plan) (base later : List Input) (r : Ring) (p n : ℕ) → IsConsistent plan → AreTaken plan (later ++ base) →
    IsUntripped plan base later → IsShown (replay plan base) r p (λ x. x.clearance_left) n →
    InEachTick (KeepsClearance p (replay plan base)) plan base later → EndsThen (λ s. is_clearance (pedestrian_part s p)) plan base later n

-- ## A green

-- the time that the green of p has to last, whatever ends it, is as long in the tick as it was shown
abbrev pub KeepsInitial : ℕ → State → State → Row → Type 0
KeepsInitial p shown s row =
    time_to_last s.plan (phases_given s row) p (ended_by (phases_given s row) p)
    ≡ time_to_last shown.plan (phases_again shown) p (ended_by (phases_again shown) p)

-- the green of p has lasted that time in the tick
abbrev pub has_lasted : ℕ → State → Row → Bool
has_lasted p s row = has_reached (phase_read s p).timer (time_to_last s.plan (phases_given s row) p (ended_by (phases_given s row) p))

-- A green has lasted its initial time as shown.
abbrev pub InitialsPassAsShown : Type 0
InitialsPassAsShown = (plan : Plan) (base later : List Input) (row : Row) (r : Ring) (p n : ℕ) → IsConsistent plan → AreTaken plan (later ++ base) →
    IsUntripped plan base later → IsShown (replay plan base) r p (λ x. x.initial_left) n →
    InEachTick (KeepsInitial p (replay plan base)) plan base (Tick row ∷ later) → PassesThen (has_lasted p) plan base later row n

-- a green without an output, as it was where it was shown: its gap is as long in the tick. A gap that is being reduced
-- runs out sooner
pub record KeepsGap (p : ℕ) (shown s : State) (row : Row) : Type 0 where
  pub green : interval s p ≡ Green
  pub quiet : (phases_given s row).output p ≡ false
  pub time : gap s.plan p (reduction_timer s.plan (phases_given s row) p (held_of (phase_read s p))) ≡ gap shown.plan p (shown.phases p).reduction

-- the gap of p has expired in the tick
abbrev pub has_gapped : ℕ → State → Row → Bool
has_gapped p s row = gap_has_expired s.plan (phases_given s row) p (held_of (phase_read s p))

-- A gap expires as shown, where no output was on in the tick in which it was shown: then it runs already.
abbrev pub GapsExpireAsShown : Type 0
GapsExpireAsShown = (plan : Plan) (base later : List Input) (row : Row) (r : Ring) (p n : ℕ) → IsConsistent plan → AreTaken plan (later ++ base) →
    IsUntripped plan base later → IsShown (replay plan base) r p (λ x. x.gap_left) n → is_on ((replay plan base).phases p).passage ≡ true →
    InEachTick (KeepsGap p (replay plan base)) plan base (Tick row ∷ later) → PassesThen (has_gapped p) plan base later row n

-- a green that has a conflict in the tick, and the maximum that acts on it is as long as it was shown
pub record KeepsMaximum (p : ℕ) (shown s : State) (row : Row) : Type 0 where
  pub green : interval s p ≡ Green
  pub conflict : (phases_given s row).conflict p ≡ true
  pub time : acting_maximum s.plan (runs s) p (s.phases p).running_maximum ≡ acting_maximum shown.plan (runs shown) p (shown.phases p).running_maximum

-- p has maxed out in the tick
abbrev pub is_maxed_out : ℕ → State → Row → Bool
is_maxed_out p s row = has_maxed_out s.plan (phases_given s row) p (held_of (phase_read s p)) (s.phases p).running_maximum

-- A green maxes out as shown.
abbrev pub MaximumsPassAsShown : Type 0
MaximumsPassAsShown = (plan : Plan) (base later : List Input) (row : Row) (r : Ring) (p n : ℕ) → IsConsistent plan → AreTaken plan (later ++ base) →
    IsUntripped plan base later → IsShown (replay plan base) r p (λ x. x.maximum_left) n →
    InEachTick (KeepsMaximum p (replay plan base)) plan base (Tick row ∷ later) → PassesThen (is_maxed_out p) plan base later row n

-- ## What waits show

-- some phase waits for q to clear, of its own ring or across, and the status shows that this takes so long
pub data ToClear (s : State) (q n : ℕ) : Type 0 where
  here : (p : ℕ) → (status s).wait p ≡ Some (waits.Clears q n) → ToClear s q n
  across : (p : ℕ) → (status s).wait p ≡ Some (waits.Across q n) → ToClear s q n

-- q is in yellow change, with something left of it, or in red clearance. A yellow has nothing left only where a commit
-- has made it shorter; then its clearance takes a tick more than is shown
abbrev pub HasBegun : State → ℕ → Interval → Type 0
HasBegun s q Red = ⊥
HasBegun s q Green = ⊥
HasBegun s q Yellow = has_reached (s.phases q).timer (yellow_change s.plan q) ≡ false
HasBegun s q RedClear = Unit {0}

-- its yellow change and its red clearance are as long in the tick as they were shown
pub record KeepsBoth (q : ℕ) (shown s : State) (row : Row) : Type 0 where
  pub yellow : yellow_change s.plan q ≡ yellow_change shown.plan q
  pub red : red_clear s.plan q ≡ red_clear shown.plan q

-- A clearance that a phase waits for is done as shown: q is over in just that tick.
abbrev pub ClearancesAreOverAsShown : Type 0
ClearancesAreOverAsShown = (plan : Plan) (base later : List Input) (row : Row) (q n : ℕ) → IsConsistent plan → AreTaken plan (later ++ base) →
    IsUntripped plan base later → ToClear (replay plan base) q n → HasBegun (replay plan base) q (interval (replay plan base) q) →
    InEachTick (KeepsBoth q (replay plan base)) plan base (Tick row ∷ later) → PassesThen (λ s row. over s q) plan base later row n

-- p waits for its red revert, or another phase that starts with it does; the status shows that this takes so long
pub data ToRevert (s : State) (p n : ℕ) : Type 0 where
  own : (status s).wait p ≡ Some (waits.RedRevert n) → ToRevert s p n
  beside : (q : ℕ) → (status s).wait q ≡ Some (waits.Beside p n) → ToRevert s p n

-- its red revert is as long in the tick as it was shown
abbrev pub KeepsRevert : ℕ → State → State → Row → Type 0
KeepsRevert p shown s row = red_revert s.plan p ≡ red_revert shown.plan p

-- A red revert that a phase waits for has passed as shown, where it has begun: the phase is not in yellow change.
abbrev pub RedRevertsPassAsShown : Type 0
RedRevertsPassAsShown = (plan : Plan) (base later : List Input) (row : Row) (p n : ℕ) → IsConsistent plan → AreTaken plan (later ++ base) →
    IsUntripped plan base later → is_phase p ≡ true → ToRevert (replay plan base) p n → is_yellow (interval (replay plan base) p) ≡ false →
    InEachTick (KeepsRevert p (replay plan base)) plan base (Tick row ∷ later) → PassesThen (λ s row. reverted s p) plan base later row n

-- ## Force-off

-- the local counter is at the force-off instant of p
abbrev pub is_at_instant : ℕ → State → Bool
is_at_instant p s = agree (local s) (force_off s.plan (runs s) p)

-- the local counter is in step in both states; the pattern that runs, its cycle and its offset, the midnight that it
-- counts from, and the instant of p are as they were where they were shown
pub record StaysInStep (p : ℕ) (shown s : State) : Type 0 where
  pub in_step : IsInStep shown
  pub still : IsInStep s
  pub same_pattern : runs s ≡ runs shown
  pub same_cycle : (m : ℕ) → runs shown ≡ Some m → cycle s.plan m ≡ cycle shown.plan m
  pub same_offset : (m : ℕ) → runs shown ≡ Some m → offset_in_effect s.plan m ≡ offset_in_effect shown.plan m
  pub same_midnight : s.correction.midnight ≡ shown.correction.midnight
  pub same_instant : force_off s.plan (runs s) p ≡ force_off shown.plan (runs shown) p

-- j ticks on, of n that were shown, a test holds once all n have passed, and not before
pub record ComesThen (test : Bool) (j n : ℕ) : Type 0 where
  pub before : j < n → test ≡ false
  pub at_end : j ≡ n → test ≡ true

-- The local counter comes to a force-off instant as shown.
abbrev pub ForceOffsComeAsShown : Type 0
ForceOffsComeAsShown = (plan : Plan) (base later : List Input) (r : Ring) (p n j : ℕ) → IsConsistent plan → AreTaken plan (later ++ base) →
    IsShown (replay plan base) r p (λ x. x.force_off_in) n → StaysInStep p (replay plan base) (replay plan (later ++ base)) →
    (replay plan (later ++ base)).now ≡ (replay plan base).now + j → ComesThen (is_at_instant p (replay plan (later ++ base))) j n

-- ## What a green lacks

-- what a green lacks is what the status of its ring shows to be left of that time. A force-off has none: the ring shows
-- the phase
abbrev pub IsLackShown : State → Ring → ℕ → Lack → Type 0
IsLackShown s r q (lacks.Walk n) = IsShown s r q (λ x. x.walk_left) n
IsLackShown s r q (lacks.Clearance n) = IsShown s r q (λ x. x.clearance_left) n
IsLackShown s r q (lacks.Initial n) = IsShown s r q (λ x. x.initial_left) n
IsLackShown s r q (lacks.Gap n) = IsShown s r q (λ x. x.gap_left) n
IsLackShown s r q lacks.ForceOff = ((status s).ring r).phase ≡ Some q

-- What a green lacks is what its ring shows, of whatever state.
abbrev pub LacksAreShown : Type 0
LacksAreShown = (s : State) (p q : ℕ) (l : Lack) → (status s).wait p ≡ Some (waits.Green q l) → IsLackShown s (own_ring s.plan p) q l
