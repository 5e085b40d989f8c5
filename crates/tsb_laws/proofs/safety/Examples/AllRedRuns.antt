-- A run from power-up that meets all premises of the law of all red, and a mistake that the law refuses.
use Rattle.std.proofs.Common.{◌≡◌, ℕ, zero, suc, ◌+◌, ◌≤◌, ◌==◌, Bool, true, false, not, ◌&&◌, ◌||◌, List, [], ◌∷◌, ◌++◌, Option, Some, None, refl, sym, ap, ap₂, arith, ◌∙◌}
use Rattle.std.proofs.lemmas.Bool.{and_parts}
use Rattle.tsb_step.specs.tsb_types.Sets.{all_off, set_of_detectors}
use Rattle.tsb_step.specs.tsb_types.Intervals.{in_service}
use Rattle.tsb_step.specs.tsb_types.Lists.{some_passes}
use Rattle.tsb_step.specs.tsb_types.declared.interval.Interval.{Interval}
use Rattle.tsb_step.specs.tsb_types.declared.interval.Interval.TheVariants.{Red, Green, Yellow, RedClear}
use Rattle.tsb_step.specs.tsb_types.declared.row.Row.{Row}
use Rattle.tsb_step.specs.tsb_plan.declared.object.Object.{Object}
use Rattle.tsb_step.specs.tsb_plan.declared.object.Object.TheVariants.{PhaseEnabled, PhaseRing, PhaseSide, PhaseMaximum1, PhaseMaximum2, PhaseYellowChange, PhaseRedRevert, UnitRedRevert, VehicleDetectorCallPhase, SequenceData}
use Rattle.tsb_step.specs.tsb_plan.Objects.{greatest}
use Rattle.tsb_step.specs.tsb_plan.Plan.{Plan, all_counts, empty, phases, side_of, red_revert, with_values}
use Rattle.tsb_step.specs.tsb_rules.Rules.{first_broken}
use Rattle.tsb_step.specs.tsb_ring.declared.want.Want.{Want}
use Rattle.tsb_step.specs.tsb_ring.declared.want.Want.TheVariants.{Cross}
use Rattle.tsb_step.specs.tsb_ring.Rings as rings
use Rattle.tsb_step.specs.tsb_ring.Rings.{Ring1, serving}
use Rattle.tsb_step.specs.tsb_ring.Wants.{want_of}
use Rattle.tsb_step.specs.tsb_ring.Crossings.{wants_cross}
use Rattle.tsb_step.specs.declared.inputs.Input.{Input}
use Rattle.tsb_step.specs.declared.inputs.Input.TheVariants.{Tick}
use Rattle.tsb_step.specs.State.{State, start, interval}
use Rattle.tsb_step.specs.Tick.{rings_given}
use Rattle.tsb_step.specs.Step.{step}
use Rattle.tsb_step.specs.Runs.{replay, AreTaken}
use Rattle.tsb_step.specs.Laws.{IsConsistent, is_unlit}
use Rattle.tsb_step.specs.Tables.{greatest_for, greatest_of}
use Rattle.tsb_step.proofs.PlaceLemmas.{same_greatest}
use Rattle.tsb_step.proofs.GoodLemmas.{good_run}
use Rattle.tsb_step.proofs.Examples.Scenes.{opened, vehicle}
use Rattle.tsb_laws.specs.Stretches.{IsUntripped, largest}
use Rattle.tsb_laws.specs.AllRed.{IsAllRed, HasBeenRed, is_wanted, HasBeenWanted, IsInRange}
use Rattle.tsb_laws.specs.CoordinatedGreens.{HasGoneOn}
use Rattle.tsb_laws.proofs.safety.Examples.CoordinationRuns.{omits}
use Rattle.tsb_laws.proofs.safety.Examples.PlanFits.{Fits, consistent}
use Rattle.tsb_laws.proofs.safety.Examples.TickRuns.{ticks, now_then, plan_then, largest_then, all_taken, unlit_then, none_trips}
use Rattle.tsb_laws.proofs.safety.Examples.MistakenTicks.{tick_given, for_all}
use Rattle.tsb_laws.proofs.safety.Examples.StretchRuns.{gone, gone_to, came as shown_after, goes_on, goes_on_as, values_alone_fit, red_where_none}

-- ## 2 is called again after its green, and waits for its red revert of 5 s when 4, across the barrier, has cleared

abbrev pub reverting_values : List (Object × ℕ × ℕ)
reverting_values =
    (PhaseEnabled, 2, 1) ∷ (PhaseEnabled, 4, 1) ∷ (PhaseRing, 2, 1) ∷ (PhaseRing, 4, 2) ∷ (PhaseSide, 2, 1) ∷ (PhaseSide, 4, 2) ∷
    (PhaseMaximum1, 2, 2) ∷ (PhaseMaximum1, 4, 2) ∷ (PhaseMaximum2, 2, 2) ∷ (PhaseMaximum2, 4, 2) ∷
    (PhaseYellowChange, 2, 30) ∷ (PhaseYellowChange, 4, 30) ∷ (PhaseRedRevert, 2, 50) ∷
    (VehicleDetectorCallPhase, 2, 2) ∷ (VehicleDetectorCallPhase, 4, 4) ∷ (SequenceData, 1, 2) ∷ (SequenceData, 17, 4) ∷ []

unfoldable pub reverting : Plan
reverting = with_values empty reverting_values

-- no red revert is longer
abbrev limit : Object → ℕ
limit PhaseRedRevert = 50
limit UnitRedRevert = 0
limit o = greatest o

reverting_fits : Fits limit reverting.value
unfolding reverting
reverting_fits = values_alone_fit limit reverting_values refl

fits_table : Fits greatest reverting.value
unfolding reverting
fits_table = values_alone_fit greatest reverting_values refl

reverting_count : (reverting.phase_count ≡ 16) × (reverting.counts ≡ all_counts)
unfolding reverting
reverting_count = (refl, refl)

reverting_sides : reverting.side_count ≡ 4
unfolding reverting
reverting_sides = refl

breaks_none : first_broken reverting ≡ None
unfolding opened reverting
breaks_none = refl

pub reverting_consistent : IsConsistent reverting
reverting_consistent = consistent limit reverting reverting_count breaks_none reverting_fits

-- a car has come to 2 and one to 4 in tick 1, and from tick 3 on one is at 2: 2 is Green in tick 1, and 4 in tick 32
abbrev both : Row
both = record all_off { vehicles = set_of_detectors 10 }

abbrev pub came : List Input
came = ticks all_off 1 ++ ticks both 1

-- all is red after tick 63 for the first time
abbrev base : List Input
base = ticks (vehicle 2) 61 ++ came

came_taken : AreTaken reverting came
unfolding opened reverting
came_taken = ((tt, refl), refl)

came_unlit : is_unlit reverting came ≡ true
came_unlit = refl

ticked_2 : (replay reverting came).now ≡ 2
unfolding opened reverting
ticked_2 = refl

ticked_63 : (replay reverting base).now ≡ 63
ticked_63 = (let at = ticked_2 in let later = now_then reverting (vehicle 2) came 61 in omega (arith, at, later))

base_taken : AreTaken reverting base
base_taken = all_taken reverting (vehicle 2) came 61 came_taken (let at = ticked_2 in omega (arith, at))

base_unlit : is_unlit reverting base ≡ true
base_unlit = unlit_then reverting (vehicle 2) came 61 came_unlit

in_time : (replay reverting base).now + 18 ≤ 1000
in_time = let at = ticked_63 in omega (arith, at)

-- no phase is in service, and some phase is wanted
abbrev is_red : State → Bool
is_red s = not (some_passes (λ p. in_service (interval s p)) (phases s.plan))

abbrev is_red_and_wanted : State → Input → Bool
is_red_and_wanted s i = is_red s && is_wanted s i

-- whether all is red now, whether it stays so for 19 ticks from the next one on, and the interval of 2 after these
abbrev course : State → Bool × (Bool × Interval)
course s = (is_red s, shown_after 2 (gone is_red_and_wanted (step s (Tick (vehicle 2))) (ticks (vehicle 2) 19)))

-- it is not red one tick before, then red up to tick 81, and in tick 82 2 starts
reds : course (replay reverting (ticks (vehicle 2) 60 ++ came)) ≡ (false, (true, Green))
unfolding opened reverting
reds = refl

red_for_18 : (gone is_red_and_wanted (replay reverting base) (ticks (vehicle 2) 19)).1 ≡ true
red_for_18 = ap (λ (x : Bool × (Bool × Interval)). x.1.0) reds

starts_2 : interval (replay reverting (ticks (vehicle 2) 19 ++ base)) 2 ≡ Green
starts_2 =
    sym (ap (λ (s : State). interval s 2) (gone_to is_red_and_wanted reverting base (ticks (vehicle 2) 19)))
    ∙ ap (λ (x : Bool × (Bool × Interval)). x.1.1) reds

was_clearing : is_red (replay reverting (ticks (vehicle 2) 60 ++ came)) ≡ false
was_clearing = ap (λ (x : Bool × (Bool × Interval)). x.0) reds

all_red_at : (later : List Input) → AreTaken reverting (later ++ base) → is_red (replay reverting (later ++ base)) ≡ true → IsAllRed (replay reverting (later ++ base))
all_red_at later taken h =
    red_where_none (replay reverting (later ++ base)) (good_run reverting (later ++ base) reverting_consistent taken)
    (not_true (some_passes (λ p. in_service (interval (replay reverting (later ++ base)) p)) (phases (replay reverting (later ++ base)).plan)) h)
  where
    not_true : (b : Bool) → not b ≡ true → b ≡ false
    not_true true k = absurd cc
    not_true false k = refl

been_red : (n : ℕ) → AreTaken reverting (ticks (vehicle 2) n ++ base) → HasGoneOn (λ s i. is_red s) reverting base (ticks (vehicle 2) (suc n)) →
    HasBeenRed reverting base (ticks (vehicle 2) n)
been_red zero taken h = all_red_at [] taken h.1
been_red (suc n) taken h = (been_red n taken.0 h.0, all_red_at (ticks (vehicle 2) (suc n)) taken h.1)

been_wanted : (later : List Input) → HasGoneOn is_wanted reverting base later → HasBeenWanted reverting base later
been_wanted [] h = tt
been_wanted (i ∷ later) h = (been_wanted later h.0, h.1)

record AllRed (plan : Plan) (base later : List Input) (n : ℕ) : Type 0 where
  consistent : IsConsistent plan
  range : IsInRange plan
  few : plan.phase_count ≤ 16
  taken : AreTaken plan (later ++ base)
  untripped : IsUntripped plan base later
  red : HasBeenRed plan base later
  wanted : HasBeenWanted plan base later
  limit : (p : ℕ) → largest (λ x. red_revert x p) plan base later ≤ n

-- with 16 phases and 4 sides the greatest values are those of the table of objects
same_greatest_of : (o : Object) → greatest_of reverting o ≡ greatest o
same_greatest_of o = ap₂ (λ (n d : ℕ). greatest_for n d o) reverting_count.0 reverting_sides ∙ same_greatest o

base_plan : (replay reverting base).plan ≡ reverting
base_plan = plan_then reverting (vehicle 2) came 61 ∙ (plan_then reverting all_off (ticks both 1) 1 ∙ plan_then reverting both [] 1)

limit_in : (n p : ℕ) → largest (λ x. red_revert x p) reverting base (ticks (vehicle 2) n) ≤ 50
limit_in n p =
    let same = largest_then reverting (vehicle 2) base (λ x. red_revert x p) n in
    let plan_is : red_revert (replay reverting base).plan p ≡ red_revert reverting p = ap (λ (x : Plan). red_revert x p) base_plan in
    let a : reverting.value PhaseRedRevert p ≤ 50 = reverting_fits.bounded PhaseRedRevert p in
    let b : reverting.value UnitRedRevert 1 ≤ 0 = reverting_fits.bounded UnitRedRevert 1 in omega (arith, same, plan_is, a, b)

an_all_red : AllRed reverting base (ticks (vehicle 2) 18) 50
an_all_red = record {
  consistent = reverting_consistent;
  range = λ o i. (let most : reverting.value o i ≤ greatest o = fits_table.bounded o i in let same = same_greatest_of o in omega (arith, most, same));
  few = (let count = reverting_count.0 in omega (arith, count));
  taken = taken_18;
  untripped = none_trips reverting (vehicle 2) base reverting_consistent base_taken base_unlit 18 in_time;
  red = been_red 18 taken_18
      (goes_on_as is_red_and_wanted (λ s i. is_red s) (λ s i h. (and_parts (is_red s) (is_wanted s i) h).0) reverting base (ticks (vehicle 2) 19) all);
  wanted = been_wanted (ticks (vehicle 2) 18)
      (goes_on_as is_red_and_wanted is_wanted (λ s i h. (and_parts (is_red s) (is_wanted s i) h).1) reverting base (ticks (vehicle 2) 18) all.0);
  limit = limit_in 18;
}
  where
    taken_18 : AreTaken reverting (ticks (vehicle 2) 18 ++ base)
    taken_18 = all_taken reverting (vehicle 2) base 18 base_taken in_time

    all : HasGoneOn is_red_and_wanted reverting base (ticks (vehicle 2) 19)
    all = goes_on is_red_and_wanted reverting base (ticks (vehicle 2) 19) red_for_18

-- ## A crossing that begins only from greens

-- ring 1 is idle and wants to cross
wants_to_cross : want_of omits (start omits).rings (rings_given (start omits) (vehicle 3)) Ring1 ≡ Some Cross
unfolding opened omits
wants_to_cross = refl

abbrev joins_from_green : Option Interval → Bool → Option Want → Bool
joins_from_green None ready w = false
joins_from_green (Some Red) ready w = false
joins_from_green (Some Green) ready w = ready && wants_cross w
joins_from_green (Some Yellow) ready w = false
joins_from_green (Some RedClear) ready w = false

-- it would never begin, as no phase is in service
is_idle : serving omits (rings_given (start omits) (vehicle 3)) Ring1 ≡ None
unfolding opened omits
is_idle = refl

would_not_join : joins_from_green None true (Some Cross) ≡ false
would_not_join = refl

-- so all would be red for more than 52 ticks while 4 is called, across the barrier
abbrev joins_not : State → Row → rings.Given
joins_not s row = record (rings_given s row) { callable = λ p. (rings_given s row).callable p && (not (is_red s) || (side_of s.plan p == s.rings.side)) }

would_stay_red : for_all (λ s. is_red_and_wanted s (Tick (vehicle 4))) (λ s. tick_given joins_not s (vehicle 4)) (start reverting) 53 ≡ true
unfolding opened reverting
would_stay_red = refl
