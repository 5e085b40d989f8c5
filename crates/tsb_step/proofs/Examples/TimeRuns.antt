-- Runs from power-up that meet all premises of a law of times at once, computed. There is one ring with phases 2 and 4,
-- one on each side, both on minimum recall and with no least green; 2 has a walk of 1 s and a clearance of 1 s in each
-- green, and overlap 1 goes with it. Phase 2 starts in tick 1, and all inputs are off.
use Rattle.std.proofs.Common.{zero, suc, ◌≡◌, ℕ, ◌+◌, ◌≤◌, nat_le, nat_lt, Bool, true, false, ◌&&◌, if◌then◌else◌, List, [], ◌∷◌, Option, Some, None, refl, sym, ap, ap₂, arith, ◌∙◌}
use Rattle.std.specs.List.{list_all}
use Rattle.std.proofs.lemmas.Bool.{and_parts, true≢false}
use Rattle.std.proofs.lemmas.Bool.Decides.{nat_tests}
use Rattle.tsb_cells.specs.declared.timer.Timer.{Timer}
use Rattle.tsb_cells.specs.declared.timer.Timer.TheVariants.{On}
use Rattle.tsb_types.specs.declared.interval.Interval.{Interval}
use Rattle.tsb_types.specs.declared.interval.Interval.TheVariants.{Red, Green, Yellow, RedClear}
use Rattle.tsb_types.specs.declared.interval.PedestrianInterval.{PedestrianInterval}
use Rattle.tsb_types.specs.declared.interval.PedestrianInterval.TheVariants.{DontWalk, Walk, PedestrianClear}
use Rattle.tsb_types.specs.declared.lamp.Aspect.{Aspect}
use Rattle.tsb_types.specs.declared.lamp.Aspect.TheVariants as aspects
use Rattle.tsb_types.specs.declared.lamp.Lamp.TheVariants as lamps
use Rattle.tsb_types.specs.declared.lamp.SignalColor.TheVariants as signals
use Rattle.tsb_types.specs.declared.limits.TheConstants.{TICKS}
use Rattle.tsb_types.specs.Intervals.{is_green, is_yellow, is_red_clear, is_walk, is_clearance}
use Rattle.tsb_types.specs.Sets.{all_off}
use Rattle.tsb_objects.specs.tsb_plan.declared.object.Object.{Object}
use Rattle.tsb_objects.specs.tsb_plan.declared.object.Object.TheVariants.{PhaseMinRecall, PhaseMaxRecall, PhasePedRecall, PhaseWalk, PhasePedestrianClear, PhaseMinimumGreen, PhasePedestrianRecycle, OverlapIncludedPhases, PatternCycleTime, PatternSplitNumber, PatternSequenceNumber, SplitTime, SplitCoordPhase, UnitRedRevert}
use Rattle.tsb_objects.specs.tsb_plan.Objects.{has_index}
use Rattle.tsb_objects.specs.tsb_plan.Parts.{is_minus_green_yellow}
use Rattle.tsb_objects.specs.tsb_plan.Plan.{Plan, Counts, all_counts, empty, is_same, with_value, with_values, red_revert}
use Rattle.tsb_objects.specs.tsb_plan.Two.{two, two_values}
use Rattle.tsb_objects.proofs.tsb_plan.TableLemmas.{order-injective}
use Rattle.tsb_objects.proofs.tsb_plan.PlanLemmas.{same-parts}
use Rattle.tsb_objects.specs.tsb_rules.Rules.{first_broken}
use Rattle.tsb_coord.specs.Laws.{IsCountedFrom}
use Rattle.tsb_ring.specs.Moves.{is_cleared, is_started}
use Rattle.tsb_ring.specs.Rings.{Ring1}
use Rattle.tsb_heads.specs.Monitoring.{conflict}
use Rattle.tsb_step.specs.declared.inputs.Input.{Input}
use Rattle.tsb_step.specs.declared.inputs.Input.TheVariants.{Tick, Pattern, Fault}
use Rattle.tsb_step.specs.State.{State, interval, pedestrian_part}
use Rattle.tsb_step.specs.Tick.{moves, over}
use Rattle.tsb_step.specs.Signs.{display, field, local}
use Rattle.tsb_step.specs.Step.{step, verdict}
use Rattle.tsb_step.specs.Tables.{has_place, indices_for}
use Rattle.tsb_step.specs.Runs.{replay, AreTaken}
use Rattle.tsb_step.specs.Laws.{IsConsistent, is_unlit}
use Rattle.tsb_step.specs.ClearanceLaws.{after_ticks, EndsNow, IsForcedOff}
use Rattle.tsb_step.specs.TimeLaws.{held_for, is_yellow_head}
use Rattle.tsb_step.proofs.PlaceLemmas.{same_indices}
use Rattle.tsb_step.proofs.TripLemmas.{faults_alone_trip}
use Rattle.tsb_step.proofs.ClearLemmas.{one_later}
use Rattle.tsb_step.proofs.Examples.Scenes.{opened}

-- ## Plans that are given by their values

-- it gives nothing at an index that its object has not
abbrev pub HasNone : (Object → ℕ → ℕ) → Type 0
HasNone value = (o : Object) (i : ℕ) → has_index o i ≡ false → value o i ≡ 0

abbrev pub placed : Object × ℕ × ℕ → Bool
placed e = has_index e.0 e.1

pub none_with : (es : List (Object × ℕ × ℕ)) (base : Plan) → list_all placed es ≡ true → HasNone base.value → HasNone (with_values base es).value
none_with [] base all none = none
none_with (e ∷ es) base all none =
    let both : (placed e ≡ true) × (list_all placed es ≡ true) = and_parts (placed e) (list_all placed es) all in
    none_with es (with_value base e.0 e.1 e.2) both.1 (λ o i out. at_once both.0 o i out (is_same e.0 e.1 o i) refl)
  where
    at_once : placed e ≡ true → (o : Object) (i : ℕ) → has_index o i ≡ false → (b : Bool) → is_same e.0 e.1 o i ≡ b →
        (if b then e.2 else base.value o i) ≡ 0
    at_once has o i out true it =
        let same = same-parts e.0 o e.1 i it in
        absurd (true≢false (sym has ∙ ap₂ has_index (order-injective e.0 o same.0) same.1 ∙ out))
    at_once has o i out false it = none o i out

pub two_none : HasNone two.value
unfolding two
two_none = none_with two_values empty refl (λ o i out. refl)

-- a plan of 16 phases that breaks no rule is one of those that the laws speak of
pub consistent : (plan : Plan) → (plan.phase_count ≡ 16) × (plan.counts ≡ all_counts) → first_broken plan ≡ None → HasNone plan.value → IsConsistent plan
consistent plan count rules none = record {
  rules = rules;
  placed = λ o i out. none o i (sym (ap (λ (n : ℕ). nat_le 1 i && nat_le i n) (same_indices o)) ∙ sym (here o i) ∙ out);
}
  where
    here : (o : Object) (i : ℕ) → has_place plan o i ≡ (nat_le 1 i && nat_le i (indices_for 16 all_counts o))
    here o i = ap₂ (λ (n : ℕ) (c : Counts). nat_le 1 i && nat_le i (indices_for n c o)) count.0 count.1

-- ## Ticks with all inputs off

-- so many, after other inputs
abbrev pub ticks_after : List Input → ℕ → List Input
ticks_after is zero = is
ticks_after is (suc n) = Tick all_off ∷ ticks_after is n

taken_then : (s : State) → s.now ≤ 1000 → verdict s (Tick all_off) ≡ None
unfolding verdict
taken_then s few = rw (in_reach s.now few) refl
  where
    in_reach : (n : ℕ) → n ≤ 1000 → nat_lt n TICKS ≡ true
    in_reach n few = grind (arith, nat_tests, few)

-- what the laws of untripped runs ask of a run
pub record Meets (plan : Plan) (is : List Input) : Type 0 where
  pub consistent : IsConsistent plan
  pub taken : AreTaken plan is
  pub untripped : (replay plan is).trip ≡ None

module _ (plan : Plan) (is : List Input) where
  now_after : (n : ℕ) → (replay plan (ticks_after is n)).now ≡ (replay plan is).now + n
  now_after zero = omega arith
  now_after (suc n) =
      let one : (replay plan (ticks_after is (suc n))).now ≡ (replay plan (ticks_after is n)).now + 1 = one_later (replay plan (ticks_after is n)) all_off in
      let before : (replay plan (ticks_after is n)).now ≡ (replay plan is).now + n = now_after n in
      omega (arith, one, before)

  taken_after : (n : ℕ) → AreTaken plan is → (replay plan is).now + n ≤ 1000 → AreTaken plan (ticks_after is n)
  taken_after zero taken few = taken
  taken_after (suc n) taken few = (
    taken_after n taken (omega (arith, few)),
    (let before : (replay plan (ticks_after is n)).now ≡ (replay plan is).now + n = now_after n in
        taken_then (replay plan (ticks_after is n)) (omega (arith, few, before))),
  )

  unlit_after : (n : ℕ) → is_unlit plan is ≡ true → is_unlit plan (ticks_after is n) ≡ true
  unlit_after zero h = h
  unlit_after (suc n) h = unlit_after n h

  meets_after : (n : ℕ) → IsConsistent plan → AreTaken plan is → is_unlit plan is ≡ true → (replay plan is).now + n ≤ 1000 → Meets plan (ticks_after is n)
  meets_after n ok taken unlit few = record {
    consistent = ok;
    taken = taken_after n taken few;
    untripped = faults_alone_trip plan (ticks_after is n) ok (taken_after n taken few) (unlit_after n unlit);
  }

-- the same ticks as the laws of clearance count them
same_ticks : (plan : Plan) (is : List Input) (n k : ℕ) → after_ticks (replay plan (ticks_after is n)) (λ j. all_off) k ≡ replay plan (ticks_after is (n + k))
same_ticks plan is n zero = let same : n ≡ n + 0 = omega arith in ap (λ (m : ℕ). replay plan (ticks_after is m)) same
same_ticks plan is n (suc k) =
    let same : suc (n + k) ≡ n + suc k = omega arith in
    ap (λ (s : State). step s (Tick all_off)) (same_ticks plan is n k) ∙ ap (λ (m : ℕ). replay plan (ticks_after is m)) same

-- ## Free operation

abbrev brisk_values : List (Object × ℕ × ℕ)
brisk_values =
    (PhaseMaxRecall, 2, 0) ∷ (PhaseMaxRecall, 4, 0) ∷ (PhaseMinRecall, 2, 1) ∷ (PhaseMinRecall, 4, 1) ∷
    (PhaseMinimumGreen, 2, 0) ∷ (PhaseMinimumGreen, 4, 0) ∷
    (PhaseWalk, 2, 1) ∷ (PhasePedestrianClear, 2, 1) ∷ (PhasePedRecall, 2, 1) ∷
    (OverlapIncludedPhases, 1, 2) ∷ (UnitRedRevert, 1, 20) ∷ []

unfoldable pub brisk : Plan
brisk = with_values two brisk_values

pub brisk_count : (brisk.phase_count ≡ 16) × (brisk.counts ≡ all_counts)
unfolding brisk two
brisk_count = (refl, refl)

pub brisk_rules : first_broken brisk ≡ None
unfolding opened brisk two
brisk_rules = refl

pub brisk_none : HasNone brisk.value
unfolding brisk
brisk_none = none_with brisk_values two refl two_none

-- the state after so many ticks, and what the laws ask of that run
abbrev pub at : ℕ → State
at n = replay brisk (ticks_after [] n)

pub met : (n : ℕ) → n ≤ 500 → Meets brisk (ticks_after [] n)
met n few = meets_after brisk [] n (consistent brisk brisk_count brisk_rules brisk_none) tt refl (omega (arith, few))

-- what a state shows and what the next one does, each computed once
abbrev then_next : {A : Type 0} → (State → A) → State → A × A
then_next show s = (show s, show (step s (Tick all_off)))

-- ## Timers count time

abbrev held : (State → Bool) → ℕ → ℕ
held test n = held_for test brisk (ticks_after [] n)

-- the pedestrian part of 2, its timer, and that of the interval
abbrev parts : State → PedestrianInterval × Timer × Timer
parts s = (pedestrian_part s 2, (s.phases 2).pedestrian_timer, (s.phases 2).timer)

tells_walk : parts (at 5) ≡ (Walk, On 4, On 4)
unfolding opened two brisk
tells_walk = refl

held_walk : held (λ s. is_walk (pedestrian_part s 2)) 5 ≡ 4
unfolding opened two brisk
held_walk = refl

held_green : held (λ s. is_green (interval s 2)) 5 ≡ 4
unfolding opened two brisk
held_green = refl

tells_clearance : parts (at 13) ≡ (PedestrianClear, On 2, On 12)
unfolding opened two brisk
tells_clearance = refl

held_clearance : held (λ s. is_clearance (pedestrian_part s 2)) 13 ≡ 2
unfolding opened two brisk
held_clearance = refl

tells_yellow : ((at 23).phases 2).timer ≡ On 2
unfolding opened two brisk
tells_yellow = refl

held_yellow : held (λ s. is_yellow (interval s 2)) 23 ≡ 2
unfolding opened two brisk
held_yellow = refl

tells_red_clear : ((at 52).phases 2).timer ≡ On 1
unfolding opened two brisk
tells_red_clear = refl

held_red_clear : held (λ s. is_red_clear (interval s 2)) 52 ≡ 1
unfolding opened two brisk
held_red_clear = refl

-- ## What a tick ends has held, and greens clear in time; heads clear in yellow

-- the walk in tick 11, the clearance and the green in tick 21, the yellow in tick 51, the red clearance in tick 61
walk_ends : then_next (λ s. pedestrian_part s 2) (at 10) ≡ (Walk, PedestrianClear)
unfolding opened two brisk
walk_ends = refl

abbrev greens : State → PedestrianInterval × Interval
greens s = (pedestrian_part s 2, interval s 2)

green_ends : then_next greens (at 20) ≡ ((PedestrianClear, Green), (DontWalk, Yellow))
unfolding opened two brisk
green_ends = refl

-- with the heads of 2 and of overlap 1
abbrev heads : State → Interval × Aspect × Aspect
heads s = (interval s 2, (display s).vehicle 2, (display s).overlap 1)

yellow_ends : then_next heads (at 50) ≡ ((Yellow, aspects.Yellow, aspects.Yellow), (RedClear, aspects.Red, aspects.Red))
unfolding opened two brisk
yellow_ends = refl

overlap_is_normal : is_minus_green_yellow (at 50).plan 1 ≡ false
unfolding opened two brisk
overlap_is_normal = refl

overlap_held : held (λ s. is_yellow_head ((display s).overlap 1)) 23 ≡ 2
unfolding opened two brisk
overlap_held = refl

red_clear_ends : then_next (λ s. interval s 2) (at 60) ≡ (RedClear, Red)
unfolding opened two brisk
red_clear_ends = refl

-- the green ends in tick 21, and nothing trips until it has cleared
ends_now : EndsNow (at 20) (λ k. all_off) 2
unfolding opened two brisk
ends_now = record {
  enabled = refl;
  ends = refl;
  untripped = λ k few. ap (λ (s : State). s.trip) (same_ticks brisk [] 20 k) ∙ (met (20 + k) (omega (arith, few))).untripped;
}

-- ## Commitments stay, starts wait, and what is cleared is over

-- the commitment of ring 1, and the phase that the rings cross to
abbrev commits : State → Option ℕ × Option ℕ
commits s = (s.rings.commitment Ring1, s.rings.crossing)

commits_to_4 : commits (at 30) ≡ (Some 4, Some 2)
unfolding opened two brisk
commits_to_4 = refl

-- whether 4 starts, 2 is over and 2 is cleared in the next tick, and the interval of 4 after it
abbrev starts : State → Bool × Bool × Bool × Interval
starts s = (is_started (moves s all_off) 4, over s 2, is_cleared (moves s all_off) 2, interval (step s (Tick all_off)) 4)

starts_4 : starts (at 60) ≡ (true, true, true, Green)
unfolding opened two brisk
starts_4 = refl

-- ## A start after a yellow: 2 starts again in tick 102, and has been neither Green nor Yellow since tick 51

-- whether 2 starts in the next tick, and how long it has been neither
abbrev reverts : State → Bool × Timer
reverts s = (is_started (moves s all_off) 2, (s.phases 2).red_revert)

starts_again : reverts (at 101) ≡ (true, On 50)
unfolding opened two brisk
starts_again = refl

waits_20 : red_revert (at 101).plan 2 ≡ 20
unfolding opened two brisk
waits_20 = refl

-- ## Fields are safe unless tripped: a lamp that is lit where the head is green anyway

abbrev lit : List Input
lit = Fault (Some (lamps.Phase 2 signals.Green)) ∷ ticks_after [] 5

lit_taken : AreTaken brisk lit
unfolding opened two brisk
lit_taken = ((met 5 (omega arith)).taken, refl)

lit_untripped : (replay brisk lit).trip ≡ None
unfolding opened two brisk
lit_untripped = refl

no_conflict : conflict (replay brisk lit).plan (field (replay brisk lit)) ≡ None
unfolding opened two brisk
no_conflict = refl

-- ## Coordination: a cycle of 10 s, in which 2 is coordinated and has 6 s

abbrev paced_values : List (Object × ℕ × ℕ)
paced_values =
    (PatternCycleTime, 1, 10) ∷ (PatternSplitNumber, 1, 1) ∷ (PatternSequenceNumber, 1, 1) ∷
    (SplitTime, 2, 6) ∷ (SplitTime, 4, 4) ∷ (SplitCoordPhase, 2, 1) ∷ []

unfoldable pub paced : Plan
paced = with_values brisk paced_values

paced_count : (paced.phase_count ≡ 16) × (paced.counts ≡ all_counts)
unfolding paced brisk two
paced_count = (refl, refl)

paced_rules : first_broken paced ≡ None
unfolding opened paced brisk two
paced_rules = refl

paced_none : HasNone paced.value
unfolding paced
paced_none = none_with paced_values brisk refl brisk_none

abbrev selected : List Input
selected = Pattern 1 ∷ []

selected_taken : AreTaken paced selected
unfolding opened paced brisk two
selected_taken = (tt, refl)

not_ticked : (replay paced selected).now ≡ 0
unfolding opened paced brisk two
not_ticked = refl

abbrev pub paced_at : ℕ → State
paced_at n = replay paced (ticks_after selected n)

pub paced_met : (n : ℕ) → n ≤ 500 → Meets paced (ticks_after selected n)
paced_met n few =
    let now = not_ticked in
    meets_after paced selected n (consistent paced paced_count paced_rules paced_none) selected_taken refl (omega (arith, few, now))

forced_off : IsForcedOff (paced_at 59) 1 2
unfolding opened paced brisk two
forced_off = record { selected = refl; used = refl; coordinated = refl; in_step = refl; forced = refl }

-- both laws count from phase 2, the one that is coordinated
counted : IsCountedFrom paced 1 2
unfolding paced brisk two
counted = record { is_phase = record { from_one = omega arith; within = omega arith }; is_one = refl; counted = λ leads. absurd (true≢false (sym leads)) }

paced_ends : EndsNow (paced_at 59) (λ k. all_off) 2
unfolding opened paced brisk two
paced_ends = record {
  enabled = refl;
  ends = refl;
  untripped = λ k few. ap (λ (s : State). s.trip) (same_ticks paced selected 59 k) ∙ (paced_met (59 + k) (omega (arith, few))).untripped;
}

-- 40 ticks later it is over, and the tick after is at local zero
abbrev paced_end : State → Bool × Option ℕ
paced_end s = (over s 2, local (step s (Tick all_off)))

at_zero : paced_end (paced_at 99) ≡ (true, Some 0)
unfolding opened paced brisk two
at_zero = refl

-- ## A walk within a green: by pedestrian recycle 2, which is recalled, walks again up to its instant, which is at 60

abbrev recycled_values : List (Object × ℕ × ℕ)
recycled_values = (PhasePedestrianRecycle, 2, 1) ∷ []

unfoldable pub recycled : Plan
recycled = with_values paced recycled_values

recycled_count : (recycled.phase_count ≡ 16) × (recycled.counts ≡ all_counts)
unfolding recycled paced brisk two
recycled_count = (refl, refl)

recycled_rules : first_broken recycled ≡ None
unfolding opened recycled paced brisk two
recycled_rules = refl

recycled_none : HasNone recycled.value
unfolding recycled
recycled_none = none_with recycled_values paced refl paced_none

recycled_taken : AreTaken recycled selected
unfolding opened recycled paced brisk two
recycled_taken = (tt, refl)

recycled_not_ticked : (replay recycled selected).now ≡ 0
unfolding opened recycled paced brisk two
recycled_not_ticked = refl

abbrev pub recycled_at : ℕ → State
recycled_at n = replay recycled (ticks_after selected n)

recycled_met : (n : ℕ) → n ≤ 500 → Meets recycled (ticks_after selected n)
recycled_met n few =
    let now = recycled_not_ticked in
    meets_after recycled selected n (consistent recycled recycled_count recycled_rules recycled_none) recycled_taken refl (omega (arith, few, now))

abbrev part : State → PedestrianInterval
part s = pedestrian_part s 2

-- the first walk and its clearance end in tick 21, the second walk begins in tick 22
walks_again : then_next part (recycled_at 21) ≡ (DontWalk, Walk)
unfolding opened recycled paced brisk two
walks_again = refl

tells_again : ((recycled_at 31).phases 2).pedestrian_timer ≡ On 9
unfolding opened recycled paced brisk two
tells_again = refl

held_again : held_for (λ s. is_walk (pedestrian_part s 2)) recycled (ticks_after selected 31) ≡ 9
unfolding opened recycled paced brisk two
held_again = refl

-- it ends in tick 32, its clearance in tick 42; a third would not end by tick 60, and the green ends there
again_clears : then_next part (recycled_at 31) ≡ (Walk, PedestrianClear)
unfolding opened recycled paced brisk two
again_clears = refl

again_ends : then_next part (recycled_at 42) ≡ (DontWalk, DontWalk)
unfolding opened recycled paced brisk two
again_ends = refl

green_until : then_next (λ s. interval s 2) (recycled_at 59) ≡ (Green, Yellow)
unfolding opened recycled paced brisk two
green_until = refl
