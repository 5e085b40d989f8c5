-- The largest of a time over a run, what inputs leave of the plan while a phase is in service, and timers that have not
-- reached their times.
use Rattle.std.proofs.Common.{◌≡◌, ℕ, ◌+◌, ◌<◌, ◌≤◌, ◌==◌, nat_le, Bool, true, false, not, ◌||◌, List, [], ◌∷◌, ◌++◌, None, refl, ap, ◌∙◌, arith}
use Rattle.std.proofs.lemmas.Bool.{true≢false}
use Rattle.std.proofs.lemmas.Bool.Decides.{nat_tests}
use Rattle.tsb_step.specs.tsb_cells.declared.timer.Timer.{Timer}
use Rattle.tsb_step.specs.tsb_cells.declared.timer.Timer.TheVariants.{Off, On}
use Rattle.tsb_step.specs.tsb_cells.Timer.{advanced, has_reached}
use Rattle.tsb_step.specs.tsb_types.declared.interval.Interval.{Interval}
use Rattle.tsb_step.specs.tsb_types.declared.interval.Interval.TheVariants.{Red, Green, Yellow, RedClear}
use Rattle.tsb_step.specs.tsb_types.declared.row.Row.{Row}
use Rattle.tsb_step.specs.tsb_types.Clip.{clipped}
use Rattle.tsb_step.specs.tsb_types.Intervals.{is_green, is_yellow, in_service}
use Rattle.tsb_step.specs.tsb_types.Sets.{is_phase}
use Rattle.tsb_step.specs.tsb_plan.declared.object.Object.TheVariants.{PhaseRing}
use Rattle.tsb_step.specs.tsb_plan.Objects.{is_structural}
use Rattle.tsb_step.specs.tsb_plan.Plan.{Plan, ring_of, red_clear, red_revert}
use Rattle.tsb_step.specs.tsb_phase.Ready.{yellow_is_done, is_over, red_revert_passed}
use Rattle.tsb_step.specs.tsb_ring.Laws.{IsListed}
use Rattle.tsb_step.specs.tsb_rules.Consistent.{IsPhase}
use Rattle.tsb_step.specs.declared.inputs.Input.{Input}
use Rattle.tsb_step.specs.declared.inputs.Input.TheVariants as inputs
use Rattle.tsb_step.specs.State.{State, interval}
use Rattle.tsb_step.specs.Tick.{phase_read, over, reverted}
use Rattle.tsb_step.specs.Step.{step, verdict}
use Rattle.tsb_step.specs.Runs.{replay, AreTaken}
use Rattle.tsb_step.specs.Laws.{IsConsistent}
use Rattle.tsb_step.specs.Good.{IsGood}
use Rattle.tsb_step.specs.TimeLaws.{held_for}
use Rattle.tsb_step.proofs.ClearLemmas.{plan_stays}
use Rattle.tsb_step.proofs.EditLemmas.{kept, same_phase_count}
use Rattle.tsb_step.proofs.GivenLemmas.{listed_is_phase}
use Rattle.tsb_step.proofs.TellLemmas.{timers_tell_time}
use Rattle.tsb_step.proofs.YellowLemmas.{enabled_lit, plan_of_reset, leaves_structure}
use Rattle.tsb_laws.specs.Stretches.{largest}

-- ## The largest time

pub largest_now : (time : Plan → ℕ) (plan : Plan) (is later : List Input) → time (replay plan (later ++ is)).plan ≤ largest time plan is later
largest_now time plan is [] = omega arith
largest_now time plan is (i ∷ later) = omega arith

pub largest_more : (time : Plan → ℕ) (plan : Plan) (is later : List Input) (i : Input) → largest time plan is later ≤ largest time plan is (i ∷ later)
largest_more time plan is later i = omega arith

-- ## What inputs leave of the plan while a phase is in service

pub ring_same : (s : State) (i : Input) (p : ℕ) → IsGood s → verdict s i ≡ None → in_service (interval s p) ≡ true →
    ring_of (step s i).plan p ≡ ring_of s.plan p
unfolding step
ring_same s (inputs.Tick row) p good taken serves = tick_same row
  where
    tick_same : (row : Row) → ring_of (step s (inputs.Tick row)).plan p ≡ ring_of s.plan p
    tick_same row = ap (λ (x : Plan). ring_of x p) (plan_stays s row)
ring_same s (inputs.Fault lamp) p good taken serves = ap (λ (x : Plan). ring_of x p) (enabled_lit s lamp)
ring_same s inputs.Reset p good taken serves = ap (λ (x : Plan). ring_of x p) (plan_of_reset s)
ring_same s (inputs.Commit station) p good taken serves =
    kept is_structural s.plan s.desk.edits (leaves_structure s station p good taken serves) PhaseRing p refl
ring_same s i p good taken serves = refl

count_same : (s : State) (i : Input) → (step s i).plan.phase_count ≡ s.plan.phase_count
unfolding step
count_same s (inputs.Tick row) = ap (λ (x : Plan). x.phase_count) (plan_stays s row)
count_same s (inputs.Fault lamp) = ap (λ (x : Plan). x.phase_count) (enabled_lit s lamp)
count_same s inputs.Reset = ap (λ (x : Plan). x.phase_count) (plan_of_reset s)
count_same s (inputs.Commit station) = same_phase_count s.plan s.desk.edits
count_same s i = refl

pub count_run : (plan : Plan) (is : List Input) → (replay plan is).plan.phase_count ≡ plan.phase_count
count_run plan [] = refl
count_run plan (i ∷ is) = count_same (replay plan is) i ∙ count_run plan is

-- what the rings are given of one of 16 phases
pub clipped_at : (test : ℕ → Bool) (plan : Plan) (p : ℕ) → plan.phase_count ≤ 16 → IsListed plan p → clipped test p ≡ test p
clipped_at test plan p few listed =
    let it : IsPhase plan p = listed_is_phase plan p listed in
    let low : 1 ≤ p = it.from_one in
    let high : p ≤ plan.phase_count = it.within in
    let on : is_phase p ≡ true = grind (arith, nat_tests, low, high, few) in
    rw on refl

-- ## Timers that have not reached their times

pub not_reached : (n limit : ℕ) → nat_le limit n ≡ false → n < limit
not_reached n limit h = grind (arith, nat_tests, h)

-- what is not in service is neither Green nor Yellow
pub dark_of : (i : Interval) → in_service i ≡ false → not (is_green i || is_yellow i) ≡ true
dark_of Red h = refl
dark_of Green h = absurd (true≢false h)
dark_of Yellow h = absurd (true≢false h)
dark_of RedClear h = refl

pub reverts_later : (plan : Plan) (is : List Input) (c : ℕ) → IsConsistent plan → AreTaken plan is → (replay plan is).trip ≡ None →
    in_service (interval (replay plan is) c) ≡ false → reverted (replay plan is) c ≡ false →
    held_for (λ s. not (is_green (interval s c) || is_yellow (interval s c))) plan is + 1 < red_revert (replay plan is).plan c
unfolding red_revert_passed
reverts_later plan is c ok taken dark red h = go ((replay plan is).phases c).red_revert refl
  where
    not_yellow : yellow_is_done (replay plan is).plan c (phase_read (replay plan is) c) ≡ false
    not_yellow = none (interval (replay plan is) c) refl
      where
        none : (i : Interval) → interval (replay plan is) c ≡ i → yellow_is_done (replay plan is).plan c (phase_read (replay plan is) c) ≡ false
        none Red e = rw e refl
        none Green e = absurd (true≢false (rw e at red))
        none Yellow e = absurd (true≢false (rw e at red))
        none RedClear e = absurd (true≢false (rw e at red))

    go : (t : Timer) → ((replay plan is).phases c).red_revert ≡ t →
        held_for (λ s. not (is_green (interval s c) || is_yellow (interval s c))) plan is + 1 < red_revert (replay plan is).plan c
    go Off e = let bad : true ≡ false = rw (not_yellow, e) at h in absurd (true≢false bad)
    go (On n) e =
        let told : n ≡ held_for (λ s. not (is_green (interval s c) || is_yellow (interval s c))) plan is =
        (timers_tell_time plan is ok taken dark c).red_revert n e in
        let late : n + 1 < red_revert (replay plan is).plan c = not_reached (n + 1) (red_revert (replay plan is).plan c) (rw (not_yellow, e) at h) in
        omega (arith, told, late)

-- a phase in yellow that is not over has not been yellow for its time, or has a red clearance
pub not_over_in_yellow : (s : State) (p : ℕ) → interval s p ≡ Yellow → over s p ≡ false → yellow_is_done s.plan p (phase_read s p) ≡ true →
    1 ≤ red_clear s.plan p
unfolding is_over
not_over_in_yellow s p e h d = go (red_clear s.plan p == 0) refl
  where
    go : (b : Bool) → (red_clear s.plan p == 0) ≡ b → 1 ≤ red_clear s.plan p
    go true k = let bad : true ≡ false = rw (e, rw e at d, k) at h in absurd (true≢false bad)
    go false k = grind (arith, nat_tests, k)

pub not_over_in_red_clear : (s : State) (p : ℕ) → interval s p ≡ RedClear → over s p ≡ false →
    has_reached (phase_read s p).timer (red_clear s.plan p) ≡ false
unfolding is_over
not_over_in_red_clear s p e h = rw e at h

-- a timer that runs since n ticks and has not reached a time in the next one
pub not_lasted : (t : Timer) (n limit : ℕ) → t ≡ On n → has_reached (advanced t) limit ≡ false → n + 1 < limit
not_lasted t n limit e h = not_reached (n + 1) limit (rw e at h)
