-- Ticks that find the rows of phases as an earlier one did, and leave them so.
use Rattle.std.proofs.Common.{◌≡◌, ◌≢◌, ℕ, ◌+◌, ◌-◌, ◌*◌, ◌/◌, ◌==◌, ◌<◌, ◌≤◌, min, nat_le, nat_lt, List, slice_index, Bool, true, false, ◌&&◌, ◌||◌, if◌then◌else◌, Option, Some, None, is_some, is_none, refl, sym, ap, ap₂, subst, ◌∙◌, inl, inr, arith}
use Rattle.std.proofs.lemmas.Bool.Decides.{nat_tests, eqb_tells}
use Rattle.tsb_cells.specs.declared.timer.Timer.{Timer}
use Rattle.tsb_cells.specs.declared.timer.Timer.TheVariants.{Off, On}
use Rattle.tsb_cells.specs.Timer.{timer_at, has_reached, started}
use Rattle.tsb_cells.proofs.TimerLemmas.{timer_at-on, timer_at-off}
use Rattle.tsb_objects.specs.tsb_types.declared.interval.Interval.{Interval}
use Rattle.tsb_objects.specs.tsb_types.declared.interval.Interval.TheVariants.{Red, Green, Yellow, RedClear}
use Rattle.tsb_objects.specs.tsb_types.declared.interval.PedestrianInterval.{PedestrianInterval}
use Rattle.tsb_objects.specs.tsb_types.declared.interval.PedestrianInterval.TheVariants.{DontWalk, Walk, PedestrianClear}
use Rattle.tsb_objects.specs.tsb_types.Intervals.{is_green, is_dont_walk, in_service}
use Rattle.tsb_objects.specs.tsb_plan.Plan.{Plan, yellow_change, red_clear, red_revert, time_before_reduction, disables_simultaneous_gap, passage, minimum_gap, time_to_reduce}
use Rattle.tsb_objects.specs.tsb_plan.Running.{floating_time}
use Rattle.tsb_phase.specs.declared.phase_row.PhaseRow.{PhaseRow}
use Rattle.tsb_phase.specs.Phase.{Phase, Given, none_moved, held_of}
use Rattle.tsb_phase.specs.Green.{passage_timer, conflict_timer, begun, begins_reduction, has_cars_before_reduction, reduction_timer, gap_has_expired, gapped_latch, has_reached_some, acting_maximum, has_maxed_out, floats_off, forced_latch, is_gapped, is_by_gap, gap, initial}
use Rattle.tsb_phase.specs.Pedestrian.{ended_by, walk_time, clearance_time, is_resting_in_walk, may_walk_again, pedestrian_now, pedestrian_timer_in}
use Rattle.tsb_phase.specs.Ready.{is_ready, is_over, is_gapped_now, red_revert_passed, has_passed, green_is_done, may_end, needs_forced, has_timed_out}
use Rattle.tsb_phase.specs.Next.{next_from_read}
use Rattle.tsb_phase.specs.Cells.{number_in, row_in, phase_of, interval_of_row, pedestrian_of_row, IsRowBy}
use Rattle.tsb_phase.specs.Due.{least_of, has_expired, IsKept, IsStill, StaysReverted}
use Rattle.tsb_phase.proofs.BoundLemmas.{gap_falls_on}
use Rattle.tsb_phase.proofs.GreenLemmas.{same_phase, next-green}
use Rattle.tsb_phase.proofs.ReadLemmas.{is-red, red-state, told-red, dont-walk}

-- ## Timers

pub off-not : (t cell limit : ℕ) → cell ≡ 0 → has_reached (timer_at t cell) limit ≡ false
off-not t cell limit e = rw e refl

below : (t cell limit : ℕ) → 1 ≤ cell → cell ≤ t + 1 → t < cell - 1 + limit → nat_le limit (t + 1 - cell) ≡ false
below t cell limit from within h = grind (arith, nat_tests, from, within, h)

pub on-before : (t cell limit : ℕ) → 1 ≤ cell → cell ≤ t + 1 → t < cell - 1 + limit → has_reached (timer_at t cell) limit ≡ false
on-before t cell limit from within h = ap (λ (x : Timer). has_reached x limit) (timer_at-on t cell from) ∙ below t cell limit from within h

pub passed-same : (t n cell limit : ℕ) → has_reached (timer_at t cell) limit ≡ has_reached (timer_at n cell) limit →
    has_passed (timer_at t cell) limit ≡ has_passed (timer_at n cell) limit
passed-same t n cell limit h =
    elim (eqb_tells cell 0) [
      | inl zero ↦ rw zero.0 refl
      | inr on ↦ rw on.0 (rw on.0 at h)
    ]

-- the same of a limit that is the same
pub at-limit : (x y : Timer) (l m : ℕ) → l ≡ m → has_reached x l ≡ has_reached y l → has_reached x m ≡ has_reached y m
at-limit x y l m e h = subst (λ (n : ℕ). has_reached x n ≡ has_reached y n) e h

-- and of one that there may be
pub at-some-limit : (x y : Timer) (l m : Option ℕ) → l ≡ m → has_reached_some x l ≡ has_reached_some y l → has_reached_some x m ≡ has_reached_some y m
at-some-limit x y l m e h = subst (λ (n : Option ℕ). has_reached_some x n ≡ has_reached_some y n) e h

pub not-at-limit : (x : Timer) (l m : ℕ) → l ≡ m → has_reached x l ≡ false → has_reached x m ≡ false
not-at-limit x l m e h = subst (λ (n : ℕ). has_reached x n ≡ false) e h

-- one phase more
pub one-more : (P : ℕ → ℕ → Type 0) (due turns n new : ℕ) → new ≡ min due turns → ((t p : ℕ) → t < due → 1 ≤ p → p < n → P t p) →
    ((t : ℕ) → t < turns → P t n) → (t p : ℕ) → t < new → 1 ≤ p → p < n + 1 → P t p
one-more P due turns n new e told here t p soon from within =
    elim (eqb_tells p n) [
      | inl same ↦ subst (λ (k : ℕ). P t k) (sym same.1) (here t (omega (arith, e, soon)))
      | inr other ↦ (let apart : p ≢ n = other.1 in told t p (omega (arith, e, soon)) from (omega (arith, within, apart)))
    ]

pub reverts-here : (plan : Plan) (cells : List ℕ) (now t n p cell limit : ℕ) → p ≡ n → cell ≡ slice_index cells (3 + 16 * 5 + p) → limit ≡ red_revert plan p →
    (cell ≤ now + 1 → now ≤ t → has_reached (timer_at t cell) limit ≡ has_reached (timer_at now cell) limit) → StaysReverted plan cells now t n
unfolding row_in
reverts-here plan cells now t n p cell limit same e f h =
    subst (λ (k : ℕ). StaysReverted plan cells now t k) same (λ after within.
    (let by_cell : slice_index cells (83 + p) ≤ now + 1 → now ≤ t → has_reached (timer_at t (slice_index cells (83 + p))) limit ≡ has_reached (timer_at now (slice_index cells (83 + p))) limit =
    subst (λ (c : ℕ). c ≤ now + 1 → now ≤ t → has_reached (timer_at t c) limit ≡ has_reached (timer_at now c) limit) e h in
    at-limit (timer_at t (slice_index cells (83 + p))) (timer_at now (slice_index cells (83 + p))) limit (red_revert plan p) f (by_cell within after)))

-- ## The gap

off-not-on : (n : ℕ) → Off ≡ On n → ⊥
off-not-on n e = cc

on-not-off : (n : ℕ) → On n ≡ Off → ⊥
on-not-off n e = cc

-- a smaller limit is reached too, and at a later tick
reached-on : (now t cell l m : ℕ) → now ≤ t → m ≤ l → has_reached (timer_at now cell) l ≡ true → has_reached (timer_at t cell) m ≡ true
reached-on now t cell l m after less h =
    elim (eqb_tells cell 0) [
      | inl zero ↦ rw zero.0 (rw zero.0 at h)
      | inr on ↦ rw on.0 (on-still (now + 1 - cell) (t + 1 - cell) l m (omega (arith, after)) less (rw on.0 at h))
    ]
  where
    on-still : (a b l m : ℕ) → a ≤ b → m ≤ l → nat_le l a ≡ true → nat_le m b ≡ true
    on-still a b l m more less h = grind (arith, nat_tests, more, less, h)

-- a reduction timer that runs on
runs-on : (now t cell : ℕ) → now ≤ t → (plan : Plan) (p : ℕ) → gap plan p (timer_at t cell) ≤ gap plan p (timer_at now cell)
runs-on now t cell after plan p =
    elim (eqb_tells cell 0) [
      | inl zero ↦ rw zero.0 (omega arith)
      | inr on ↦ rw on.0 (gap_falls_on plan p (now + 1 - cell) (t + 1 - cell) (omega (arith, after)))
    ]

-- a gap that has been reduced for all its time falls no further
gap-rests : (plan : Plan) (p r s : ℕ) → time_to_reduce plan p ≤ r → time_to_reduce plan p ≤ s → gap plan p (On r) ≡ gap plan p (On s)
unfolding gap
gap-rests plan p r s all more =
    let same : min r (time_to_reduce plan p) ≡ min s (time_to_reduce plan p) = omega (arith, all, more) in
    ap (λ (n : ℕ). if time_to_reduce plan p == 0 then minimum_gap plan p else passage plan p - (passage plan p - minimum_gap plan p) * n / time_to_reduce plan p) same

-- by what is found of the two times
pub reduced-for-all : (n l m : ℕ) → l ≡ m → nat_lt n l ≡ false → m ≤ n
reduced-for-all n l m e h = subst (λ (k : ℕ). k ≤ n) e (grind (arith, nat_tests, h))

-- and one whose reduction timer is Off, or has been On for all that time
pub gap-stays : (plan : Plan) (p now t cell : ℕ) → now ≤ t → (1 ≤ cell → time_to_reduce plan p ≤ now + 1 - cell) →
    gap plan p (timer_at t cell) ≡ gap plan p (timer_at now cell)
gap-stays plan p now t cell after all =
    elim (eqb_tells cell 0) [
      | inl zero ↦ rw zero.0 refl
      | inr on ↦
          (let some : 1 ≤ cell = (let apart : cell ≢ 0 = on.1 in omega (arith, apart)) in
          let reduced = all some in
          rw on.0 (gap-rests plan p (t + 1 - cell) (now + 1 - cell) (omega (arith, reduced, after)) reduced))
    ]

-- whether it has, as it is found at tick `now`
pub expired-found : (plan : Plan) (p : ℕ) (r : PhaseRow) (now limit : ℕ) (x : Timer) (b : Bool) → x ≡ timer_at now r.reduction →
    limit ≡ gap plan p x → b ≡ has_reached (timer_at now r.passage) limit → has_expired plan p r now ≡ b
expired-found plan p r now limit x b e f h =
    ap (λ (n : ℕ). has_reached (timer_at now r.passage) n) (sym (f ∙ ap (gap plan p) e)) ∙ sym h

-- once the passage timer has reached the gap it stays so
pub expired-stays : (plan : Plan) (p : ℕ) (r : PhaseRow) (now t : ℕ) → now ≤ t → has_expired plan p r now ≡ true → has_expired plan p r t ≡ true
expired-stays plan p r now t after h = reached-on now t r.passage _ _ after (runs-on now t r.reduction after plan p) h

-- so many ticks after tick `now` the passage timer has not reached the gap that is reduced
pub on-unexpired : (plan : Plan) (p : ℕ) (r : PhaseRow) (now t : ℕ) → 1 ≤ r.passage → 1 ≤ r.reduction → r.passage ≤ now + 1 → r.reduction ≤ now + 1 → now ≤ t →
    now + 1 - r.passage + (t - now) < gap plan p (On (now + 1 - r.reduction + (t - now))) → has_expired plan p r t ≡ false
on-unexpired plan p r now t runs reduces begun reduced after h =
    let steps : now + 1 - r.reduction + (t - now) ≡ t + 1 - r.reduction = omega (arith, reduced, after) in
    let less : now + 1 - r.passage + (t - now) < gap plan p (On (t + 1 - r.reduction)) =
    subst (λ (n : ℕ). now + 1 - r.passage + (t - now) < gap plan p (On n)) steps h in
    ap₂ (λ (x y : Timer). has_reached x (gap plan p y)) (timer_at-on t r.passage runs) (timer_at-on t r.reduction reduces)
    ∙ under (t + 1 - r.passage) (gap plan p (On (t + 1 - r.reduction))) (omega (arith, less, begun, after))
  where
    under : (n l : ℕ) → n < l → nat_le l n ≡ false
    under n l h = grind (arith, nat_tests, h)

-- ## The pedestrian part of a green

rest-false : (b : Bool) (x : PedestrianInterval) → (if b && false then x else Walk) ≡ Walk
rest-false true x = refl
rest-false false x = refl

module _ (plan : Plan) (given : Given) (p : ℕ) (w : Phase) where
  pub part-dont_walk : w.pedestrian ≡ DontWalk → may_walk_again given p w ≡ false → pedestrian_now plan given p w ≡ w.pedestrian
  unfolding pedestrian_now
  part-dont_walk e not = rw (e, not) refl

  pub part-rests : w.pedestrian ≡ Walk → is_resting_in_walk plan given p ≡ true → pedestrian_now plan given p w ≡ w.pedestrian
  unfolding pedestrian_now
  part-rests e rests = rw (e, rests) (rest-false _ _)

  pub part-walk : w.pedestrian ≡ Walk → has_reached w.pedestrian_timer (walk_time plan p (ended_by given p)) ≡ false →
      pedestrian_now plan given p w ≡ w.pedestrian
  unfolding pedestrian_now
  part-walk e not = rw (e, not) refl

  pub part-clear : w.pedestrian ≡ PedestrianClear → has_reached w.pedestrian_timer (clearance_time plan p (ended_by given p)) ≡ false →
      pedestrian_now plan given p w ≡ w.pedestrian
  unfolding pedestrian_now
  part-clear e not = rw (e, not) refl

part-timer : (part : PedestrianInterval) (x : Timer) → (part ≡ DontWalk → x ≡ Off) → pedestrian_timer_in part part x ≡ x
part-timer DontWalk x off = sym (off refl)
part-timer Walk x off = refl
part-timer PedestrianClear x off = refl

-- ## A green whose timers and latches tick `now` leaves as they were

-- a timer that is Off where a test holds, and else On
stays-unless : (now t cell : ℕ) (off : Bool) → timer_at now cell ≡ (if off then Off else started (timer_at now cell)) →
    timer_at t cell ≡ (if off then Off else started (timer_at t cell))
stays-unless now t cell true e =
    elim (eqb_tells cell 0) [
      | inl zero ↦ rw zero.0 refl
      | inr on ↦ absurd (on-not-off (now + 1 - cell) (rw on.0 at e))
    ]
stays-unless now t cell false e =
    elim (eqb_tells cell 0) [
      | inl zero ↦ absurd (off-not-on 0 (rw zero.0 at e))
      | inr on ↦ rw on.0 refl
    ]

-- and one that is On where a test holds
stays-while : (now t cell : ℕ) (on : Bool) → timer_at now cell ≡ (if on then started (timer_at now cell) else Off) →
    timer_at t cell ≡ (if on then started (timer_at t cell) else Off)
stays-while now t cell true e = stays-unless now t cell false e
stays-while now t cell false e = stays-unless now t cell true e

-- and one that has begun by a test
stays-begun : (now t cell : ℕ) (on begins : Bool) → timer_at now cell ≡ (if on then begun begins (timer_at now cell) else Off) →
    timer_at t cell ≡ (if on then begun begins (timer_at t cell) else Off)
stays-begun now t cell false begins e = stays-unless now t cell true e
stays-begun now t cell true begins e =
    elim (eqb_tells cell 0) [
      | inl zero ↦ rw zero.0 (rw zero.0 at e)
      | inr on ↦ rw on.0 refl
    ]

-- what two timers have reached, of two that are the same
reach-as : (x y x' y' : Timer) (limit : ℕ) → x ≡ x' → y ≡ y' → has_reached x limit ≡ has_reached y limit → has_reached x' limit ≡ has_reached y' limit
reach-as x y x' y' limit e f h = ap (λ (z : Timer). has_reached z limit) (sym e) ∙ h ∙ ap (λ (z : Timer). has_reached z limit) f

-- and of a limit that there may be
reach-some-as : (x y x' y' : Timer) (limit : Option ℕ) → x ≡ x' → y ≡ y' → has_reached_some x limit ≡ has_reached_some y limit →
    has_reached_some x' limit ≡ has_reached_some y' limit
reach-some-as x y x' y' limit e f h =
    ap (λ (z : Timer). has_reached_some z limit) (sym e) ∙ h ∙ ap (λ (z : Timer). has_reached_some z limit) f

-- a latch that tick `now` leaves as it was
latch-of : (runs free conflict forced latch floats floats' : Bool) → floats ≡ floats' →
    (runs && (free && (conflict && (forced || (floats || latch))))) ≡ (runs && (free && (conflict && (forced || (floats' || latch)))))
latch-of runs free conflict forced latch floats floats' e = rw e refl

module _ (plan : Plan) (given : Given) (p : ℕ) (r : PhaseRow) (now t : ℕ) (kept : IsKept plan given p r now) where
  passage-then : timer_at t r.passage ≡ passage_timer given p (held_of (phase_of t r))
  passage-then = stays-unless now t r.passage (given.output p) kept.passage

  conflict-then : timer_at t r.conflict ≡ conflict_timer given p (held_of (phase_of t r))
  conflict-then = stays-while now t r.conflict (given.conflict p) kept.conflict

  reach-conflict : (limit : ℕ) → has_reached (timer_at t r.conflict) limit ≡ has_reached (timer_at now r.conflict) limit →
      has_reached (conflict_timer given p (held_of (phase_of t r))) limit ≡ has_reached (conflict_timer given p (held_of (phase_of now r))) limit
  reach-conflict limit h = reach-as _ _ _ _ limit conflict-then kept.conflict h

  reach-some-conflict : (limit : Option ℕ) → has_reached_some (timer_at t r.conflict) limit ≡ has_reached_some (timer_at now r.conflict) limit →
      has_reached_some (conflict_timer given p (held_of (phase_of t r))) limit ≡ has_reached_some (conflict_timer given p (held_of (phase_of now r))) limit
  reach-some-conflict limit h = reach-some-as _ _ _ _ limit conflict-then kept.conflict h

  module _ (floating : floats_off plan given p (held_of (phase_of t r)) ≡ floats_off plan given p (held_of (phase_of now r))) where
    forced-then : forced_latch plan given p (held_of (phase_of t r)) ≡ forced_latch plan given p (held_of (phase_of now r))
    forced-then =
        latch-of (is_some given.runs) (is_none given.service) (given.conflict p) (given.forced p) r.forced
        (floats_off plan given p (held_of (phase_of t r))) (floats_off plan given p (held_of (phase_of now r))) floating

  module _ (before : has_reached (timer_at t r.conflict) (time_before_reduction plan p) ≡ has_reached (timer_at now r.conflict) (time_before_reduction plan p)) where
    begins-then : begins_reduction plan given p (held_of (phase_of t r)) ≡ begins_reduction plan given p (held_of (phase_of now r))
    begins-then = ap (λ (b : Bool). b || has_cars_before_reduction plan given p) (reach-conflict (time_before_reduction plan p) before)

    reduction-then : timer_at t r.reduction ≡ reduction_timer plan given p (held_of (phase_of t r))
    unfolding reduction_timer
    reduction-then =
        subst (λ (b : Bool). timer_at t r.reduction ≡ (if given.conflict p then begun b (timer_at t r.reduction) else Off)) (sym begins-then)
        (stays-begun now t r.reduction (given.conflict p) (begins_reduction plan given p (held_of (phase_of now r))) kept.reduction)

    module _ (turned : has_expired plan p r t ≡ has_expired plan p r now) where
      expired-then : gap_has_expired plan given p (held_of (phase_of t r)) ≡ gap_has_expired plan given p (held_of (phase_of now r))
      expired-then =
          ap₂ (λ (x y : Timer). has_reached x (gap plan p y)) (sym passage-then) (sym reduction-then) ∙ turned
          ∙ ap₂ (λ (x y : Timer). has_reached x (gap plan p y)) kept.passage kept.reduction

      module _ (passed : has_reached (timer_at t r.timer) (initial plan p (given.count p)) ≡ has_reached (timer_at now r.timer) (initial plan p (given.count p))) where
        latch-then : gapped_latch plan given p (held_of (phase_of t r)) ≡ gapped_latch plan given p (held_of (phase_of now r))
        latch-then =
            ap₂ (λ (a b : Bool). disables_simultaneous_gap plan p && (given.conflict p && (r.gapped || (a && b)))) passed expired-then

        gapped-then : is_gapped plan given p (held_of (phase_of t r)) ≡ is_gapped plan given p (held_of (phase_of now r))
        gapped-then = ap₂ (λ (a b : Bool). a || b) expired-then latch-then

        module _ (most : has_reached_some (timer_at t r.conflict) (acting_maximum plan given.runs p (number_in r.running_maximum)) ≡ has_reached_some (timer_at now r.conflict) (acting_maximum plan given.runs p (number_in r.running_maximum)))
            (floating : floats_off plan given p (held_of (phase_of t r)) ≡ floats_off plan given p (held_of (phase_of now r))) where
          maxed-then : has_maxed_out plan given p (held_of (phase_of t r)) (number_in r.running_maximum) ≡ has_maxed_out plan given p (held_of (phase_of now r)) (number_in r.running_maximum)
          maxed-then = reach-some-conflict (acting_maximum plan given.runs p (number_in r.running_maximum)) most

          timed-then : has_timed_out plan given p (phase_of t r) ≡ has_timed_out plan given p (phase_of now r)
          timed-then =
              ap₂ (λ (a b : Bool). is_by_gap plan given p a || b) gapped-then (ap₂ (λ (a b : Bool). a || b) maxed-then (forced-then floating))

          may-end-then : may_end plan given p (phase_of t r) ≡ may_end plan given p (phase_of now r)
          may-end-then = ap₂ (λ (a b : Bool). if needs_forced given p then a else b) (forced-then floating) timed-then

          done-then : (o : Option ℕ) → has_reached (timer_at t r.timer) (least_of plan given p o) ≡ has_reached (timer_at now r.timer) (least_of plan given p o) →
              green_is_done plan given p (phase_of t r) o ≡ green_is_done plan given p (phase_of now r) o
          done-then None least = ap₂ (λ (a b : Bool). a && b) passed may-end-then
          done-then (Some n) least = least

ready-green : (plan : Plan) (given : Given) (p : ℕ) (w v : Phase) → w.interval ≡ Green → v.interval ≡ Green →
    pedestrian_now plan given p w ≡ pedestrian_now plan given p v →
    green_is_done plan given p w (ended_by given p) ≡ green_is_done plan given p v (ended_by given p) → is_ready plan given p w ≡ is_ready plan given p v
unfolding is_ready
ready-green plan given p w v e f part done =
    ap₂ (λ (i : Interval) (b : Bool). is_green i && b) (e ∙ sym f) (ap₂ (λ (x : PedestrianInterval) (b : Bool). is_dont_walk x && b) part done)

over-green : (plan : Plan) (p : ℕ) (w v : Phase) → w.interval ≡ Green → v.interval ≡ Green → is_over plan p w ≡ is_over plan p v
unfolding is_over
over-green plan p w v e f = rw (e, f) refl

gapped-green : (plan : Plan) (given : Given) (p : ℕ) (w v : Phase) → w.interval ≡ Green → v.interval ≡ Green →
    is_gapped plan given p (held_of w) ≡ is_gapped plan given p (held_of v) → is_gapped_now plan given p w ≡ is_gapped_now plan given p v
gapped-green plan given p w v e f same = rw (e, f, same) refl

reverted-green : (plan : Plan) (p : ℕ) (w v : Phase) → w.interval ≡ Green → v.interval ≡ Green →
    has_passed w.red_revert (red_revert plan p) ≡ has_passed v.red_revert (red_revert plan p) → red_revert_passed plan p w ≡ red_revert_passed plan p v
unfolding red_revert_passed
reverted-green plan p w v e f same = rw (e, f) same

pub green-still : (plan : Plan) (given : Given) (p : ℕ) (r : PhaseRow) (now t : ℕ) → interval_of_row r ≡ Green → IsRowBy t r → IsKept plan given p r now →
    pedestrian_now plan given p (phase_of t r) ≡ pedestrian_of_row r →
    pedestrian_now plan given p (phase_of now r) ≡ pedestrian_of_row r →
    has_reached (timer_at t r.timer) (least_of plan given p (ended_by given p)) ≡ has_reached (timer_at now r.timer) (least_of plan given p (ended_by given p)) →
    has_reached (timer_at t r.timer) (initial plan p (given.count p)) ≡ has_reached (timer_at now r.timer) (initial plan p (given.count p)) →
    has_expired plan p r t ≡ has_expired plan p r now →
    has_reached (timer_at t r.conflict) (time_before_reduction plan p) ≡ has_reached (timer_at now r.conflict) (time_before_reduction plan p) →
    has_reached_some (timer_at t r.conflict) (acting_maximum plan given.runs p (number_in r.running_maximum)) ≡ has_reached_some (timer_at now r.conflict) (acting_maximum plan given.runs p (number_in r.running_maximum)) →
    has_reached_some (timer_at t r.timer) (floating_time plan given.runs p) ≡ has_reached_some (timer_at now r.timer) (floating_time plan given.runs p) →
    has_reached (timer_at t r.red_revert) (red_revert plan p) ≡ has_reached (timer_at now r.red_revert) (red_revert plan p) →
    IsStill plan given p r now t
green-still plan given p r now t green by kept part part-now least passed turned before most floating revert =
    record {
      state =
          same_phase _ _
          green
          refl
          (sym part)
          (sym (part-timer (pedestrian_of_row r) (timer_at t r.pedestrian_timer) (λ e. timer_at-off t r.pedestrian_timer (by.dont_walk e)))
          ∙ ap (λ (x : PedestrianInterval). pedestrian_timer_in (pedestrian_of_row r) x (timer_at t r.pedestrian_timer)) (sym part))
          (passage-then plan given p r now t kept)
          (conflict-then plan given p r now t kept)
          (reduction-then plan given p r now t kept before)
          (kept.gapped ∙ sym (latch-then plan given p r now t kept before turned passed))
          (kept.forced ∙ sym (forced-then plan given p r now t kept floating))
          refl
          refl
          refl
          ∙ sym (next-green plan given p (phase_of t r) green);
      ready = ready-green plan given p (phase_of t r) (phase_of now r) green green (part ∙ sym part-now) (done-then plan given p r now t kept before turned passed most floating (ended_by given p) least);
      over = over-green plan p (phase_of t r) (phase_of now r) green green;
      gapped = gapped-green plan given p (phase_of t r) (phase_of now r) green green (gapped-then plan given p r now t kept before turned passed);
      reverted = reverted-green plan p (phase_of t r) (phase_of now r) green green (passed-same t now r.red_revert (red_revert plan p) revert);
      walks = refl;
    }

-- ## A phase that is not Green

-- a phase that is not Green, in an interval that goes on
abbrev waiting : Interval → Phase → Phase
waiting i w = record w {
  interval = i;
  pedestrian = DontWalk;
  pedestrian_timer = Off;
  passage = Off;
  conflict = Off;
  reduction = Off;
  gapped = false;
  forced = false;
}

waits : (t : ℕ) (r : PhaseRow) (i : Interval) → IsRowBy t r → is_green i ≡ false → interval_of_row r ≡ i → phase_of t r ≡ waiting i (phase_of t r)
waits t r i by other is =
    let green : is_green (interval_of_row r) ≡ false = ap is_green is ∙ other in
    let no_part : pedestrian_of_row r ≡ DontWalk = dont-walk r (by.no_walk green) (by.no_clearance green) in
    same_phase _ _ is refl no_part (timer_at-off t r.pedestrian_timer (by.dont_walk no_part))
    (timer_at-off t r.passage (by.no_passage green)) (timer_at-off t r.conflict (by.no_conflict green)) (timer_at-off t r.reduction (by.no_reduction green))
    (by.not_gapped green) (by.not_forced green) refl refl refl

next-yellow : (plan : Plan) (given : Given) (p : ℕ) (w : Phase) → w.interval ≡ Yellow → has_reached w.timer (yellow_change plan p) ≡ false →
    next_from_read plan given none_moved p w ≡ waiting Yellow w
next-yellow plan given p w e not = rw (e, not) refl

next-red_clear : (plan : Plan) (given : Given) (p : ℕ) (w : Phase) → w.interval ≡ RedClear →
    next_from_read plan given none_moved p w ≡ waiting RedClear w
next-red_clear plan given p w e = rw e refl

told-yellow : (plan : Plan) (given : Given) (p : ℕ) (w : Phase) → w.interval ≡ Yellow → has_reached w.timer (yellow_change plan p) ≡ false →
    (is_ready plan given p w ≡ false) × (is_over plan p w ≡ false) × (is_gapped_now plan given p w ≡ false) × (red_revert_passed plan p w ≡ has_passed w.red_revert (red_revert plan p))
unfolding is_ready is_over red_revert_passed
told-yellow plan given p w e not = rw (e, not) (refl, refl, refl, refl)

told-red_clear : (plan : Plan) (given : Given) (p : ℕ) (w : Phase) → w.interval ≡ RedClear →
    (is_ready plan given p w ≡ false) × (is_over plan p w ≡ has_reached w.timer (red_clear plan p)) × (is_gapped_now plan given p w ≡ false) × (red_revert_passed plan p w ≡ has_passed w.red_revert (red_revert plan p))
unfolding is_ready is_over red_revert_passed
told-red_clear plan given p w e = rw e (refl, refl, refl, refl)

pub yellow-still : (plan : Plan) (given : Given) (p : ℕ) (r : PhaseRow) (now t : ℕ) → interval_of_row r ≡ Yellow → IsRowBy t r →
    has_reached (timer_at t r.timer) (yellow_change plan p) ≡ false → has_reached (timer_at now r.timer) (yellow_change plan p) ≡ false →
    has_reached (timer_at t r.red_revert) (red_revert plan p) ≡ has_reached (timer_at now r.red_revert) (red_revert plan p) →
    IsStill plan given p r now t
yellow-still plan given p r now t is by not not_now revert =
    let told = told-yellow plan given p (phase_of t r) is not in
    let told_now = told-yellow plan given p (phase_of now r) is not_now in
    record {
      state = waits t r Yellow by refl is ∙ sym (next-yellow plan given p (phase_of t r) is not);
      ready = told.0 ∙ sym told_now.0;
      over = told.1 ∙ sym told_now.1;
      gapped = told.2 ∙ sym told_now.2;
      reverted = told.3 ∙ passed-same t now r.red_revert (red_revert plan p) revert ∙ sym told_now.3;
      walks = refl;
    }

pub red_clear-still : (plan : Plan) (given : Given) (p : ℕ) (r : PhaseRow) (now t : ℕ) → interval_of_row r ≡ RedClear → IsRowBy t r →
    has_reached (timer_at t r.timer) (red_clear plan p) ≡ has_reached (timer_at now r.timer) (red_clear plan p) →
    has_reached (timer_at t r.red_revert) (red_revert plan p) ≡ has_reached (timer_at now r.red_revert) (red_revert plan p) →
    IsStill plan given p r now t
red_clear-still plan given p r now t is by over revert =
    let told = told-red_clear plan given p (phase_of t r) is in
    let told_now = told-red_clear plan given p (phase_of now r) is in
    record {
      state = waits t r RedClear by refl is ∙ sym (next-red_clear plan given p (phase_of t r) is);
      ready = told.0 ∙ sym told_now.0;
      over = told.1 ∙ over ∙ sym told_now.1;
      gapped = told.2 ∙ sym told_now.2;
      reverted = told.3 ∙ passed-same t now r.red_revert (red_revert plan p) revert ∙ sym told_now.3;
      walks = refl;
    }

pub red-still : (plan : Plan) (given : Given) (p : ℕ) (r : PhaseRow) (now t : ℕ) → in_service (interval_of_row r) ≡ false → IsRowBy t r →
    has_reached (timer_at t r.red_revert) (red_revert plan p) ≡ has_reached (timer_at now r.red_revert) (red_revert plan p) →
    IsStill plan given p r now t
red-still plan given p r now t out by revert =
    let is : interval_of_row r ≡ Red = is-red (interval_of_row r) out in
    let told = told-red plan given p (phase_of t r) is in
    let told_now = told-red plan given p (phase_of now r) is in
    record {
      state = red-state t plan given p r by is;
      ready = sym told.0 ∙ told_now.0;
      over = sym told.1 ∙ told_now.1;
      gapped = sym told.2 ∙ told_now.2;
      reverted = sym told.3 ∙ passed-same t now r.red_revert (red_revert plan p) revert ∙ told_now.3;
      walks = refl;
    }
