-- How many ticks more a green lasts in free operation, if it has a conflict in each: until its maximum, its initial
-- time, its walk and its pedestrian clearance have passed. For `called_phases_are_served`, `called_phases_come` and
-- `crossings_begin`.
use Rattle.std.proofs.Common.{◌≡◌, ℕ, ◌-◌, ◌≤◌, Bool, true, false, Option, refl, ap, arith}
use Rattle.tsb_step.specs.tsb_types.declared.interval.Interval.TheVariants.{Green}
use Rattle.tsb_step.specs.tsb_types.declared.row.Row.{Row}
use Rattle.tsb_step.specs.tsb_types.Intervals.{in_service}
use Rattle.tsb_step.specs.tsb_types.Sets.{is_phase}
use Rattle.tsb_step.specs.tsb_plan.Plan.{Plan, sequence, walk, pedestrian_clear}
use Rattle.tsb_step.specs.tsb_plan.Running.{sequence_in_effect}
use Rattle.tsb_step.specs.tsb_phase.Phase.{Phase}
use Rattle.tsb_step.specs.tsb_ring.Rings.{Ring, number}
use Rattle.tsb_step.specs.tsb_ring.Moves.{is_ended, is_started}
use Rattle.tsb_step.specs.State.{State, interval}
use Rattle.tsb_step.specs.Tick.{conflict, ready, rings_given, moves, after_moves}
use Rattle.tsb_step.specs.Good.{IsGood}
use Rattle.tsb_laws.specs.ServedCalls.{is_free, longest_maximum, longest_initial, longest_green}
use Rattle.tsb_laws.proofs.operation.step.PhaseTimeLemmas.{IsTimed}
use Rattle.tsb_laws.proofs.operation.green.PressedGreenLemmas.{pressed_left, pressed_unforced, free_parts, presses_down, not_ready_yet}
use Rattle.tsb_laws.proofs.operation.green.PressedRunLemmas.{pressed_most, is_one}
use Rattle.tsb_laws.proofs.operation.calls.RingPlaceLemmas.{View, view, order_of}
use Rattle.tsb_laws.proofs.operation.calls.RingStepLemmas.{BoundsGreens}

-- until p may end with a conflict
abbrev pub green_left : Plan → ℕ → Phase → ℕ
green_left plan p x = pressed_left (longest_maximum plan p) (longest_initial plan p) (walk plan p) (pedestrian_clear plan p) x

green_unforced : (plan : Plan) (p : ℕ) (x : Phase) (f : Bool) → green_left plan p (record x { forced = f }) ≡ green_left plan p x
green_unforced plan p x f = pressed_unforced (longest_maximum plan p) (longest_initial plan p) (walk plan p) (pedestrian_clear plan p) x f

-- p may end within n ticks
abbrev pub LastsFreely : View → ℕ → ℕ → Type 0
LastsFreely v p n = green_left v.plan p (v.phases p) ≤ n

-- at any moment a green lasts for the longest time at most
pub lasts_now : (v : View) (p : ℕ) → LastsFreely v p (longest_green v.plan p)
unfolding longest_green
lasts_now v p =
    pressed_most (longest_maximum v.plan p) (longest_initial v.plan p) (walk v.plan p) (pedestrian_clear v.plan p) (longest_green v.plan p) (v.phases p)
    (omega arith) (omega arith) (omega arith)

module _ (s : State) (row : Row) (longest : ℕ → ℕ) (good : IsGood s) (few : s.plan.phase_count ≤ 16) (free : is_free s row ≡ true) (timed : (p : ℕ) → IsTimed (s.phases p))
    (greens : (p : ℕ) → interval (after_moves s row) p ≡ Green → LastsFreely (view true (after_moves s row)) p (longest p)) where
  one : (p : ℕ) → interval s p ≡ Green → is_phase p ≡ true
  one p green = is_one s.plan p few (good.rings.listed p (ap in_service green))

  sequenced_now : (r : Ring) → (rings_given s row).sequence r ≡ order_of (view true s) r
  unfolding rings_given
  sequenced_now r = ap (λ (o : Option ℕ). sequence s.plan (sequence_in_effect s.plan o) (number r)) (free_parts s row free).1

  goes_down_one : (p n : ℕ) → interval s p ≡ Green → conflict s row p ≡ true → is_ended (moves s row) p ≡ false → is_started (moves s row) p ≡ false →
      LastsFreely (view true s) p n → LastsFreely (view true (after_moves s row)) p (n - 1)
  goes_down_one p n green pressed no_end no_start it =
      let less : green_left s.plan p ((after_moves s row).phases p) ≤ green_left s.plan p (s.phases p) - 1 =
      presses_down s row p (one p green) pressed free (longest_maximum s.plan p) (longest_initial s.plan p) (walk s.plan p) (pedestrian_clear s.plan p) (omega arith) (omega arith)
      (timed p) green no_end no_start in
      let before = green_unforced s.plan p (s.phases p) false in
      let now = green_unforced s.plan p ((after_moves s row).phases p) false in
      omega (arith, less, before, now, it)

  not_yet_one : (p n : ℕ) → interval s p ≡ Green → conflict s row p ≡ true → ready s row p ≡ false → LastsFreely (view true s) p n → 1 ≤ n
  not_yet_one p n green pressed late it =
      let some : 1 ≤ green_left s.plan p (s.phases p) =
      not_ready_yet s row p (one p green) pressed free (longest_maximum s.plan p) (longest_initial s.plan p) (walk s.plan p) (pedestrian_clear s.plan p)
      (omega arith) (omega arith) (omega arith) (omega arith) (timed p) green late in
      let before = green_unforced s.plan p (s.phases p) false in
      omega (arith, some, before, it)

  pub bounds_greens : BoundsGreens true longest LastsFreely s row
  bounds_greens = record {
    sequenced = sequenced_now;
    begins_green = λ p on. greens p (rw on refl);
    goes_down = goes_down_one;
    not_yet = not_yet_one;
  }
