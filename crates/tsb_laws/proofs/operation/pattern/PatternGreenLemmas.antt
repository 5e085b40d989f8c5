-- How many ticks more a green lasts in a pattern that runs, if it has a conflict in each: until its force-off instant
-- comes, and its initial time, its walk and its pedestrian clearance have passed. For `phases_are_served_in_patterns`.
use Rattle.std.proofs.Common.{◌≡◌, ℕ, ◌+◌, ◌-◌, ◌≤◌, Bool, true, false, None, is_some, refl, sym, ap, ◌∙◌, inl, inr, arith}
use Rattle.std.proofs.lemmas.Bool.{cases_eq, true≢false}
use Rattle.tsb_step.specs.tsb_types.declared.interval.Interval.TheVariants.{Green}
use Rattle.tsb_step.specs.tsb_types.declared.row.Row.{Row}
use Rattle.tsb_step.specs.tsb_types.Intervals.{in_service}
use Rattle.tsb_step.specs.tsb_types.Sets.{is_phase}
use Rattle.tsb_step.specs.tsb_plan.Parts.{cycle}
use Rattle.tsb_step.specs.tsb_plan.Plan.{walk, pedestrian_clear}
use Rattle.tsb_step.specs.tsb_coord.Correction.{forces}
use Rattle.tsb_step.specs.tsb_ring.Rings.{Ring}
use Rattle.tsb_step.specs.tsb_ring.Moves.{is_ended, is_started}
use Rattle.tsb_step.specs.State.{State, interval}
use Rattle.tsb_step.specs.Tick.{service, runs, conflict, ready, rings_given, moves, after_moves}
use Rattle.tsb_step.specs.Good.{IsGood}
use Rattle.tsb_laws.specs.ServedCalls.{longest_initial}
use Rattle.tsb_laws.specs.CoordinatedGreens.{ComesInCycle, longest_in_pattern}
use Rattle.tsb_laws.proofs.operation.step.PhaseTimeLemmas.{left, IsTimed, left_most, walking_most}
use Rattle.tsb_laws.proofs.operation.green.PressedRunLemmas.{is_one}
use Rattle.tsb_laws.proofs.operation.pattern.InStepLemmas.{coming_forces}
use Rattle.tsb_laws.proofs.operation.pattern.CoordinatedForceLemmas.{forcing_left, pattern_left, IsAhead, Forces, forces_down, presses_down, ready_then}
use Rattle.tsb_laws.proofs.operation.calls.RingPlaceLemmas.{View, view, order_of}
use Rattle.tsb_laws.proofs.operation.calls.RingStepLemmas.{BoundsGreens}

-- it is forced off in a tick, or has been in this green, and then n ticks are left at most
pub record LastsInPattern (v : View) (p n : ℕ) : Type 0 where
  pub tick : ℕ
  pub forced : forces v.plan v.pattern v.correction tick p ≡ true
  pub ahead : IsAhead tick (v.now + 1) (v.phases p).forced
  pub most : pattern_left tick (v.now + 1) (longest_initial v.plan p) (walk v.plan p) (pedestrian_clear v.plan p) (v.phases p) ≤ n

-- at any moment a green lasts for the longest time at most
pub lasts_now : (s : State) (k p : ℕ) → ComesInCycle s k p → LastsInPattern (view false s) p (longest_in_pattern s.plan k p)
unfolding longest_in_pattern
lasts_now s k p it = record {
  tick = it.tick;
  forced = coming_forces s.plan s.pattern s.correction it.tick p it.at_instant;
  ahead = ahead (s.phases p).forced;
  most = (let first = forcing (s.phases p).forced in
      let second : left (longest_initial s.plan p) (s.phases p).timer ≤ longest_initial s.plan p = left_most (longest_initial s.plan p) (s.phases p).timer in
      let third = walking_most (walk s.plan p) (pedestrian_clear s.plan p) (s.phases p).pedestrian_timer (s.phases p).pedestrian in
      omega (arith, first, second, third));
}
  where
    ahead : (l : Bool) → IsAhead it.tick (s.now + 1) l
    ahead true = tt
    ahead false = let after = it.later in omega (arith, after)

    forcing : (l : Bool) → forcing_left it.tick (s.now + 1) l ≤ cycle s.plan k
    forcing true = omega arith
    forcing false = let within = it.soon in omega (arith, within)

module _ (s : State) (row : Row) (longest : ℕ → ℕ) (good : IsGood s) (few : s.plan.phase_count ≤ 16) (running : is_some (runs s) ≡ true) (quiet : service s row ≡ None)
    (timed : (p : ℕ) → IsTimed (s.phases p)) (greens : (p : ℕ) → interval (after_moves s row) p ≡ Green → LastsInPattern (view false (after_moves s row)) p (longest p)) where
  one : (p : ℕ) → interval s p ≡ Green → is_phase p ≡ true
  one p green = is_one s.plan p few (good.rings.listed p (ap in_service green))

  goes_down_one : (p n : ℕ) → interval s p ≡ Green → conflict s row p ≡ true → is_ended (moves s row) p ≡ false → is_started (moves s row) p ≡ false →
      LastsInPattern (view false s) p n → LastsInPattern (view false (after_moves s row)) p (n - 1)
  goes_down_one p n green pressed no_end no_start it =
      let down : Forces s row p it.tick (one p green) pressed running quiet it.forced = forces_down s row p it.tick (one p green) pressed running quiet it.forced it.ahead green no_end no_start in
      let less = presses_down s row p it.tick (one p green) pressed running quiet it.forced good (longest_initial s.plan p)
      (timed p) it.ahead green no_end no_start in
      let most = it.most in
      record { tick = it.tick; forced = it.forced; ahead = down.ahead; most = omega (arith, less, most) }

  not_yet_one : (p n : ℕ) → interval s p ≡ Green → conflict s row p ≡ true → ready s row p ≡ false → LastsInPattern (view false s) p n → 1 ≤ n
  not_yet_one p n green pressed late it = elim (cases_eq n 0) [ inl z ↦ absurd (true≢false (sym (fit z) ∙ late)) | inr other ↦ omega (arith, other) ]
    where
      fit : n ≡ 0 → ready s row p ≡ true
      fit z =
          let most = it.most in
          ready_then s row p it.tick (one p green) pressed running quiet it.forced (longest_initial s.plan p) (walk s.plan p) (pedestrian_clear s.plan p) (omega arith) (omega arith) (omega arith)
          (timed p) it.ahead green (omega (arith, most, z))

  sequenced_now : (r : Ring) → (rings_given s row).sequence r ≡ order_of (view false s) r
  unfolding rings_given
  sequenced_now r = refl

  pub bounds_greens : BoundsGreens false longest LastsInPattern s row
  bounds_greens = record {
    sequenced = sequenced_now;
    begins_green = λ p on. greens p (rw on refl);
    goes_down = goes_down_one;
    not_yet = not_yet_one;
  }
