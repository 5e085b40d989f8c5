-- How many ticks more a green takes that a preempt ends, until it is ready: found of the phase as it is, by times that
-- no plan in effect exceeds, and one less after each tick. For the laws that preempts reach their stages and dwell.
use Rattle.std.proofs.Common.{◌≡◌, ℕ, ◌+◌, ◌-◌, ◌≤◌, ◌==◌, nat_le, Bool, true, false, not, ◌&&◌, if◌then◌else◌, min, max, Some, None, refl, sym, ap, arith, ◌∙◌}
use Rattle.std.proofs.lemmas.Bool.{eqb-true, true≢false}
use Rattle.std.proofs.lemmas.Bool.Decides.{nat_tests}
use Rattle.tsb_step.specs.tsb_cells.declared.timer.Timer.{Timer}
use Rattle.tsb_step.specs.tsb_cells.declared.timer.Timer.TheVariants.{On}
use Rattle.tsb_step.specs.tsb_cells.Timer.{advanced, has_reached}
use Rattle.tsb_step.specs.tsb_types.declared.interval.Interval.TheVariants.{Green}
use Rattle.tsb_step.specs.tsb_types.declared.interval.PedestrianInterval.TheVariants.{DontWalk, Walk, PedestrianClear}
use Rattle.tsb_step.specs.tsb_types.declared.row.Row.{Row}
use Rattle.tsb_step.specs.tsb_types.Intervals.{is_green}
use Rattle.tsb_step.specs.tsb_plan.Parts.{preempt_minimum_green}
use Rattle.tsb_step.specs.tsb_plan.Plan.{Plan, rests_in_walk}
use Rattle.tsb_step.specs.tsb_phase.Phase.{Phase, Given}
use Rattle.tsb_step.specs.tsb_phase.Green.{initial}
use Rattle.tsb_step.specs.tsb_phase.Pedestrian.{ended_by, walk_time, clearance_time, is_resting_in_walk, may_walk_again, pedestrian_now}
use Rattle.tsb_step.specs.tsb_phase.Ready.{is_ready}
use Rattle.tsb_step.specs.tsb_ring.Moves.{is_ended, is_started}
use Rattle.tsb_step.specs.State.{State, interval}
use Rattle.tsb_step.specs.Tick.{phases_given, phase_read, moves, ready, next}
use Rattle.tsb_laws.proofs.operation.step.PhaseTimeLemmas.{left, walking_in, green_left, Runs, IsTimed}
use Rattle.tsb_laws.proofs.operation.green.WalkTimeLemmas.{walks_down, walks_no_more, walk_then}

-- the preempt that ends a phase is in service
served : (given : Given) (p n : ℕ) → ended_by given p ≡ Some n → given.service ≡ Some n
served given p n ends = go (given.must_end p) ends
  where
    go : (b : Bool) → (if b then given.service else None) ≡ Some n → given.service ≡ Some n
    go true h = h
    go false h = absurd cc

module _ (plan : Plan) (given : Given) (p n : ℕ) (w : Phase) (ends : ended_by given p ≡ Some n) where
  does_not_rest : is_resting_in_walk plan given p ≡ false
  does_not_rest = rw ends (go (rests_in_walk plan p) (not (given.conflict p)))
    where
      go : (a b : Bool) → (a && (b && false)) ≡ false
      go true true = refl
      go true false = refl
      go false b = refl

  -- while a preempt is in service no walk begins within a green
  no_walk : may_walk_again given p w ≡ false
  no_walk = rw (served given p n ends) (go (is_green w.interval) (given.recycle p) (given.pedestrian_call p) (not (w.forced && given.conflict p)))
    where
      go : (a b c d : Bool) → (a && (b && ((c && false) && d))) ≡ false
      go false b c d = refl
      go true false c d = refl
      go true true false d = refl
      go true true true d = refl

  lasted_enough : (g : ℕ) → preempt_minimum_green plan n ≤ g → (t : Timer) → w.timer ≡ advanced t → Runs t → left g t ≡ 0 →
      has_reached w.timer (min (initial plan p (given.count p)) (preempt_minimum_green plan n)) ≡ true
  lasted_enough g most t read run none =
      let now : w.timer ≡ On (run.count + 1) = read ∙ ap advanced run.is in
      let zero : left g (On run.count) ≡ 0 = sym (ap (λ (u : Timer). left g u) run.is) ∙ none in
      let ended : nat_le (min (initial plan p (given.count p)) (preempt_minimum_green plan n)) (run.count + 1) ≡ true = grind (arith, nat_tests, zero, most) in
      rw now ended

  pub is_ready_then : (g a b : ℕ) → preempt_minimum_green plan n ≤ g → walk_time plan p (Some n) ≤ a → clearance_time plan p (Some n) ≤ b →
      (t u : Timer) → w.timer ≡ advanced t → w.pedestrian_timer ≡ advanced u → Runs t → (w.pedestrian ≡ Walk → Runs u) → (w.pedestrian ≡ PedestrianClear → Runs u) →
      is_green w.interval ≡ true → max (left g t) (walking_in a b u w.pedestrian) ≡ 0 → is_ready plan given p w ≡ true
  unfolding is_ready
  is_ready_then g a b most_g most_a most_b t u read_t read_u run on_walk on_clear green none =
      let first : left g t ≡ 0 = omega (arith, none) in
      let second : walking_in a b u w.pedestrian ≡ 0 = omega (arith, none) in
      let still : pedestrian_now plan given p w ≡ DontWalk = walks_no_more plan given p w (Some n) ends does_not_rest (λ e. no_walk) a b most_a most_b u read_u on_walk on_clear second in
      let long = lasted_enough g most_g t read_t run first in
      rw (green, still, ends, long) refl

-- ## As the controller has it

-- a green that a preempt ends, and that does not end yet
pub greens_down : (s : State) (row : Row) (p n g a b : ℕ) → ended_by (phases_given s row) p ≡ Some n → walk_time s.plan p (Some n) ≤ a →
    clearance_time s.plan p (Some n) ≤ b → IsTimed (s.phases p) → interval s p ≡ Green → is_ended (moves s row) p ≡ false → is_started (moves s row) p ≡ false →
    green_left g a b ((next s row).phases p) ≤ green_left g a b (s.phases p) - 1
greens_down s row p n g a b ends most_a most_b timed e no_end no_start =
    let run : Runs (s.phases p).timer = timed.green e in
    let runs : ((next s row).phases p).timer ≡ On (run.count + 1) = rw (no_start, e, no_end, run.is) refl in
    let first : left g ((next s row).phases p).timer ≡ left g (On (run.count + 1)) = ap (λ (t : Timer). left g t) runs in
    let was : left g (s.phases p).timer ≡ left g (On run.count) = ap (λ (t : Timer). left g t) run.is in
    let same = walk_then s row p e no_end no_start a b in
    let down = walks_down s.plan (phases_given s row) p (phase_read s p) (Some n) ends
    (does_not_rest s.plan (phases_given s row) p n (phase_read s p) ends) (λ e. no_walk s.plan (phases_given s row) p n (phase_read s p) ends) a b most_a most_b (s.phases p).pedestrian_timer refl timed.walk timed.clearance in
    at_most (left g ((next s row).phases p).timer) (left g (s.phases p).timer)
    (walking_in a b ((next s row).phases p).pedestrian_timer ((next s row).phases p).pedestrian)
    (walking_in a b (s.phases p).pedestrian_timer (s.phases p).pedestrian) (omega (arith, first, was)) (omega (arith, same, down))
  where
    at_most : (i j k l : ℕ) → i ≤ j - 1 → k ≤ l - 1 → max i k ≤ max j l - 1
    at_most i j k l h m = omega (arith, h, m)

-- one that is not ready has a tick left
pub not_yet_ready : (s : State) (row : Row) (p n g a b : ℕ) → ended_by (phases_given s row) p ≡ Some n → preempt_minimum_green s.plan n ≤ g →
    walk_time s.plan p (Some n) ≤ a → clearance_time s.plan p (Some n) ≤ b → IsTimed (s.phases p) → interval s p ≡ Green → ready s row p ≡ false →
    1 ≤ green_left g a b (s.phases p)
not_yet_ready s row p n g a b ends most_g most_a most_b timed e h = go (green_left g a b (s.phases p) == 0) refl
  where
    go : (z : Bool) → (green_left g a b (s.phases p) == 0) ≡ z → 1 ≤ green_left g a b (s.phases p)
    go false k = grind (arith, nat_tests, k)
    go true k =
        let none : green_left g a b (s.phases p) ≡ 0 = eqb-true (green_left g a b (s.phases p)) 0 k in
        absurd (true≢false (sym (is_ready_then s.plan (phases_given s row) p n (phase_read s p) ends g a b most_g most_a most_b (s.phases p).timer
        (s.phases p).pedestrian_timer refl refl (timed.green e) timed.walk timed.clearance (ap is_green e) none) ∙ h))

-- a green that has just begun, without a walk
pub begun_left : (x : Phase) (g a b : ℕ) → x.timer ≡ On 0 → x.pedestrian ≡ DontWalk → green_left g a b x ≤ g - 1
begun_left x g a b e f = rw (e, f) (few (g - (0 + 1)) g refl)
  where
    few : (m k : ℕ) → m ≡ k - (0 + 1) → max m 0 ≤ k - 1
    few m k h = omega (arith, h)
