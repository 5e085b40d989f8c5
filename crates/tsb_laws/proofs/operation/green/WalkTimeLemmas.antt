-- How many ticks more the pedestrians of a green take, be it ended by a preempt or not: one less after each tick, where
-- no walk begins. For the laws of called phases, of patterns, of recycled walks and of preempts.
use Rattle.std.proofs.Common.{◌≡◌, ℕ, ◌+◌, ◌-◌, ◌<◌, ◌≤◌, ◌==◌, nat_le, Bool, true, false, ◌&&◌, if◌then◌else◌, Option, refl, sym, ap, arith, ◌∙◌}
use Rattle.std.proofs.lemmas.Bool.{true≢false}
use Rattle.std.proofs.lemmas.Bool.Decides.{nat_tests}
use Rattle.tsb_step.specs.tsb_cells.declared.timer.Timer.{Timer}
use Rattle.tsb_step.specs.tsb_cells.declared.timer.Timer.TheVariants.{On}
use Rattle.tsb_step.specs.tsb_cells.Timer.{advanced}
use Rattle.tsb_step.specs.tsb_types.declared.interval.PedestrianInterval.{PedestrianInterval}
use Rattle.tsb_step.specs.tsb_types.declared.interval.PedestrianInterval.TheVariants.{DontWalk, Walk, PedestrianClear}
use Rattle.tsb_step.specs.tsb_plan.Plan.{Plan}
use Rattle.tsb_step.specs.tsb_phase.Phase.{Phase, Given}
use Rattle.tsb_step.specs.tsb_phase.Pedestrian.{ended_by, walk_time, clearance_time, is_resting_in_walk, walk_has_ended, clearance_has_ended, may_walk_again, pedestrian_after, pedestrian_now, walks_again, pedestrian_timer_in}
use Rattle.tsb_step.specs.tsb_types.declared.interval.Interval.TheVariants.{Green}
use Rattle.tsb_step.specs.tsb_types.declared.row.Row.{Row}
use Rattle.tsb_step.specs.tsb_ring.Moves.{is_ended, is_started}
use Rattle.tsb_step.specs.State.{State, interval}
use Rattle.tsb_step.specs.Tick.{phases_given, phase_read, moves, next}
use Rattle.tsb_laws.proofs.safety.DueLemmas.{not_reached}
use Rattle.tsb_laws.proofs.operation.step.PhaseTimeLemmas.{left, walking_in, Runs}

-- where no walk begins within its green, a phase in DontWalk stays in it
pub stays_dark : (given : Given) (p : ℕ) (w : Phase) → walks_again given p w ≡ false → w.pedestrian ≡ DontWalk → may_walk_again given p w ≡ false
stays_dark given p w again e = rw e at again

-- `by` is the preempt that ends the phase, if one does
module _ (plan : Plan) (given : Given) (p : ℕ) (w : Phase) (by : Option ℕ) (ends : ended_by given p ≡ by) (does_not_rest : is_resting_in_walk plan given p ≡ false)
    (stays : w.pedestrian ≡ DontWalk → may_walk_again given p w ≡ false) where
  -- what a tick makes of the pedestrians, and how long they take then
  pub walks_down : (a b : ℕ) → walk_time plan p by ≤ a → clearance_time plan p by ≤ b → (t : Timer) → w.pedestrian_timer ≡ advanced t →
      (w.pedestrian ≡ Walk → Runs t) → (w.pedestrian ≡ PedestrianClear → Runs t) →
      walking_in a b (pedestrian_timer_in w.pedestrian (pedestrian_now plan given p w) w.pedestrian_timer) (pedestrian_now plan given p w)
      ≤ walking_in a b t w.pedestrian - 1
  unfolding pedestrian_now
  walks_down a b most_a most_b t read on_walk on_clear = go w.pedestrian refl
    where
      in_walk : w.pedestrian ≡ Walk → (h c : Bool) → walk_has_ended plan given p w ≡ h →
          walking_in a b (pedestrian_timer_in Walk (if h then (if c then DontWalk else PedestrianClear) else Walk) w.pedestrian_timer)
          (if h then (if c then DontWalk else PedestrianClear) else Walk) ≤ walking_in a b t Walk - 1
      in_walk e true true k = omega arith
      in_walk e true false k =
          let run : Runs t = on_walk e in
          let was : left a t ≡ left a (On run.count) = ap (λ (u : Timer). left a u) run.is in
          omega (arith, was)
      in_walk e false c k =
          let run : Runs t = on_walk e in
          let now : w.pedestrian_timer ≡ On (run.count + 1) = read ∙ ap advanced run.is in
          let was : left a t ≡ left a (On run.count) = ap (λ (u : Timer). left a u) run.is in
          let late : nat_le (walk_time plan p by) (run.count + 1) ≡ false = not_both (nat_le (walk_time plan p by) (run.count + 1)) (rw (does_not_rest, now, ends) at k) in
          let soon : run.count + 1 < walk_time plan p by = not_reached (run.count + 1) (walk_time plan p by) late in
          rw now (omega (arith, was, soon, most_a))
        where
          not_both : (x : Bool) → (x && true) ≡ false → x ≡ false
          not_both true z = absurd (true≢false z)
          not_both false z = refl

      in_clear : w.pedestrian ≡ PedestrianClear → (h : Bool) → clearance_has_ended plan given p w ≡ h →
          walking_in a b (pedestrian_timer_in PedestrianClear (if h then DontWalk else PedestrianClear) w.pedestrian_timer)
          (if h then DontWalk else PedestrianClear) ≤ walking_in a b t PedestrianClear - 1
      in_clear e true k = omega arith
      in_clear e false k =
          let run : Runs t = on_clear e in
          let now : w.pedestrian_timer ≡ On (run.count + 1) = read ∙ ap advanced run.is in
          let was : left b t ≡ left b (On run.count) = ap (λ (u : Timer). left b u) run.is in
          rw now (omega (arith, was))

      go : (x : PedestrianInterval) → w.pedestrian ≡ x →
          walking_in a b (pedestrian_timer_in w.pedestrian (pedestrian_after plan given p w w.pedestrian) w.pedestrian_timer)
          (pedestrian_after plan given p w w.pedestrian) ≤ walking_in a b t w.pedestrian - 1
      go DontWalk e = let dark = stays e in rw (e, dark) (omega arith)
      go Walk e = rw e (in_walk e (walk_has_ended plan given p w) (clearance_time plan p (ended_by given p) == 0) refl)
      go PedestrianClear e = rw e (in_clear e (clearance_has_ended plan given p w) refl)

  -- where none is left, the pedestrians are in DontWalk now
  pub walks_no_more : (a b : ℕ) → walk_time plan p by ≤ a → clearance_time plan p by ≤ b → (t : Timer) → w.pedestrian_timer ≡ advanced t →
      (w.pedestrian ≡ Walk → Runs t) → (w.pedestrian ≡ PedestrianClear → Runs t) → walking_in a b t w.pedestrian ≡ 0 →
      pedestrian_now plan given p w ≡ DontWalk
  unfolding pedestrian_now
  walks_no_more a b most_a most_b t read on_walk on_clear none = go w.pedestrian refl
    where
      in_walk : w.pedestrian ≡ Walk → pedestrian_after plan given p w Walk ≡ DontWalk
      in_walk e =
          let run : Runs t = on_walk e in
          let now : w.pedestrian_timer ≡ On (run.count + 1) = read ∙ ap advanced run.is in
          let zero : left a (On run.count) + b ≡ 0 = sym (ap (λ (u : Timer). left a u + b) run.is) ∙ (rw e at none) in
          let ended : nat_le (walk_time plan p by) (run.count + 1) ≡ true = grind (arith, nat_tests, zero, most_a) in
          let clear : (clearance_time plan p by == 0) ≡ true = grind (arith, nat_tests, zero, most_b) in
          rw (does_not_rest, now, ends, ended, clear) refl

      in_clear : w.pedestrian ≡ PedestrianClear → pedestrian_after plan given p w PedestrianClear ≡ DontWalk
      in_clear e =
          let run : Runs t = on_clear e in
          let now : w.pedestrian_timer ≡ On (run.count + 1) = read ∙ ap advanced run.is in
          let zero : left b (On run.count) ≡ 0 = sym (ap (λ (u : Timer). left b u) run.is) ∙ (rw e at none) in
          let ended : nat_le (clearance_time plan p by) (run.count + 1) ≡ true = grind (arith, nat_tests, zero, most_b) in
          rw (now, ends, ended) refl

      go : (x : PedestrianInterval) → w.pedestrian ≡ x → pedestrian_after plan given p w w.pedestrian ≡ DontWalk
      go DontWalk e = let dark = stays e in rw (e, dark) refl
      go Walk e = rw e (in_walk e)
      go PedestrianClear e = rw e (in_clear e)

-- what a tick leaves of the walk of a green that does not end
pub walk_then : (s : State) (row : Row) (p : ℕ) → interval s p ≡ Green → is_ended (moves s row) p ≡ false → is_started (moves s row) p ≡ false → (a b : ℕ) →
    walking_in a b ((next s row).phases p).pedestrian_timer ((next s row).phases p).pedestrian
    ≡ walking_in a b (pedestrian_timer_in (s.phases p).pedestrian (pedestrian_now s.plan (phases_given s row) p (phase_read s p)) (phase_read s p).pedestrian_timer)
    (pedestrian_now s.plan (phases_given s row) p (phase_read s p))
walk_then s row p e no_end no_start a b =
    let part : ((next s row).phases p).pedestrian ≡ pedestrian_now s.plan (phases_given s row) p (phase_read s p) = rw (no_start, e, no_end) refl in
    let timer : ((next s row).phases p).pedestrian_timer
    ≡ pedestrian_timer_in (s.phases p).pedestrian (pedestrian_now s.plan (phases_given s row) p (phase_read s p)) (phase_read s p).pedestrian_timer =
    rw (no_start, e, no_end) refl in
    ap (λ (t : Timer). walking_in a b t ((next s row).phases p).pedestrian) timer
    ∙ ap (λ (x : PedestrianInterval). walking_in a b (pedestrian_timer_in (s.phases p).pedestrian (pedestrian_now s.plan (phases_given s row) p (phase_read s p)) (phase_read s p).pedestrian_timer) x) part
