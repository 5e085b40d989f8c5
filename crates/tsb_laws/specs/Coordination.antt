-- What a pattern asks is kept: its coordinated phases end by their force-off alone, and what it omits is not served,
-- unless a preempt is in service. Each law here is the contract of a function in src/safety.rt, and proved there.
--
-- A plan here has 16 phases at most, as every plan in memory has: no order holds or omits a phase of a greater
-- number.
use Rattle.std.specs.Prelude.{◌≡◌, ℕ, ◌+◌, ◌-◌, ◌≤◌, Bool, true, false, ◌&&◌, ◌||◌, List, [], ◌∷◌, Some, None, ◌⊎◌}
use Rattle.tsb_step.specs.tsb_types.declared.row.Row.{Row}
use Rattle.tsb_step.specs.tsb_types.Intervals.{is_green}
use Rattle.tsb_step.specs.tsb_plan.Plan.{Plan}
use Rattle.tsb_step.specs.tsb_coord.Coordinated.{is_in_permissive_time}
use Rattle.tsb_step.specs.tsb_coord.Correction.{counted_tick, steps_twice}
use Rattle.tsb_step.specs.tsb_phase.Phase.{held_of}
use Rattle.tsb_step.specs.tsb_phase.Green.{floats_off}
use Rattle.tsb_step.specs.tsb_ring.Rings.{Ring}
use Rattle.tsb_step.specs.declared.inputs.Input.{Input}
use Rattle.tsb_step.specs.declared.inputs.Input.TheVariants.{Tick}
use Rattle.tsb_step.specs.State.{State, interval}
use Rattle.tsb_step.specs.Tick.{service, hold, forced, at_force_off, omitted, phases_given, phase_read}
use Rattle.tsb_step.specs.Runs.{replay, AreTaken}
use Rattle.tsb_step.specs.Laws.{IsConsistent}
use Rattle.tsb_laws.specs.Stretches.{EndsGreen, StartsGreen}

-- ## Coordinated phases

-- p is forced off in the tick: by the cycle, or by floating force-off where it is not coordinated
abbrev pub is_forced_off : State → Row → ℕ → Bool
is_forced_off s row p = forced s p || floats_off s.plan (phases_given s row) p (held_of (phase_read s p))

-- in the next tick the local counter is in the permissive time of p, or takes two steps and is there at the first
abbrev pub in_permissive_time : State → ℕ → Bool
in_permissive_time s p =
    is_in_permissive_time s.plan (counted_tick s.plan s.pattern s.correction (s.now + 1)) s.pattern p ||
    (steps_twice s.plan s.pattern s.correction (s.now + 1) &&
    is_in_permissive_time s.plan (counted_tick s.plan s.pattern s.correction (s.now + 1) - 1) s.pattern p)

-- p was forced off in some tick of the green that it is in now
abbrev pub was_forced_off : Plan → ℕ → List Input → Bool
was_forced_off plan p [] = false
was_forced_off plan p (Tick row ∷ is) = is_green (interval (replay plan is) p) && (is_forced_off (replay plan is) row p || was_forced_off plan p is)
was_forced_off plan p (i ∷ is) = was_forced_off plan p is

-- While a pattern runs and no preempt is in service, a tick ends the green of a coordinated phase only by its
-- force-off: the force-off instant is this tick, or this tick is in the permissive time behind it, or the phase was
-- forced off in an earlier one of this green. Where the pattern has no permissive time, no tick is in one.
abbrev pub CoordinatedEndByForceOff : Type 0
CoordinatedEndByForceOff = (plan : Plan) (is : List Input) (row : Row) (p : ℕ) → IsConsistent plan → plan.phase_count ≤ 16 →
    AreTaken plan is → (replay plan is).trip ≡ None → EndsGreen plan is row p → hold (replay plan is) p ≡ true →
    service (replay plan is) row ≡ None →
    ((at_force_off (replay plan is) p ≡ true) ⊎ (in_permissive_time (replay plan is) p ≡ true)) ⊎ (was_forced_off plan p is ≡ true)

-- ## Omitted phases

-- in a tick in which no preempt is in service, a phase that is omitted starts only where a ring was committed to it
-- before, and a ring is committed to it after the tick only where it was before
pub record OmitsHold (plan : Plan) (is : List Input) (row : Row) (q : ℕ) : Type 0 where
  pub starts : StartsGreen plan is row q → (r : Ring) × ((replay plan is).rings.commitment r ≡ Some q)
  pub commits : (r : Ring) → (replay plan (Tick row ∷ is)).rings.commitment r ≡ Some q → (replay plan is).rings.commitment r ≡ Some q

-- So it is in every run: an omitted phase enters only by a preempt or by an older commitment.
abbrev pub OmittedAreNotServed : Type 0
OmittedAreNotServed = (plan : Plan) (is : List Input) (row : Row) (q : ℕ) → IsConsistent plan → plan.phase_count ≤ 16 →
    AreTaken plan is → (replay plan is).trip ≡ None → omitted (replay plan is) q ≡ true →
    service (replay plan is) row ≡ None → OmitsHold plan is row q
