-- While the local counter is in step it stays so, and a phase is forced off where the cycle and the offset say so. For
-- the laws of patterns whose local counter is in step.
use Rattle.std.proofs.Common.{◌≡◌, ℕ, ◌+◌, ◌-◌, ◌<◌, ◌≤◌, true, ◌&&◌, Option, sym, ap, arith, ◌∙◌, inl, inr}
use Rattle.std.proofs.lemmas.Bool.{and_parts, and_from, or_cases, or_left, or_right}
use Rattle.tsb_step.specs.tsb_plan.Plan.{Plan}
use Rattle.tsb_step.specs.tsb_coord.declared.correction.Correction.{Correction}
use Rattle.tsb_step.specs.tsb_coord.Coordinated.{is_at_force_off, asks_force_off, asks_recycle}
use Rattle.tsb_step.specs.tsb_plan.Running.{running}
use Rattle.tsb_step.specs.tsb_coord.Correction.{clocked, shift_in, counted_tick, steps_twice, forces, comes_to_force_off, is_in_step}
use Rattle.tsb_step.proofs.tsb_coord.CorrectionLemmas.{stays_in_step, forces_in_step, comes_in_step}
use Rattle.tsb_step.proofs.tsb_coord.LocalLemmas.{at_instant_asks}
use Rattle.tsb_step.specs.State.{State}
use Rattle.tsb_step.specs.Signs.{IsInStep}
use Rattle.tsb_step.specs.Tick.{recycle}

-- ## By the clock

-- the tick in which a counter from tick number 0 is where the one in step is in tick t
abbrev pub clocked_in : State → ℕ → ℕ
clocked_in s t = clocked s.plan s.pattern s.correction t

-- so many ticks later it is as many later
pub clocked_later : (s : State) (t k : ℕ) → clocked_in s (t + k) ≡ clocked_in s t + k
clocked_later s t k = turned t k (shift_in s.plan (running s.plan s.pattern) s.correction)
  where
    turned : (t k x : ℕ) → t + k + x ≡ t + x + k
    turned t k x = omega arith

-- ## In step

pub in_step_later : (s : State) (t : ℕ) → IsInStep s → s.now ≤ t → is_in_step s.plan s.pattern s.correction t ≡ true
in_step_later s t stepped later = stays_in_step s.plan s.pattern s.correction s.now t stepped later

pub forces_as : (s : State) (t p : ℕ) → IsInStep s → s.now < t → forces s.plan s.pattern s.correction t p ≡ asks_force_off s.plan (clocked_in s t) s.pattern p
forces_as s t p stepped later =
    forces_in_step s.plan s.pattern s.correction t p (in_step_later s (t - 1) stepped (omega (arith, later)))

pub comes_as : (s : State) (t p : ℕ) → IsInStep s → s.now < t → comes_to_force_off s.plan s.pattern s.correction t p ≡ is_at_force_off s.plan (clocked_in s t) s.pattern p
comes_as s t p stepped later =
    comes_in_step s.plan s.pattern s.correction t p (in_step_later s (t - 1) stepped (omega (arith, later)))

-- ## In step or not

-- where the local counter comes to the force-off instant of a phase, this is forced off
pub coming_forces : (plan : Plan) (selected : Option ℕ) (c : Correction) (t p : ℕ) → comes_to_force_off plan selected c t p ≡ true →
    forces plan selected c t p ≡ true
coming_forces plan selected c t p h =
    elim (or_cases (is_at_force_off plan (counted_tick plan selected c t) selected p) (steps_twice plan selected c t && is_at_force_off plan (counted_tick plan selected c t - 1) selected p) h) [
      | inl now ↦ or_left (asks_force_off plan (counted_tick plan selected c t) selected p) (steps_twice plan selected c t && asks_force_off plan (counted_tick plan selected c t - 1) selected p)
          (at_instant_asks plan (counted_tick plan selected c t) selected p now)
      | inr first ↦ (let both = and_parts (steps_twice plan selected c t) (is_at_force_off plan (counted_tick plan selected c t - 1) selected p) first in
          or_right (asks_force_off plan (counted_tick plan selected c t) selected p) (steps_twice plan selected c t && asks_force_off plan (counted_tick plan selected c t - 1) selected p)
          (and_from (steps_twice plan selected c t) (asks_force_off plan (counted_tick plan selected c t - 1) selected p) both.0
          (at_instant_asks plan (counted_tick plan selected c t - 1) selected p both.1)))
    ]

-- where it is in a tick, a phase that is forced off there is forced off in the tick
pub forced_by_counter : (plan : Plan) (selected : Option ℕ) (c : Correction) (t p : ℕ) → asks_force_off plan (counted_tick plan selected c t) selected p ≡ true →
    forces plan selected c t p ≡ true
forced_by_counter plan selected c t p h =
    or_left (asks_force_off plan (counted_tick plan selected c t) selected p) (steps_twice plan selected c t && asks_force_off plan (counted_tick plan selected c t - 1) selected p) h

-- of equal plans, patterns and corrections
pub same_forces : (plan other : Plan) (selected picked : Option ℕ) (c d : Correction) (t p : ℕ) → plan ≡ other → selected ≡ picked → c ≡ d →
    forces plan selected c t p ≡ forces other picked d t p
same_forces plan other selected picked c d t p e g h =
    ap (λ (x : Plan). forces x selected c t p) e
    ∙ (ap (λ (o : Option ℕ). forces other o c t p) g ∙ ap (λ (x : Correction). forces other picked x t p) h)

-- ## Walks within a green

now_before : (s : State) → s.now + 1 - 1 ≡ s.now
now_before s = omega arith

-- a phase may walk again in the next tick where the local counter is in step and the cycle lets it
pub record LetsWalk (s : State) (p : ℕ) : Type 0 where
  pub in_step : IsInStep s
  pub asks : asks_recycle s.plan (clocked_in s (s.now + 1)) s.pattern p ≡ true

pub lets_walk : (s : State) (p : ℕ) → recycle s p ≡ true → LetsWalk s p
lets_walk s p h = record { in_step = ap (λ (t : ℕ). is_in_step s.plan s.pattern s.correction t) (sym (now_before s)) ∙ both.0; asks = both.1 }
  where
    both : (is_in_step s.plan s.pattern s.correction (s.now + 1 - 1) ≡ true) × (asks_recycle s.plan (clocked_in s (s.now + 1)) s.pattern p ≡ true)
    both = and_parts (is_in_step s.plan s.pattern s.correction (s.now + 1 - 1)) (asks_recycle s.plan (clocked_in s (s.now + 1)) s.pattern p) h

pub walk_let : (s : State) (p : ℕ) → LetsWalk s p → recycle s p ≡ true
walk_let s p it =
    and_from (is_in_step s.plan s.pattern s.correction (s.now + 1 - 1)) (asks_recycle s.plan (clocked_in s (s.now + 1)) s.pattern p)
    (ap (λ (t : ℕ). is_in_step s.plan s.pattern s.correction t) (now_before s) ∙ it.in_step) it.asks
