-- The maximum in use stays between maximum and limit, and a green that ends moves it by a step at most. Proves
-- `maximums_move_by_steps`.
use Rattle.std.proofs.Common.{◌≡◌, ◌≢◌, ℕ, ◌+◌, ◌-◌, ◌≤◌, Bool, true, false, ◌&&◌, if◌then◌else◌, min, max, Option, Some, None, is_some, is_none, refl, sym, ap, subst, arith, ◌∙◌}
use Rattle.std.proofs.lemmas.Bool.{and_parts, true≢false, false_from_ne_true}
use Rattle.tsb_step.specs.tsb_types.declared.interval.Interval.TheVariants.{Green, Yellow}
use Rattle.tsb_step.specs.tsb_types.declared.row.Row.{Row}
use Rattle.tsb_step.specs.tsb_types.Intervals.{is_green}
use Rattle.tsb_step.specs.tsb_plan.Plan.{Plan, maximum, dynamic_maximum_limit, dynamic_maximum_step}
use Rattle.tsb_step.specs.tsb_phase.declared.ending.Ending.{Ending}
use Rattle.tsb_step.specs.tsb_phase.declared.ending.Ending.TheVariants.{MaxOut, GapOut}
use Rattle.tsb_step.specs.tsb_phase.Phase.{Phase}
use Rattle.tsb_step.specs.tsb_phase.DynamicMaximum.{is_dynamic, lowest_maximum, highest_maximum, effective_maximum, maximum_in_use, counts_endings, is_same, stepped, stepped_or_kept, running_maximum_after}
use Rattle.tsb_step.specs.tsb_phase.Next.{ending_now, new_running_maximum}
use Rattle.tsb_step.specs.tsb_ring.Moves.{is_ended, is_started}
use Rattle.tsb_step.specs.declared.inputs.Input.{Input}
use Rattle.tsb_step.specs.declared.inputs.Input.TheVariants as inputs
use Rattle.tsb_step.specs.declared.inputs.Input.TheVariants.{Tick}
use Rattle.tsb_step.specs.State.{State, Tripped, restarted, interval}
use Rattle.tsb_step.specs.Tick.{service, runs, phases_given, phase_read, moves, moved, next}
use Rattle.tsb_step.specs.Step.{reset, step}
use Rattle.tsb_step.specs.Good.{IsGood}
use Rattle.tsb_step.specs.TimeLaws.{is_tick}
use Rattle.tsb_step.proofs.ClearLemmas.{plan_stays, phases_then}
use Rattle.tsb_step.proofs.IntervalLemmas.{ended_was_green}
use Rattle.tsb_step.proofs.LeaveLemmas.{others_leave}
use Rattle.tsb_step.proofs.TellLemmas.{is_in_green, starts_no_green}
use Rattle.tsb_laws.specs.KeptCalls.{restarts}
use Rattle.tsb_laws.specs.RunningMaximum.{maximum_of, IsBounded, MovesByAStep}
use Rattle.tsb_laws.proofs.operation.step.TickLemmas.{phases_rest}
use Rattle.tsb_step.proofs.EventLemmas.{none-of}

-- ## Numbers

-- two numbers that differ by n at most
record IsNear (a b n : ℕ) : Type 0 where
  up : a ≤ b + n
  down : b ≤ a + n

near_itself : (a n : ℕ) → IsNear a a n
near_itself a n = record { up = omega arith; down = omega arith }

-- of two limits a and b, in whatever order, and f between them
up_is_near : (a b f d : ℕ) → min a b ≤ f → f ≤ max a b → IsNear (max (min a b) (min (max a b) (min (max a b) (f + d)))) f d
up_is_near a b f d low high = record { up = omega (arith, low, high); down = omega (arith, low, high) }

down_is_near : (a b f d : ℕ) → min a b ≤ f → f ≤ max a b →
    IsNear (max (min a b) (min (max a b) (max (min a b + d) f - d))) f d
down_is_near a b f d low high = record { up = omega (arith, low, high); down = omega (arith, low, high) }

-- ## Within its bounds

least_of : (a b : ℕ) → min a b ≤ a
least_of a b = omega arith

most_of : (a b : ℕ) → a ≤ max a b
most_of a b = omega arith

held_from : (a b r : ℕ) → min a b ≤ max (min a b) (min (max a b) r)
held_from a b r = omega arith

held_to : (a b r : ℕ) → max (min a b) (min (max a b) r) ≤ max a b
held_to a b r = omega arith

module _ (plan : Plan) (p : ℕ) where
  effective_from : (o : Option ℕ) → lowest_maximum plan p ≤ effective_maximum plan p o
  effective_from None = least_of (maximum plan p) (dynamic_maximum_limit plan p)
  effective_from (Some r) = held_from (maximum plan p) (dynamic_maximum_limit plan p) r

  effective_to : (o : Option ℕ) → effective_maximum plan p o ≤ highest_maximum plan p
  effective_to None = most_of (maximum plan p) (dynamic_maximum_limit plan p)
  effective_to (Some r) = held_to (maximum plan p) (dynamic_maximum_limit plan p) r

  in_use_from : (o : Option ℕ) → lowest_maximum plan p ≤ maximum_in_use plan p o
  unfolding maximum_in_use
  in_use_from o = go (is_dynamic plan p)
    where
      go : (b : Bool) → lowest_maximum plan p ≤ (if b then effective_maximum plan p o else maximum plan p)
      go true = effective_from o
      go false = least_of (maximum plan p) (dynamic_maximum_limit plan p)

  in_use_to : (o : Option ℕ) → maximum_in_use plan p o ≤ highest_maximum plan p
  unfolding maximum_in_use
  in_use_to o = go (is_dynamic plan p)
    where
      go : (b : Bool) → (if b then effective_maximum plan p o else maximum plan p) ≤ highest_maximum plan p
      go true = effective_to o
      go false = most_of (maximum plan p) (dynamic_maximum_limit plan p)

  -- ## A green that ends

  stepped_is_near : (e : Ending) (o : Option ℕ) →
      IsNear (effective_maximum plan p (Some (stepped plan p e (effective_maximum plan p o)))) (effective_maximum plan p o) (dynamic_maximum_step plan p)
  stepped_is_near MaxOut o =
      up_is_near (maximum plan p) (dynamic_maximum_limit plan p) (effective_maximum plan p o) (dynamic_maximum_step plan p) (effective_from o) (effective_to o)
  stepped_is_near GapOut o =
      down_is_near (maximum plan p) (dynamic_maximum_limit plan p) (effective_maximum plan p o) (dynamic_maximum_step plan p) (effective_from o) (effective_to o)

  kept_is_near : (e : Ending) (x : Phase) →
      IsNear (effective_maximum plan p (stepped_or_kept plan p e x)) (effective_maximum plan p x.running_maximum) (dynamic_maximum_step plan p)
  kept_is_near e x = go (is_same e x.last_ending)
    where
      go : (b : Bool) →
          IsNear (effective_maximum plan p (if b then Some (stepped plan p e (effective_maximum plan p x.running_maximum)) else x.running_maximum))
          (effective_maximum plan p x.running_maximum) (dynamic_maximum_step plan p)
      go true = stepped_is_near e x.running_maximum
      go false = near_itself (effective_maximum plan p x.running_maximum) (dynamic_maximum_step plan p)

  ended_is_near : (e : Ending) (x : Phase) →
      IsNear (maximum_in_use plan p (running_maximum_after plan p e x)) (maximum_in_use plan p x.running_maximum) (dynamic_maximum_step plan p)
  unfolding maximum_in_use
  ended_is_near e x = go (is_dynamic plan p)
    where
      go : (b : Bool) →
          IsNear (if b then effective_maximum plan p (if b then stepped_or_kept plan p e x else None) else maximum plan p)
          (if b then effective_maximum plan p x.running_maximum else maximum plan p) (dynamic_maximum_step plan p)
      go true = kept_is_near e x
      go false = near_itself (maximum plan p) (dynamic_maximum_step plan p)

pub bounded : (s : State) (p : ℕ) → IsBounded s p
bounded s p = record { least = in_use_from s.plan p (s.phases p).running_maximum; most = in_use_to s.plan p (s.phases p).running_maximum }

-- ## A tick

-- an ending that counts
abbrev counts : State → Row → ℕ → Bool
counts s row p = is_ended (moves s row) p && counts_endings (phases_given s row)

abbrev maximum_next : State → Row → ℕ → ℕ
maximum_next s row p = maximum_in_use s.plan p (new_running_maximum s.plan (phases_given s row) (moved s row) p (phase_read s p))

next_is_near : (s : State) (row : Row) (p : ℕ) → IsNear (maximum_next s row p) (maximum_of s p) (dynamic_maximum_step s.plan p)
next_is_near s row p = go (counts s row p)
  where
    go : (b : Bool) →
        IsNear
        (maximum_in_use s.plan p (if b then running_maximum_after s.plan p (ending_now s.plan (phases_given s row) p (phase_read s p)) (phase_read s p)
        else (s.phases p).running_maximum))
        (maximum_of s p) (dynamic_maximum_step s.plan p)
    go true = ended_is_near s.plan p (ending_now s.plan (phases_given s row) p (phase_read s p)) (phase_read s p)
    go false = near_itself (maximum_of s p) (dynamic_maximum_step s.plan p)

next_is_same : (s : State) (row : Row) (p : ℕ) → counts s row p ≡ false → maximum_next s row p ≡ maximum_of s p
next_is_same s row p h =
    ap (λ (b : Bool). maximum_in_use s.plan p (if b then running_maximum_after s.plan p (ending_now s.plan (phases_given s row) p (phase_read s p)) (phase_read s p)
    else (s.phases p).running_maximum)) h

maximum_then : (s : State) (row : Row) (p : ℕ) → s.trip ≡ None → maximum_of (step s (Tick row)) p ≡ maximum_next s row p
maximum_then s row p dark =
    ap (λ (x : Plan). maximum_in_use x p ((step s (Tick row)).phases p).running_maximum) (plan_stays s row)
    ∙ ap (λ (f : ℕ → Phase). maximum_in_use s.plan p (f p).running_maximum) (phases_then s row dark)

maximum_rests : (s : State) (row : Row) (p : ℕ) → is_some s.trip ≡ true → maximum_of (step s (Tick row)) p ≡ maximum_of s p
maximum_rests s row p lit =
    ap (λ (x : Plan). maximum_in_use x p ((step s (Tick row)).phases p).running_maximum) (plan_stays s row)
    ∙ ap (λ (f : ℕ → Phase). maximum_in_use s.plan p (f p).running_maximum) (phases_rest s row lit)

record IsMoved (s : State) (row : Row) (p : ℕ) : Type 0 where
  dark : s.trip ≡ None
  ended : is_ended (moves s row) p ≡ true
  freely : runs s ≡ None
  alone : service s row ≡ None

counted : (s : State) (row : Row) (p : ℕ) → s.trip ≡ None → counts s row p ≡ true → IsMoved s row p
unfolding phases_given
counted s row p dark h =
    let both = and_parts (is_ended (moves s row) p) (is_none (runs s) && is_none (service s row)) h in
    let rest = and_parts (is_none (runs s)) (is_none (service s row)) both.1 in
    record { dark = dark; ended = both.0; freely = none-of (runs s) rest.0; alone = none-of (service s row) rest.1 }

moved_then : (s : State) (row : Row) (p : ℕ) → maximum_of (step s (Tick row)) p ≢ maximum_of s p → IsMoved s row p
moved_then s row p h = go s.trip refl
  where
    by : s.trip ≡ None → (b : Bool) → counts s row p ≡ b → IsMoved s row p
    by dark true k = counted s row p dark k
    by dark false k = absurd (h (maximum_then s row p dark ∙ next_is_same s row p k))

    go : (o : Option Tripped) → s.trip ≡ o → IsMoved s row p
    go None e = by e (counts s row p) refl
    go (Some t) e = absurd (h (maximum_rests s row p (ap is_some e)))

goes_yellow : (s : State) (row : Row) (p : ℕ) → IsGood s → IsMoved s row p → interval (step s (Tick row)) p ≡ Yellow
goes_yellow s row p good it =
    let green : interval s p ≡ Green = is_in_green (interval s p) (ended_was_green s row p it.ended) in
    let stays : is_started (moves s row) p ≡ false = false_from_ne_true (is_started (moves s row) p)
    (λ k. true≢false (sym (ap is_green green) ∙ starts_no_green s row p good k)) in
    let ended = it.ended in
    let now : interval (next s row) p ≡ Yellow = rw (stays, green, ended) refl in
    ap (λ (f : ℕ → Phase). (f p).interval) (phases_then s row it.dark) ∙ now

tick_is_near : (s : State) (row : Row) (p : ℕ) → IsNear (maximum_of (step s (Tick row)) p) (maximum_of s p) (dynamic_maximum_step s.plan p)
tick_is_near s row p = go s.trip refl
  where
    go : (o : Option Tripped) → s.trip ≡ o → IsNear (maximum_of (step s (Tick row)) p) (maximum_of s p) (dynamic_maximum_step s.plan p)
    go None e =
        subst (λ (m : ℕ). IsNear m (maximum_of s p) (dynamic_maximum_step s.plan p)) (sym (maximum_then s row p e)) (next_is_near s row p)
    go (Some t) e =
        subst (λ (m : ℕ). IsNear m (maximum_of s p) (dynamic_maximum_step s.plan p)) (sym (maximum_rests s row p (ap is_some e)))
        (near_itself (maximum_of s p) (dynamic_maximum_step s.plan p))

pub moves_by_a_step : (s : State) → IsGood s → (row : Row) (p : ℕ) → MovesByAStep s row p
moves_by_a_step s good row p = record {
  up = (tick_is_near s row p).up;
  down = (tick_is_near s row p).down;
  was_green = λ h. is_in_green (interval s p) (ended_was_green s row p (moved_then s row p h).ended);
  ends = λ h. goes_yellow s row p good (moved_then s row p h);
  freely = λ h. (moved_then s row p h).freely;
  alone = λ h. (moved_then s row p h).alone;
}

-- ## Other inputs

reset_leaves : (s : State) (p : ℕ) → (is_some s.trip && true) ≡ false → ((reset s).phases p).running_maximum ≡ (s.phases p).running_maximum
reset_leaves s p h = go (is_some s.trip) h
  where
    go : (b : Bool) → (b && true) ≡ false → ((if b then restarted s else s).phases p).running_maximum ≡ (s.phases p).running_maximum
    go true k = absurd (true≢false k)
    go false k = refl

running_stays : (s : State) (i : Input) (p : ℕ) → is_tick i ≡ false → restarts s i ≡ false →
    ((step s i).phases p).running_maximum ≡ (s.phases p).running_maximum
unfolding step
running_stays s inputs.Reset p t on = reset_leaves s p on
running_stays s (inputs.Tick row) p t on = absurd (true≢false t)
running_stays s i p t on = ap (λ (x : Phase). x.running_maximum) (others_leave s i p t refl)

pub others_leave_it : (s : State) (i : Input) (p : ℕ) → is_tick i ≡ false → (step s i).plan ≡ s.plan → restarts s i ≡ false →
    maximum_of (step s i) p ≡ maximum_of s p
others_leave_it s i p t same on =
    ap (λ (x : Plan). maximum_in_use x p ((step s i).phases p).running_maximum) same
    ∙ ap (λ (m : Option ℕ). maximum_in_use s.plan p m) (running_stays s i p t on)
