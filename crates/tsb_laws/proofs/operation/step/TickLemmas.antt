-- What inputs make of memories and phases, field by field. For more than one law of operation.
use Rattle.std.proofs.Common.{◌≡◌, ◌≢◌, ℕ, ◌+◌, Bool, true, false, ◌&&◌, if◌then◌else◌, Option, None, is_some, refl, sym, ap, ◌∙◌}
use Rattle.std.proofs.lemmas.Bool.{true≢false, false≢true}
use Rattle.tsb_step.specs.tsb_types.declared.interval.Interval.{Interval}
use Rattle.tsb_step.specs.tsb_types.declared.interval.Interval.TheVariants.{Red, Green, Yellow, RedClear}
use Rattle.tsb_step.specs.tsb_types.declared.lamp.Lamp.{Lamp}
use Rattle.tsb_step.specs.tsb_types.declared.row.Row.{Row}
use Rattle.tsb_step.specs.tsb_types.Intervals.{is_green, in_service}
use Rattle.tsb_step.specs.tsb_ring.Laws.{IsListed}
use Rattle.tsb_step.specs.tsb_ring.Moves.{is_started}
use Rattle.tsb_step.specs.declared.inputs.Input.{Input}
use Rattle.tsb_step.specs.declared.inputs.Input.TheVariants as inputs
use Rattle.tsb_step.specs.declared.inputs.Input.TheVariants.{Tick}
use Rattle.tsb_step.specs.State.{State, restarted, interval}
use Rattle.tsb_step.specs.Tick.{moves, next}
use Rattle.tsb_step.specs.Signs.{watched}
use Rattle.tsb_step.specs.Step.{with_lamp, reset, step}
use Rattle.tsb_step.specs.Good.{IsGood}
use Rattle.tsb_step.specs.TimeLaws.{is_tick}
use Rattle.tsb_step.proofs.ClearLemmas.{plan_stays}
use Rattle.tsb_step.proofs.TellLemmas.{starts_no_green}
use Rattle.tsb_laws.specs.KeptCalls.{restarts, TurnsGreen}
use Rattle.tsb_laws.proofs.safety.IntergreenLemmas.{good_then}
use Rattle.tsb_laws.proofs.safety.StretchLemmas.{at_next}

pub not_green : (i : Interval) → i ≢ Green → is_green i ≡ false
not_green Red h = refl
not_green Green h = absurd (h refl)
not_green Yellow h = refl
not_green RedClear h = refl

pub dark_is : (i : Interval) → in_service i ≡ false → is_green i ≡ false
dark_is Red h = refl
dark_is Green h = absurd (true≢false h)
dark_is Yellow h = refl
dark_is RedClear h = refl

-- ## Memories

-- after a tick of a controller that has not tripped
pub memories_then : (s : State) (row : Row) → s.trip ≡ None → (step s (Tick row)).memories ≡ (next s row).memories
unfolding step watched
memories_then s row dark = go (is_some s.trip) (ap is_some dark)
  where
    go : (b : Bool) → b ≡ false →
        (if b then record s { now = s.now + 1 } else (if b then next s row else watched s (next s row))).memories ≡ (next s row).memories
    go true h = absurd (true≢false h)
    go false h = refl

-- and of one that has
pub memories_rest : (s : State) (row : Row) → is_some s.trip ≡ true → (step s (Tick row)).memories ≡ s.memories
unfolding step watched
memories_rest s row lit = go (is_some s.trip) lit
  where
    go : (b : Bool) → b ≡ true →
        (if b then record s { now = s.now + 1 } else (if b then next s row else watched s (next s row))).memories ≡ s.memories
    go true h = refl
    go false h = absurd (false≢true h)

-- and its phases
pub phases_rest : (s : State) (row : Row) → is_some s.trip ≡ true → (step s (Tick row)).phases ≡ s.phases
unfolding step watched
phases_rest s row lit = go (is_some s.trip) lit
  where
    go : (b : Bool) → b ≡ true →
        (if b then record s { now = s.now + 1 } else (if b then next s row else watched s (next s row))).phases ≡ s.phases
    go true h = refl
    go false h = absurd (false≢true h)

memories_lit : (s : State) (lamp : Option Lamp) → (with_lamp lamp s).memories ≡ s.memories
unfolding watched
memories_lit s lamp = go (is_some s.trip)
  where
    go : (b : Bool) → (if b then record s { lamp = lamp } else watched s (record s { lamp = lamp })).memories ≡ s.memories
    go true = refl
    go false = refl

memories_reset : (s : State) → (is_some s.trip && true) ≡ false → (reset s).memories ≡ s.memories
memories_reset s h = go (is_some s.trip) h
  where
    go : (b : Bool) → (b && true) ≡ false → (if b then restarted s else s).memories ≡ s.memories
    go true k = absurd (true≢false k)
    go false k = refl

-- no other input changes them but the reset of a trip
pub memories_stay : (s : State) (i : Input) → is_tick i ≡ false → restarts s i ≡ false → (step s i).memories ≡ s.memories
unfolding step
memories_stay s (inputs.Tick row) t on = absurd (true≢false t)
memories_stay s (inputs.Fault lamp) t on = memories_lit s lamp
memories_stay s inputs.Reset t on = memories_reset s on
memories_stay s i t on = refl

-- ## Starts

-- what a ring starts turns Green
pub turns_green : (s : State) (row : Row) (p : ℕ) → IsGood s → s.trip ≡ None → is_started (moves s row) p ≡ true → TurnsGreen s row p
turns_green s row p good dark h =
    let green : interval (next s row) p ≡ Green = rw h refl in
    record { was_not = not_so; turns = at_next s row p dark ∙ green }
  where
    not_so : interval s p ≢ Green
    not_so k = true≢false (sym (ap is_green k) ∙ starts_no_green s row p good h)

-- and is one of the plan's phases
pub started_is_listed : (s : State) (row : Row) (p : ℕ) → IsGood s → s.trip ≡ None → is_started (moves s row) p ≡ true → IsListed s.plan p
started_is_listed s row p good dark h =
    rw (plan_stays s row) at ((good_then s row good).rings.listed p (ap in_service (turns_green s row p good dark h).turns))
