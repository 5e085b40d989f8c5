-- Lists of things that have a tick, the oldest first, and back to a tick.
use Rattle.std.specs.Prelude.{ℕ, nat_lt, List, [], ◌∷◌, if◌then◌else◌}
use Rattle.tsb_types.specs.declared.event.Event.{Event}
use Rattle.tsb_log_text.specs.declared.log.LogRow.{LogRow}

-- the tick of a row
abbrev pub row_tick : LogRow → ℕ
row_tick r = r.tick

-- the tick of an event
abbrev pub event_tick : Event → ℕ
event_tick e = e.tick

-- it stays before others, and alone where its tick is not later than t
abbrev pub unless_later : {X : Type 0} → (X → ℕ) → ℕ → X → List X → List X
unless_later tick t x [] = if nat_lt t (tick x) then [] else x ∷ []
unless_later tick t x (y ∷ ys) = x ∷ y ∷ ys

-- without those at the end whose tick is later than t
abbrev pub without_later : {X : Type 0} → (X → ℕ) → ℕ → List X → List X
without_later tick t [] = []
without_later tick t (x ∷ xs) = unless_later tick t x (without_later tick t xs)
