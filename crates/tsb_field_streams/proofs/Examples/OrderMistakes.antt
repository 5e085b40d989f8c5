-- One-line mistakes, each with an example that tells it from the definition.
use Rattle.std.specs.Prelude.{◌≡◌, ℕ, ◌==◌, nat_lt, nat_le, true, List, [], ◌∷◌, ◌++◌, map, if◌then◌else◌, refl}
use Rattle.tsb_event_text.specs.declared.rows.EventRow.{EventRow}
use Rattle.tsb_field_streams.specs.Order.{sorted, time_of}
use Rattle.tsb_field_streams.specs.OrderLaws.{rows_at}

-- the row of this moment and code
abbrev pub row : ℕ → ℕ → EventRow
row moment code = record { ours = true; moment = record { nanos = moment }; code = code; parameter = 1 }

-- three rows: the third belongs between the first two, of which it has the moment of the first
abbrev pub late : List EventRow
late = row 5 82 ∷ (row 7 82 ∷ (row 5 81 ∷ []))

abbrev pub codes_of : List EventRow → List ℕ
codes_of rows = map (λ (it : EventRow). it.code) rows

abbrev pub times_of : List EventRow → List ℕ
times_of rows = map time_of rows

is_in_order : times_of (sorted late) ≡ 5 ∷ 5 ∷ 7 ∷ []
is_in_order = refl

stay : codes_of (rows_at 5 (sorted late)) ≡ codes_of (rows_at 5 late)
stay = refl

in_order_stays : sorted (row 5 82 ∷ (row 5 81 ∷ (row 7 82 ∷ []))) ≡ row 5 82 ∷ (row 5 81 ∷ (row 7 82 ∷ []))
in_order_stays = refl

-- rows placed in another way, one after another
abbrev pub placed_by : (EventRow → List EventRow → List EventRow) → List EventRow → List EventRow → List EventRow
placed_by put held [] = held
placed_by put held (next ∷ rows) = placed_by put (put next held) rows

-- ## A row goes behind all that are held

abbrev pub placed_last : EventRow → List EventRow → List EventRow
placed_last next held = held ++ next ∷ []

would_be_late : times_of (placed_by placed_last [] late) ≡ 5 ∷ 7 ∷ 5 ∷ []
would_be_late = refl

-- ## A row goes before those of its moment

abbrev pub placed_first : EventRow → List EventRow → List EventRow
placed_first next [] = next ∷ []
placed_first next (held ∷ rest) = if nat_le (time_of next) (time_of held) then next ∷ (held ∷ rest) else held ∷ placed_first next rest

would_be_turned : codes_of (rows_at 5 (placed_by placed_first [] late)) ≡ 81 ∷ 82 ∷ []
would_be_turned = refl

-- ## A row of a moment that is there is lost

abbrev pub placed_once : EventRow → List EventRow → List EventRow
placed_once next [] = next ∷ []
placed_once next (held ∷ rest) =
    if time_of next == time_of held then held ∷ rest
    else if nat_lt (time_of next) (time_of held) then next ∷ (held ∷ rest) else held ∷ placed_once next rest

would_be_lost : codes_of (rows_at 5 (placed_by placed_once [] late)) ≡ 82 ∷ []
would_be_lost = refl
