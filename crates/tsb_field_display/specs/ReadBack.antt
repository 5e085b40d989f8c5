-- What events tell of heads: of each, the last event that says something of it decides.
use Rattle.std.specs.Prelude.{ℕ, ◌==◌, Bool, true, false, if◌then◌else◌, List, [], ◌∷◌, Option, Some, None}
use Rattle.tsb_types.specs.declared.event.Event.{Event}

-- what is said, or where nothing is, what was
abbrev pub said_or : Option Bool → Bool → Bool
said_or None was = was
said_or (Some b) was = b

-- whether something is lit after events, which say that it is, that it is not, or nothing of it
abbrev pub lit_after : (Event → Option Bool) → Bool → List Event → Bool
lit_after says lit [] = lit
lit_after says lit (e ∷ es) = lit_after says (said_or (says e) lit) es

-- an event with another parameter says nothing of the head of this number
abbrev pub says_at : (ℕ → Option Bool) → ℕ → Event → Option Bool
says_at by_code n e = if e.parameter == n then by_code e.code else None

-- what a code says of the green of a vehicle head
abbrev pub says_green : ℕ → Option Bool
says_green code = if code == 1 then Some true else (if code == 7 then Some false else None)

-- of its yellow
abbrev pub says_yellow : ℕ → Option Bool
says_yellow code = if code == 8 then Some true else (if code == 9 then Some false else None)

-- of the walk of a pedestrian head
abbrev pub says_walk : ℕ → Option Bool
says_walk code = if code == 21 then Some true else (if code == 22 then Some false else (if code == 23 then Some false else None))

-- of its clearance
abbrev pub says_clearance : ℕ → Option Bool
says_clearance code = if code == 21 then Some false else (if code == 22 then Some true else (if code == 23 then Some false else None))

-- of the green of an overlap: an arrow that begins to flash is no longer green
abbrev pub says_overlap_green : ℕ → Option Bool
says_overlap_green code =
    if code == 61 then Some true else
    (if code == 63 then Some false else
    (if code == 64 then Some false else
    (if code == 32 then Some false else None)))

-- of its yellow
abbrev pub says_overlap_yellow : ℕ → Option Bool
says_overlap_yellow code =
    if code == 61 then Some false else
    (if code == 63 then Some true else
    (if code == 64 then Some false else
    (if code == 32 then Some false else None)))

-- of its flashing yellow
abbrev pub says_overlap_arrow : ℕ → Option Bool
says_overlap_arrow code = if code == 32 then Some true else (if code == 33 then Some false else None)

-- and of flash: 6 that it is, 2 that it is not
abbrev pub says_flash : Event → Option Bool
says_flash e = if e.code == 173 then Some (e.parameter == 6) else None

-- which heads show which colour, and whether the vehicle heads are in flash
pub record Lit : Type 0 where
  pub green : ℕ → Bool
  pub yellow : ℕ → Bool
  pub walk : ℕ → Bool
  pub clearance : ℕ → Bool
  pub overlap_green : ℕ → Bool
  pub overlap_yellow : ℕ → Bool
  pub overlap_arrow : ℕ → Bool
  pub flash : Bool

-- what events tell: before them nothing is lit
abbrev pub read_back : List Event → Lit
read_back events = record {
  green = λ p. lit_after (says_at says_green p) false events;
  yellow = λ p. lit_after (says_at says_yellow p) false events;
  walk = λ p. lit_after (says_at says_walk p) false events;
  clearance = λ p. lit_after (says_at says_clearance p) false events;
  overlap_green = λ o. lit_after (says_at says_overlap_green o) false events;
  overlap_yellow = λ o. lit_after (says_at says_overlap_yellow o) false events;
  overlap_arrow = λ o. lit_after (says_at says_overlap_arrow o) false events;
  flash = lit_after says_flash false events;
}
