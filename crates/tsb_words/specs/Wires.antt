-- Wires as words spell them, `CHANNEL=INPUT`.
use Rattle.std.specs.Prelude.{◌≡◌, ℕ, ◌==◌, List, [], ◌∷◌, ◌++◌, if◌then◌else◌, Option, Some, None, option_map, option_and_then, Result, Ok, Err}
use Rattle.std.specs.declared.vec.Vec.{Vec}
use Rattle.tsb_lines.specs.Words.{number_of}
use Rattle.tsb_field_log.specs.Wires.{is_input}
use Rattle.tsb_field_log.specs.declared.inputs.InputKind.{InputKind}
use Rattle.tsb_field_log.specs.declared.inputs.Wire.{Wire}
use Rattle.tsb_words.specs.declared.error.WordsError.{WordsError}
use Rattle.tsb_words.specs.Words.{IsRefused, SpelledBy}

-- b before the first of two parts
abbrev pub onto_front : ℕ → List ℕ × List ℕ → List ℕ × List ℕ
onto_front b parts = (b ∷ parts.0, parts.1)

-- what stands before the first `=` of a word, and what after it
abbrev pub parts_of : List ℕ → Option (List ℕ × List ℕ)
parts_of [] = None
parts_of (b ∷ bs) = if b == 61 then Some ([], bs) else option_map (onto_front b) (parts_of bs)

-- the number, where a bench has this input
abbrev pub input_at : InputKind → Option ℕ → Option ℕ
input_at kind None = None
input_at kind (Some number) = if is_input kind number then Some number else None

-- the input that digits spell
abbrev pub input_of : InputKind → List ℕ → Option ℕ
input_of kind digits = input_at kind (number_of digits)

-- the wire from this channel to this input
abbrev pub wire_at : InputKind → Option ℕ → Option ℕ → Option Wire
wire_at kind (Some channel) (Some input) = Some (record { kind = kind; channel = channel; input = input })
wire_at kind channel input = None

-- the wire of a channel and an input
abbrev pub wire_with : InputKind → List ℕ × List ℕ → Option Wire
wire_with kind parts = wire_at kind (number_of parts.0) (input_of kind parts.1)

-- the wire that a word spells
abbrev pub wire_of : InputKind → List ℕ → Option Wire
wire_of kind word = option_and_then (wire_with kind) (parts_of word)

-- a wire and then these, where all are there
abbrev pub with_wire : Option Wire → Option (List Wire) → Option (List Wire)
with_wire (Some wire) (Some wires) = Some (wire ∷ wires)
with_wire wire wires = None

-- the wires that words spell, where each spells one
abbrev pub wires_of : InputKind → List (List ℕ) → Option (List Wire)
wires_of kind [] = Some []
wires_of kind (word ∷ words) = with_wire (wire_of kind word) (wires_of kind words)

-- these wires and then those, where all are there
abbrev pub joined : Option (List Wire) → Option (List Wire) → Option (List Wire)
joined (Some first) (Some second) = Some (first ++ second)
joined first second = None

-- wires are added after those before
abbrev pub Adds : {T : Type 0} → Option (List Wire) → List Wire → List Wire → Result T WordsError → Type 0
Adds wires before after (Ok done) = joined (Some before) wires ≡ Some after
Adds wires before after (Err error) = IsRefused wires error

-- the answer is these wires
abbrev pub AreSpelled : {A : Type 0} → Option (List Wire) → Result (Vec Wire A) WordsError → Type 0
AreSpelled {A} = SpelledBy (λ (all : Vec Wire A). all.items)
