-- Where a text stops being JSON, and what is told of that place.
use Rattle.std.specs.Prelude.{◌≡◌, ℕ, ◌+◌, ◌-◌, ◌==◌, Bool, true, false, if◌then◌else◌, List, [], ◌∷◌, ◌++◌, length, take, slice_get, Option, Some, None, option_map, codes}
use Rattle.std.specs.List.{fold}
use Rattle.std.specs.Fmt.{decimal}
use Rattle.tsb_plan_notes.specs.declared.machine.Machine.{Machine}
use Rattle.tsb_plan_notes.specs.declared.machine.JsonStop.{JsonStop}
use Rattle.tsb_plan_notes.specs.declared.machine.TheConstants.{DEPTH}
use Rattle.tsb_plan_notes.specs.declared.next.Bracket.{Bracket}
use Rattle.tsb_plan_notes.specs.declared.next.Bracket.TheVariants.{Object, Array}
use Rattle.tsb_plan_notes.specs.declared.next.Move.{Move}
use Rattle.tsb_plan_notes.specs.declared.next.Move.TheVariants.{To, Open, Close, Ended, Wrong}
use Rattle.tsb_plan_notes.specs.declared.next.JsonNext.{JsonNext}
use Rattle.tsb_plan_notes.specs.declared.next.JsonNext.TheVariants.{Value, FirstItem, FirstName, Name, Colon, ItemEnd, MemberEnd, End, Text, Escape, Hex, Tail, Word, Zero, Whole, Fraction, Exponent, Power}
use Rattle.tsb_plan_notes.specs.declared.place.JsonPlace.{JsonPlace}
use Rattle.tsb_plan_notes.specs.Steps.{after, step}

-- ## A text between two bytes: what may come, and which brackets are open

-- the bracket that was opened last and is not closed
abbrev pub top : List Bracket → Option Bracket
top brackets = slice_get brackets (length brackets - 1)

-- before the first byte
abbrev pub start : Machine
start = record { next = Value; brackets = record { items = [] } }

-- a value has ended
abbrev pub ended : Machine → Machine
ended m = record { next = after (top m.brackets.items); brackets = m.brackets }

-- without the bracket that was opened last
abbrev pub closed : Machine → Machine
closed m = record { next = m.next; brackets = record { items = take (length m.brackets.items - 1) m.brackets.items } }

-- what may come behind an opening bracket
abbrev pub first_in : Bracket → JsonNext
first_in Object = FirstName
first_in Array = FirstItem

-- a bracket is opened, where not too many are
abbrev pub opened : Machine → Bracket → Option Machine
opened m bracket =
    if length m.brackets.items == DEPTH then None
    else Some (record { next = first_in bracket; brackets = record { items = m.brackets.items ++ bracket ∷ [] } })

-- what a byte leaves that does this: nothing where it can't stand there
abbrev pub moved : Machine → Move → Option Machine
moved m (To next) = Some (record { next = next; brackets = m.brackets })
moved m (Open bracket) = opened m bracket
moved m Close = Some (ended (closed m))
moved m Ended = Some (ended m)
moved m Wrong = None

-- what a byte leaves
abbrev pub behind : Machine → ℕ → Option Machine
behind m byte = moved m (step m.next (top m.brackets.items) byte)

-- a byte was taken, or was found not to stand there, which changes nothing
abbrev pub Takes : Bool → Option Machine → Machine → Machine → Type 0
Takes true (Some more) old new = new ≡ more
Takes true None old new = ⊥
Takes false (Some more) old new = ⊥
Takes false None old new = new ≡ old

-- ## Where a text stops

-- what has to come, where nothing of this has to: behind a number that may be whole, what follows a value
abbrev pub wanted : JsonNext → Option Bracket → JsonNext
wanted Zero top = after top
wanted Whole top = after top
wanted Fraction top = after top
wanted Power top = after top
wanted next top = next

-- a text stops behind so many bytes
abbrev pub stop_here : Machine → ℕ → JsonStop
stop_here m at = record { at = at; next = wanted m.next (top m.brackets.items) }

-- nothing has to come
abbrev pub is_end : JsonNext → Bool
is_end End = true
is_end next = false

-- a text stops at its end, where something has to come
abbrev pub unless_end : JsonStop → Option JsonStop
unless_end stop = if is_end stop.next then None else Some stop

-- a text stops here, or goes on
abbrev pub or_stop : Option Machine → JsonStop → (Machine → Option JsonStop) → Option JsonStop
or_stop None stop go = Some stop
or_stop (Some m) stop go = go m

-- where a text stops whose first bytes, so many, have left this: before the first byte that can't stand where it stands, or
-- at its end
abbrev pub stop : Machine → ℕ → List ℕ → Option JsonStop
stop m at [] = unless_end (stop_here m at)
stop m at (byte ∷ bytes) = or_stop (behind m byte) (stop_here m at) (λ n. stop n (at + 1) bytes)

-- ## Lines and columns

-- the line behind these bytes, counted from 1: a line feed begins the next
abbrev pub line_behind : List ℕ → ℕ
line_behind bytes = fold (λ line byte. if byte == 10 then line + 1 else line) 1 bytes

-- the column behind these bytes, in bytes from 1 on: a line feed leads to the first of the next line
abbrev pub column_behind : List ℕ → ℕ
column_behind bytes = fold (λ column byte. if byte == 10 then 1 else column + 1) 1 bytes

-- the place behind so many bytes of a text
abbrev pub place_in : List ℕ → JsonStop → JsonPlace
place_in text s = record {
  line = line_behind (take s.at text);
  column = column_behind (take s.at text);
  ends = s.at == length text;
  next = s.next;
}

-- where a text stops being JSON, if it does
abbrev pub json_place : List ℕ → Option JsonPlace
json_place text = option_map (place_in text) (stop start 0 text)

-- ## What is told

-- what has to come
abbrev pub wanted_text : JsonNext → List ℕ
wanted_text Value = codes "a value"
wanted_text FirstItem = codes "a value or `]`"
wanted_text FirstName = codes "a name in double quotes or `}`"
wanted_text Name = codes "a name in double quotes"
wanted_text Colon = codes "`:`"
wanted_text ItemEnd = codes "`,` or `]`"
wanted_text MemberEnd = codes "`,` or `}`"
wanted_text End = codes "nothing more"
wanted_text (Text role) = codes "a character or a double quote"
wanted_text (Escape role) = codes "an escape of JSON"
wanted_text (Hex role left) = codes "a hexadecimal digit"
wanted_text (Tail role low high left) = codes "UTF-8"
wanted_text (Word rest) = codes "`true`, `false` or `null`"
wanted_text Exponent = codes "a digit or a sign"
wanted_text next = codes "a digit"

-- a text that ends too early is told as such
abbrev pub end_text : Bool → List ℕ
end_text true = codes ", where the text ends: expected "
end_text false = codes ": expected "

-- a place, and what has to come there
abbrev pub place_text : JsonPlace → List ℕ
place_text place =
    codes "line " ++ (decimal place.line ++ (codes ", column " ++ (decimal place.column ++ (end_text place.ends ++ wanted_text place.next))))
