-- What a text of events comes to, line after line, and how far it has been read.
use Rattle.std.specs.Prelude.{◌≡◌, ℕ, List, [], ◌∷◌, ◌++◌, Result, Ok, Err}
use Rattle.tsb_lines.specs.Lines.{HasNoFeed, lines_of}
use Rattle.tsb_field_streams.specs.declared.error.FilterError.{FilterError}
use Rattle.tsb_field_streams.specs.Filtering.{Given, Stand, one_more, start, with_line, with_rest}

-- what more lines come to, of which the first has this number; after a fault no line is heeded
abbrev pub lines_behind : Given → ℕ → Result Stand FilterError → List (List ℕ) → Result Stand FilterError
lines_behind g number (Err e) lines = Err e
lines_behind g number (Ok s) [] = Ok s
lines_behind g number (Ok s) (line ∷ lines) = lines_behind g (one_more number) (with_line g number s line) lines

-- what a text comes to
abbrev pub filtered : Given → List ℕ → Result Stand FilterError
filtered g text = lines_behind g 1 (Ok (start g)) (lines_of text)

-- what all rows come to, where no line follows
abbrev pub ended : Given → Result Stand FilterError → Result Stand FilterError
ended g (Err e) = Err e
ended g (Ok s) = with_rest g s

-- what a text comes to that is all
abbrev pub all_of : Given → List ℕ → Result Stand FilterError
all_of g text = ended g (filtered g text)

-- of these bytes the whole lines have come to this, and those after the last line feed begin the line with this number
pub record HasRead (g : Given) (bytes : List ℕ) (number : ℕ) (s : Stand) (held : List ℕ) : Type 0 where
  pub front : List ℕ
  pub whole : bytes ≡ front ++ held
  pub unfinished : HasNoFeed held
  pub comes : (more : List ℕ) → filtered g (front ++ more) ≡ lines_behind g number (Ok s) (lines_of more)
