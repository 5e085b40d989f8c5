-- What was said to the lines that were read. Lines are piled up, the newest first.
use Rattle.std.specs.Prelude.{◌≡◌, ◌⊎◌, ℕ, suc, List, [], ◌∷◌, ◌++◌, length}
use Rattle.tsb_lines.specs.Lines.{HasNoFeed, kept, without_return}
use Rattle.tsb_dialog.specs.declared.answers.Flow.{Flow}
use Rattle.tsb_dialog.specs.declared.answers.Flow.TheVariants.{On, Over}
use Rattle.tsb_dialog.specs.Says.{Saying}

-- these lines, each with its line feed
abbrev pub fed : List (List ℕ) → List ℕ
fed [] = []
fed (line ∷ lines) = fed lines ++ (line ++ 10 ∷ [])

-- none of them has a line feed
abbrev pub HaveNoFeed : List (List ℕ) → Type 0
HaveNoFeed [] = Unit {0}
HaveNoFeed (line ∷ lines) = HasNoFeed line × HaveNoFeed lines

-- a line as it is answered, of which at most so many bytes are kept
abbrev pub asked : ℕ → List ℕ → List ℕ
asked most line = without_return (kept most line)

-- this was said to these lines, each of which the dialog goes on after
abbrev pub Runs : {S : Type 0} → ℕ → Saying S → S → List (List ℕ) → List ℕ → S → Type 0
Runs {S = S} most says from [] text now = (text ≡ []) × (now ≡ from)
Runs {S = S} most says from (line ∷ lines) text now = (before answer : List ℕ) × (then : S) × Runs most says from lines before then
    × says then (suc (length lines)) (asked most line) answer On now × (text ≡ before ++ answer)

-- these bytes are whole lines, to which this was said, and of the line after them these bytes are held; that line has
-- this number
pub record Heard {S : Type 0} (most : ℕ) (says : Saying S) (from : S) (bytes text : List ℕ) (number : ℕ) (now : S) (held : List ℕ) : Type 0 where
  pub lines : List (List ℕ)
  pub rest : List ℕ
  pub whole : bytes ≡ fed lines ++ rest
  pub ended : HaveNoFeed lines
  pub unfinished : HasNoFeed rest
  pub kept : held ≡ kept most rest
  pub count : number ≡ suc (length lines)
  pub runs : Runs most says from lines text now

-- this was said to these bytes, in which a line ended the dialog
pub record IsOver {S : Type 0} (most : ℕ) (says : Saying S) (from : S) (bytes text : List ℕ) (end : S) : Type 0 where
  pub front : List ℕ
  pub more : List ℕ
  pub whole : bytes ≡ front ++ 10 ∷ more
  pub before : List ℕ
  pub number : ℕ
  pub now : S
  pub held : List ℕ
  pub heard : Heard most says from front before number now held
  pub answer : List ℕ
  pub told : says now number (without_return held) answer Over end
  pub all : text ≡ before ++ answer

-- this was said to these bytes, of which the last line has no line feed and was answered as it is
pub record IsAnswered {S : Type 0} (most : ℕ) (says : Saying S) (from : S) (bytes text : List ℕ) (end : S) : Type 0 where
  pub before : List ℕ
  pub number : ℕ
  pub now : S
  pub held : List ℕ
  pub heard : Heard most says from bytes before number now held
  pub answer : List ℕ
  pub flow : Flow
  pub told : says now number held answer flow end
  pub all : text ≡ before ++ answer

-- this may be said to the lines of some first of these bytes
pub record IsSaid {S : Type 0} (most : ℕ) (says : Saying S) (from : S) (bytes text : List ℕ) : Type 0 where
  pub front : List ℕ
  pub more : List ℕ
  pub whole : bytes ≡ front ++ more
  pub so : ((number : ℕ) × (now : S) × (held : List ℕ) × Heard most says from front text number now held) ⊎ ((end : S) × IsOver most says from front text end)
