-- How a session ends: what it has written for the bytes that it has read.
use Rattle.std.specs.Prelude.{◌≡◌, ◌⊎◌, ◌↔◌, ◌<◌, ◌≤◌, ℕ, Bool, List, [], ◌∷◌, ◌++◌, length, take, Option, Result, Ok, Err}
use Rattle.std.specs.Io.KnownBytes.{Appends, Consumes, IsAtEnd}
use Rattle.tsb_bench.specs.tsb_step.declared.inputs.Input.{Input}
use Rattle.tsb_command_text.specs.declared.command.Command.TheVariants.{Quit}
use Rattle.tsb_command_text.specs.declared.command.Reading.TheVariants.{Do}
use Rattle.tsb_command_text.specs.Readings.{reading}
use Rattle.tsb_lines.specs.Lines.{HasNoFeed, without_return}
use Rattle.tsb_text.specs.declared.error.SessionError.{SessionError}
use Rattle.tsb_text.specs.declared.error.SessionError.TheVariants.{Memory, Read, TooLarge}
use Rattle.tsb_text.specs.Answers.{Setup}
use Rattle.tsb_text.specs.Replies.{laid}
use Rattle.tsb_text.specs.Text.{IsText}

-- what may be said for these bytes and any more is this, and then what may be said, as things are then, for those held and
-- the more
pub record Carries (given : Setup) (inputs : List Input) (bytes : List ℕ) (now : Setup) (left : List Input) (held said : List ℕ) : Type 0 where
  pub on : (more text : List ℕ) → IsText now left (held ++ more) text → IsText given inputs (bytes ++ more) (said ++ text)

-- this is the text, whatever comes after these bytes
pub record IsWhole (given : Setup) (inputs : List Input) (bytes said : List ℕ) : Type 0 where
  pub all : (more : List ℕ) → IsText given inputs (bytes ++ more) said

-- this begins a text, whatever comes after these bytes
pub record IsBegun (given : Setup) (inputs : List Input) (bytes said : List ℕ) : Type 0 where
  pub rest : (more : List ℕ) → (rest : List ℕ) × IsText given inputs (bytes ++ more) (said ++ rest)

-- nothing stands after the last line feed
abbrev pub EndsLine : List ℕ → Type 0
EndsLine bytes = (bytes ≡ []) ⊎ ((front : List ℕ) × (bytes ≡ front ++ 10 ∷ []))

-- a line of these bytes is `quit`
pub record Quits (bytes : List ℕ) : Type 0 where
  pub front : List ℕ
  pub line : List ℕ
  pub more : List ℕ
  pub whole : bytes ≡ front ++ (line ++ 10 ∷ more)
  pub ended : EndsLine front
  pub one : HasNoFeed line
  pub reads : reading (without_return line) ≡ Do Quit

-- how a session ended, after these bytes were read: it wrote a text of theirs, at the end of the input or where a line
-- was `quit`, and then whatever comes after; or after a fault a prefix of one, whatever comes after them or at the
-- end of the input. With no memory to begin with it has read nothing and written nothing.
abbrev pub EndedSo : Result (Unit {0}) SessionError → Setup → Option (List ℕ) → List ℕ → List ℕ → Type 0
EndedSo (Ok u) given left read written = (IsAtEnd left × IsText given [] read written) ⊎ (Quits read × IsWhole given [] read written)
EndedSo (Err Memory) given left read written = (read ≡ []) × (written ≡ [])
EndedSo (Err e) given left read written =
    (IsAtEnd left × (rest : List ℕ) × IsText given [] read (written ++ rest)) ⊎ IsBegun given [] read written

-- all whole lines of these bytes were answered: whatever comes after, a text is what was written, and then what may be
-- said for an unfinished line and the bytes after, with wide display lines or narrow ones
pub record AnswersWhole (given : Setup) (bytes written : List ℕ) : Type 0 where
  pub is_wide : Bool
  pub left : List Input
  pub held : List ℕ
  pub unfinished : HasNoFeed held
  pub carries : Carries given [] bytes (laid is_wide given) left held written

-- the commands went on up to the last read, which brought 4,096 bytes at most: those before it end no session
pub record ReadsOn (given : Setup) (read : List ℕ) : Type 0 where
  pub before : List ℕ
  pub last : List ℕ
  pub whole : read ≡ before ++ last
  pub short : length last ≤ 4096
  pub said : List ℕ
  pub going : AnswersWhole given before said

-- the bytes that it read, and those that it wrote: no others went to the writer
pub record Ended (result : Result (Unit {0}) SessionError) (given : Setup) (input left old new : Option (List ℕ)) : Type 0 where
  pub read : List ℕ
  pub taken : Consumes input left read
  pub written : List ℕ
  pub grown : Appends old new written
  pub so : EndedSo result given left read written
  -- too large is answered where more than 16 MiB were read, and only there; of more no second byte is read
  pub large : (result ≡ Err TooLarge) ↔ (16777216 < length read)
  pub most : length read ≤ 16777217
  -- after a read that failed, and after 16 MiB, no answer to a whole line is missing
  pub answered : (result ≡ Err Read) ⊎ (result ≡ Err TooLarge) → AnswersWhole given (take 16777216 read) written
  -- after a line `quit` nothing more is read
  pub reads : ReadsOn given read
