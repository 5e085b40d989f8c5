-- How a dialog ends: what it has written for the bytes that it has read.
use Rattle.std.specs.Prelude.{◌≡◌, ◌⊎◌, ◌↔◌, ◌<◌, ◌≤◌, ℕ, suc, List, ◌++◌, length, take, Option, Result, Ok, Err}
use Rattle.std.specs.Io.KnownBytes.{Appends, Consumes, IsAtEnd}
use Rattle.tsb_dialog.specs.declared.error.DialogError.{DialogError}
use Rattle.tsb_dialog.specs.declared.error.DialogError.TheVariants.{Write, TooLarge}
use Rattle.tsb_dialog.specs.Heard.{Heard, IsAnswered, IsOver, IsSaid}
use Rattle.tsb_dialog.specs.Says.{Saying}

-- this may be said to all lines of what was read, and what answers has then come to this
abbrev pub IsWhole : {S : Type 0} → ℕ → Saying S → S → Option (List ℕ) → List ℕ → List ℕ → S → Type 0
IsWhole most says from left read text end = (IsAtEnd left × IsAnswered most says from read text end) ⊎ IsOver most says from read text end

-- how a dialog ended, after these bytes were read. It wrote what may be said to all lines up to the end of the input, or up
-- to a line that ended the dialog. After a write that failed it wrote what begins what may be said. After a read that
-- failed, and where there was too much to read, all whole lines of what may be read were answered.
abbrev pub EndedSo : {A S : Type 0} → ℕ → ℕ → (A → S → Type 0) → Saying S → S → Result (Unit {0}) DialogError → A
    → Option (List ℕ) → List ℕ → List ℕ → Type 0
EndedSo {S = S} most limit stands says from (Ok u) new left read written = (end : S) × stands new end × IsWhole most says from left read written end
EndedSo {S = S} most limit stands says from (Err Write) new left read written =
    (rest : List ℕ) × (((end : S) × IsWhole most says from left read (written ++ rest) end) ⊎ IsSaid most says from read (written ++ rest))
EndedSo {S = S} most limit stands says from (Err e) new left read written =
    (number : ℕ) × (now : S) × (held : List ℕ) × stands new now × Heard most says from (take limit read) written number now held

-- the dialog went on up to the last read, which brought 4,096 bytes at most: those before it end no dialog
pub record ReadsOn {S : Type 0} (most : ℕ) (says : Saying S) (from : S) (read : List ℕ) : Type 0 where
  pub before : List ℕ
  pub last : List ℕ
  pub whole : read ≡ before ++ last
  pub short : length last ≤ 4096
  pub text : List ℕ
  pub number : ℕ
  pub now : S
  pub held : List ℕ
  pub heard : Heard most says from before text number now held

-- the bytes that it read, and those that it wrote: no others went to the writer
pub record Ended {A S : Type 0} (most limit : ℕ) (stands : A → S → Type 0) (says : Saying S) (from : S) (result : Result (Unit {0}) DialogError) (new : A) (input left before after : Option (List ℕ)) : Type 0 where
  pub read : List ℕ
  pub taken : Consumes input left read
  pub written : List ℕ
  pub grown : Appends before after written
  pub so : EndedSo most limit stands says from result new left read written
  -- too large is answered where more bytes were read than may be, and only there; of more no second byte is read
  pub large : (result ≡ Err TooLarge) ↔ (limit < length read)
  pub limited : length read ≤ suc limit
  pub reads : ReadsOn most says from read
