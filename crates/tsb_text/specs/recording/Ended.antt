-- How the record of a run ends, that `first` inputs began before its first line.
use Rattle.std.specs.Prelude.{◌≡◌, ◌⊎◌, ◌↔◌, ◌<◌, ◌≤◌, ℕ, List, [], ◌++◌, length, take, Option, Some, None, Result, Ok, Err}
use Rattle.std.specs.Io.KnownBytes.{Appends, Consumes, IsAtEnd}
use Rattle.tsb_step.specs.declared.inputs.Input.{Input}
use Rattle.tsb_step.specs.declared.log_form.LogForm.{LogForm}
use Rattle.tsb_lines.specs.Lines.{HasNoFeed, lines_of}
use Rattle.tsb_text.specs.Answers.{Setup}
use Rattle.tsb_text.specs.declared.error.SessionError.{SessionError}
use Rattle.tsb_text.specs.declared.error.SessionError.TheVariants.{Memory, Read, TooLarge}
use Rattle.tsb_text.specs.declared.faults.OnFault.{OnFault}
use Rattle.tsb_text.specs.declared.recording.Outcome.{Outcome}
use Rattle.tsb_text.specs.declared.recording.Outcome.TheVariants.{Events, Stopped}
use Rattle.tsb_text.specs.Stops.{stop_in}
use Rattle.tsb_text.specs.recording.Along.{told_along}
use Rattle.tsb_text.specs.recording.Leaves.{BeginsWith, Come, End}

-- ## What was told

-- what these bytes and any more come to is this, and then what the bytes held and those more come to
pub record Carries (on_fault : OnFault) (given : Setup) (number : ℕ) (is : List Input) (bytes : List ℕ) (next : ℕ) (now : List Input) (held said : List ℕ) : Type 0 where
  pub on : (end : End) (more text : List ℕ) → Come on_fault given end next now (lines_of (held ++ more)) text
      → Come on_fault given end number is (lines_of (bytes ++ more)) (said ++ text)

-- this begins what these bytes come to, whatever comes after them
pub record IsBegun (on_fault : OnFault) (given : Setup) (number : ℕ) (is : List Input) (bytes said : List ℕ) : Type 0 where
  pub rest : (more : List ℕ) → (end : End) × (rest : List ℕ) × Come on_fault given end number is (lines_of (bytes ++ more)) (said ++ rest)

-- this begins what line `number` and those after it come to, which are these bytes
abbrev pub BeginsLast : OnFault → Setup → ℕ → List Input → List ℕ → List ℕ → Type 0
BeginsLast on_fault given number is bytes said = (end : End) × (rest : List ℕ) × Come on_fault given end number is (lines_of bytes) (said ++ rest)

-- all whole lines of these bytes were told of, and none ended the record: whatever comes after, what is told is this, and
-- then what an unfinished line and the bytes after come to
pub record TellsWhole (on_fault : OnFault) (given : Setup) (first : List Input) (bytes told : List ℕ) : Type 0 where
  pub next : ℕ
  pub now : List Input
  pub held : List ℕ
  pub unfinished : HasNoFeed held
  pub carries : Carries on_fault given 1 first bytes next now held told

-- the commands went on up to the last read, which brought 4,096 bytes at most: those before it end no record
pub record ReadsOn (on_fault : OnFault) (given : Setup) (first : List Input) (read : List ℕ) : Type 0 where
  pub before : List ℕ
  pub last : List ℕ
  pub whole : read ≡ before ++ last
  pub short : length last ≤ 4096
  pub said : List ℕ
  pub going : TellsWhole on_fault given first before said

-- ## How it ends

-- a record whose commands are these bytes comes to this, at the end of what is read, or where a line ended it, and then
-- whatever comes after; and this was told of lines that are no command or that were refused
abbrev pub Remain : OnFault → Setup → List Input → Option (List ℕ) → List ℕ → End → List ℕ → Type 0
Remain on_fault given first left read end told =
    (IsAtEnd left × Come on_fault given end 1 first (lines_of read) told)
    ⊎ ((more : List ℕ) → Come on_fault given end 1 first (lines_of (read ++ more)) told)

-- what was told begins what is to be told of these bytes, at the end of what is read, or whatever comes after
abbrev pub Begins : OnFault → Setup → List Input → Option (List ℕ) → List ℕ → List ℕ → Type 0
Begins on_fault given first left read told = (IsAtEnd left × BeginsLast on_fault given 1 first read told) ⊎ IsBegun on_fault given 1 first read told

-- the events are those of the inputs that remain, no line ended the record, and all was told; or a line ended it, and this
-- was told; or after a fault a prefix of what is to be told of the bytes that were read. With no memory to begin with
-- nothing was read or told.
abbrev pub EndedSo : Result Outcome SessionError → OnFault → LogForm → Setup → List Input → Option (List ℕ) → List ℕ → List ℕ → Type 0
EndedSo (Ok (Events events)) on_fault form given first left read told =
    (is : List Input) × Remain on_fault given first left read (record { inputs = is; stop = None }) told × (events.items ≡ told_along form given.plan is)
EndedSo (Ok (Stopped line)) on_fault form given first left read told =
    (is : List Input) × Remain on_fault given first left read (record { inputs = is; stop = stop_in (Some line) }) told
EndedSo (Err Memory) on_fault form given first left read told = (read ≡ []) × (told ≡ [])
EndedSo (Err e) on_fault form given first left read told = Begins on_fault given first left read told

-- it is too large
abbrev pub IsTooLarge : {T : Type 0} → Result T SessionError → Type 0
IsTooLarge (Err TooLarge) = Unit {0}
IsTooLarge r = ⊥

-- the fault is one of reading: a read failed, or there is too much to read
abbrev pub IsOfReading : {T : Type 0} → Result T SessionError → Type 0
IsOfReading (Err Read) = Unit {0}
IsOfReading (Err TooLarge) = Unit {0}
IsOfReading r = ⊥

-- the bytes that it read, and those that it told of lines that are no command or that were refused
pub record Ended (result : Result Outcome SessionError) (on_fault : OnFault) (form : LogForm) (given : Setup) (first : List Input) (input left old new : Option (List ℕ)) : Type 0 where
  pub read : List ℕ
  pub taken : Consumes input left read
  pub told : List ℕ
  pub grown : Appends old new told
  pub so : EndedSo result on_fault form given first left read told
  -- too large is answered where more than 16 MiB were read, and only there; of more no second byte is read
  pub large : IsTooLarge result ↔ (16777216 < length read)
  pub most : length read ≤ 16777217
  -- after a read that failed, and after 16 MiB, nothing that is to be told of a whole line is missing
  pub whole : IsOfReading result → TellsWhole on_fault given first (take 16777216 read) told
  -- after a line that ends it, `quit` or one with which something is wrong, nothing more is read
  pub reads : ReadsOn on_fault given first read

-- there was no memory to begin with: nothing was read or written
abbrev pub HasNotBegun : Result Outcome SessionError → (input left old new : Option (List ℕ)) → Type 0
HasNotBegun (Err Memory) input left old new = (left ≡ input) × (new ≡ old)
HasNotBegun result input left old new = ⊥

-- how a record ends that has this clock, if any
abbrev pub EndedFrom : Result Outcome SessionError → OnFault → LogForm → Setup → Option ℕ → (input left old new : Option (List ℕ)) → Type 0
EndedFrom result on_fault form given clock input left old new =
    ((first : List Input) × BeginsWith given clock first × Ended result on_fault form given first input left old new)
    ⊎ HasNotBegun result input left old new
