-- What a filter of a stream has read and written.
use Rattle.std.specs.Prelude.{◌≡◌, ◌⊎◌, ◌<◌, ◌≤◌, ◌+◌, ℕ, List, ◌++◌, length, Option, Result, Ok, Err}
use Rattle.std.specs.Io.KnownBytes.{Appends, Consumes, IsAtEnd}
use Rattle.tsb_lines.specs.Lines.{kept}
use Rattle.tsb_log_text.specs.Logs.{log_of}
use Rattle.tsb_field_log.specs.Changes.{rows_of}
use Rattle.tsb_field_log.specs.Pushed.{rows_before}
use Rattle.tsb_field_log.specs.Ticks.{row_in}
use Rattle.tsb_field_streams.specs.declared.error.FilterError.{FilterError}
use Rattle.tsb_field_streams.specs.declared.error.FilterError.TheVariants.{Memory, Read, Write, TooLarge, LogTooLarge}
use Rattle.tsb_field_streams.specs.declared.filter.Filter.{Filter}
use Rattle.tsb_field_streams.specs.declared.filter.Summary.{Summary}
use Rattle.tsb_log_text.specs.declared.read.TheConstants.{LIMIT}
use Rattle.tsb_field_streams.specs.declared.stream.Stream.{Stream}
use Rattle.tsb_field_streams.specs.declared.stream.TheConstants.{EVENTS, KEPT}
use Rattle.tsb_field_streams.specs.Filtering.{Given, Stand, summary_at, text_by, with_nexts}
use Rattle.tsb_field_streams.specs.Lines.{HasRead, all_of, filtered}
use Rattle.tsb_field_streams.specs.Standing.{StandsAt}

-- the log as far as it is known where a text has come to this
abbrev pub known_log : Given → Stand → List ℕ
known_log g s = text_by g (rows_before g.from g.wires s.events)

-- the whole log, where no line follows
abbrev pub whole_log : Given → Stand → List ℕ
whole_log g s = text_by g (rows_of (row_in g.from g.wires s.events))

-- a stream has read these bytes, and written all of the log that is known by them: `old` is what the writer held before
-- the first of them, and `new` what it holds. Of a line that is not whole its first bytes are kept.
pub record Follows (g : Given) (bytes : List ℕ) (stream : Stream) (old new : Option (List ℕ)) : Type 0 where
  pub stand : Stand
  pub held : List ℕ
  pub read : HasRead g bytes stream.number stand held
  pub kept : stream.line ≡ kept KEPT held
  pub stands : StandsAt g stand stream.filter
  pub grown : Appends old new (known_log g stand)

-- what was written is a prefix of the log that the first of these bytes tell, were they all; where rows are sorted, of
-- the log of those rows of them that were taken, so many of them as if no line followed
pub record WroteFront (g : Given) (bytes : List ℕ) (old new : Option (List ℕ)) : Type 0 where
  pub front : List ℕ
  pub behind : List ℕ
  pub before : Stand
  pub count : ℕ
  pub stand : Stand
  pub written : List ℕ
  pub rest : List ℕ
  pub whole : bytes ≡ front ++ behind
  pub comes : filtered g front ≡ Ok before
  pub taken : with_nexts g count before ≡ Ok stand
  pub grown : Appends old new written
  pub begins : whole_log g stand ≡ written ++ rest

-- these bytes have this fault, whatever follows
abbrev pub Sticks : Given → List ℕ → FilterError → Type 0
Sticks g bytes fault = (more : List ℕ) → filtered g (bytes ++ more) ≡ Err fault

-- a stream has taken these bytes, or has ended by a fault of theirs, or of its writer
abbrev pub Went : Result (Unit {0}) FilterError → Given → List ℕ → Stream → Option (List ℕ) → Option (List ℕ) → Type 0
Went (Ok u) g bytes stream old new = Follows g bytes stream old new
Went (Err fault) g bytes stream old new = WroteFront g bytes old new × ((fault ≡ Write) ⊎ Sticks g bytes fault)

-- these bytes are all, so many of the rows that were held then are taken, and all of the log is written that is known by
-- them
pub record Known (g : Given) (bytes : List ℕ) (before : Stand) (count : ℕ) (filter : Filter) (old new : Option (List ℕ)) : Type 0 where
  pub stand : Stand
  pub comes : filtered g bytes ≡ Ok before
  pub taken : with_nexts g count before ≡ Ok stand
  pub stands : StandsAt g stand filter
  pub grown : Appends old new (known_log g stand)

-- these bytes are all, and all of the log is written that is known by their lines; or a fault of theirs came, or of the
-- writer
abbrev pub TookLast : Result (Unit {0}) FilterError → Given → List ℕ → Filter → Option (List ℕ) → Option (List ℕ) → Type 0
TookLast (Ok u) g bytes filter old new = (before : Stand) × Known g bytes before 0 filter old new
TookLast (Err fault) g bytes filter old new = WroteFront g bytes old new × ((fault ≡ Write) ⊎ (all_of g bytes ≡ Err fault))

-- all rows that were held are taken; or a fault of theirs came, or of the writer
abbrev pub Gave : Result (Unit {0}) FilterError → Given → List ℕ → Stand → Filter → Option (List ℕ) → Option (List ℕ) → Type 0
Gave (Ok u) g bytes before filter old new = Known g bytes before (length before.held) filter old new
Gave (Err fault) g bytes before filter old new = WroteFront g bytes old new × ((fault ≡ Write) ⊎ (all_of g bytes ≡ Err fault))

-- these bytes are all: this is their log, which readers of logs take, and what was read of them
pub record IsWhole (g : Given) (bytes : List ℕ) (summary : Summary) (written : List ℕ) : Type 0 where
  pub stand : Stand
  pub comes : all_of g bytes ≡ Ok stand
  pub told : summary ≡ summary_at g stand
  pub log : written ≡ whole_log g stand
  pub taken : log_of written ≡ Ok (rows_of (row_in g.from g.wires stand.events))

-- these bytes are all, and their log would be too large
pub record IsTooLong (g : Given) (bytes : List ℕ) : Type 0 where
  pub stand : Stand
  pub comes : all_of g bytes ≡ Ok stand
  pub long : LIMIT < length (whole_log g stand)

-- the fault of bytes that are all: of their last line, or of the length of their log
abbrev pub IsFaultOfAll : Given → List ℕ → FilterError → Type 0
IsFaultOfAll g bytes fault = (all_of g bytes ≡ Err fault) ⊎ ((fault ≡ LogTooLarge) × IsTooLong g bytes)

-- these bytes are all: their whole log is written; or a fault of theirs came, or of the writer
abbrev pub Finished : Result Summary FilterError → Given → List ℕ → Option (List ℕ) → Option (List ℕ) → Type 0
Finished (Ok summary) g bytes old new = (written : List ℕ) × Appends old new written × IsWhole g bytes summary written
Finished (Err fault) g bytes old new = WroteFront g bytes old new × ((fault ≡ Write) ⊎ IsFaultOfAll g bytes fault)

-- why a stream ended, of which these bytes were read, and these are left: a device failed, it was too large, the bytes have
-- a fault whatever follows, or they are all and have one
abbrev pub IsWhy : FilterError → Given → Option (List ℕ) → List ℕ → Type 0
IsWhy fault g left read =
    (fault ≡ Read) ⊎ ((fault ≡ Write) ⊎ (((fault ≡ TooLarge) × (EVENTS < length read)) ⊎ (Sticks g read fault ⊎ (IsAtEnd left × IsFaultOfAll g read fault))))

-- a stream has ended: at the end of what is read, with the whole log written; or by a fault, with a prefix of it
abbrev pub EndedSo : Result Summary FilterError → Given → Option (List ℕ) → List ℕ → Option (List ℕ) → Option (List ℕ) → Type 0
EndedSo (Ok summary) g left read old new = IsAtEnd left × (written : List ℕ) × Appends old new written × IsWhole g read summary written
EndedSo (Err fault) g left read old new = WroteFront g read old new × IsWhy fault g left read

-- the bytes that it read, of which there are 1 GiB at most, or one more that makes it too large
pub record EndedBehind (result : Result Summary FilterError) (g : Given) (input left old new : Option (List ℕ)) : Type 0 where
  pub read : List ℕ
  pub taken : Consumes input left read
  pub so : EndedSo result g left read old new
  pub most : (length read ≤ EVENTS) ⊎ ((length read ≡ EVENTS + 1) × (result ≡ Err TooLarge))

-- how a filter of a stream ended; with no memory to begin with it has read nothing and written nothing
abbrev pub Ended : Result Summary FilterError → Given → Option (List ℕ) → Option (List ℕ) → Option (List ℕ) → Option (List ℕ) → Type 0
Ended result g input left old new = EndedBehind result g input left old new ⊎ ((result ≡ Err Memory) × (left ≡ input) × (new ≡ old))
