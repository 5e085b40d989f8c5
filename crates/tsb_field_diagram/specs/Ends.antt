-- The ends of greens in an event log.
use Rattle.std.specs.Prelude.{◌≡◌, ℕ, ◌+◌, ◌-◌, ◌/◌, ◌==◌, nat_le, nat_lt, not, Bool, ◌&&◌, if◌then◌else◌, List, [], ◌∷◌, ◌++◌, length, Option, Some, None, Result, Ok, Err, Vec}
use Rattle.tsb_lines.specs.Lines.{lines_of, is_skipped}
use Rattle.tsb_event_text.specs.Columns.{usual_of}
use Rattle.tsb_event_text.specs.Faults.{fault_of}
use Rattle.tsb_event_text.specs.Wide.{is_passed, wide_of}
use Rattle.tsb_event_text.specs.declared.faults.RowFault.{RowFault}
use Rattle.tsb_event_text.specs.declared.time_forms.TimeForm.TheVariants.{YearFirst}
use Rattle.tsb_event_text.specs.declared.times.Moment.{Moment}
use Rattle.tsb_event_text.specs.declared.wide.WideRow.{WideRow}
use Rattle.tsb_field_diagram.specs.declared.ends.EndsError.{EndsError}
use Rattle.tsb_field_diagram.specs.declared.ends.EndsError.TheVariants.{Memory, TooLarge, Malformed}
use Rattle.tsb_field_diagram.specs.declared.ends.GreenEnd.{GreenEnd}
use Rattle.tsb_field_diagram.specs.declared.ends.Why.{Why}
use Rattle.tsb_field_diagram.specs.declared.ends.Why.TheVariants.{Gap, Maximum, ForceOff}

-- ## A line

-- what a code says of why a green ended
abbrev pub why_of : ℕ → Option Why
why_of code =
    if code == 4 then Some Gap else
    (if code == 5 then Some Maximum else
    (if code == 6 then Some ForceOff else None))

-- the tick of a moment, where tick 1 begins at this one
abbrev pub tick_from : Moment → Moment → ℕ
tick_from from moment = (moment.nanos - from.nanos) / 100000000 + 1

-- the end of the green of a phase, for this cause, where a tick has its moment
abbrev pub end_at : Moment → Moment → Why → ℕ → Option GreenEnd
end_at from moment why phase =
    if nat_le from.nanos moment.nanos && nat_le (tick_from from moment) 9999999 then
    Some (record { tick = tick_from from moment; phase = phase; why = why })
    else None

-- the same, where the phase is a number
abbrev pub told_as : Moment → Moment → Why → Option ℕ → Option (Option GreenEnd)
told_as from moment why None = None
told_as from moment why (Some phase) = Some (end_at from moment why phase)

-- what a row of this cause gives
abbrev pub told_why : Moment → WideRow → Option Why → Option (Option GreenEnd)
told_why from row None = Some None
told_why from row (Some why) = told_as from row.moment why row.parameter

-- what a row gives
abbrev pub told_of : Moment → WideRow → Option (Option GreenEnd)
told_of from row = told_why from row (why_of row.code)

-- what a line gives by its row
abbrev pub told_row : Moment → Option WideRow → Option (Option GreenEnd)
told_row from None = None
told_row from (Some row) = told_of from row

-- this, or else the fault
abbrev pub or_fault : RowFault → Option (Option GreenEnd) → Result (Option GreenEnd) RowFault
or_fault fault None = Err fault
or_fault fault (Some told) = Ok told

-- a line has to be a row
abbrev pub is_told : List ℕ → Bool
is_told line = not (is_skipped line) && not (is_passed line)

-- the end in a line, where it has one, or why it is no row
abbrev pub told_in : Moment → List ℕ → Result (Option GreenEnd) RowFault
told_in from line =
    if is_told line then
    or_fault (fault_of (usual_of line) (Some YearFirst) line) (told_row from (wide_of (usual_of line) (Some YearFirst) None None line))
    else Ok None

-- ## A text

-- these ends, and then those of the rest
abbrev pub with_ends : List GreenEnd → Result (List GreenEnd) EndsError → Result (List GreenEnd) EndsError
with_ends ends (Ok more) = Ok (ends ++ more)
with_ends ends (Err e) = Err e

-- line n gives this, and the rest those
abbrev pub ends_after : ℕ → Result (Option GreenEnd) RowFault → Result (List GreenEnd) EndsError → Result (List GreenEnd) EndsError
ends_after n (Ok None) rest = rest
ends_after n (Ok (Some end)) rest = with_ends (end ∷ []) rest
ends_after n (Err why) rest = Err (Malformed n why)

-- the ends in these lines, which begin with line n, or the first fault
unfoldable pub ends_from : Moment → ℕ → List (List ℕ) → Result (List GreenEnd) EndsError
ends_from from n [] = Ok []
ends_from from n (line ∷ lines) = ends_after n (told_in from line) (ends_from from (n + 1) lines)

-- the ends in a text: at most 64 MiB of it, and lines count from 1
abbrev pub ends_of : Moment → List ℕ → Result (List GreenEnd) EndsError
ends_of from text = if nat_lt 67108864 (length text) then Err TooLarge else ends_from from 1 (lines_of text)

-- what a reader returned is what reading gives. Memory may run out in place of all but too large a text.
abbrev pub Gives : {A : Type 0} → Result (Vec GreenEnd A) EndsError → Result (List GreenEnd) EndsError → Type 0
Gives (Err Memory) read = read ≡ Err TooLarge → ⊥
Gives (Err e) read = read ≡ Err e
Gives (Ok ends) read = read ≡ Ok ends.items

-- whatever lines follow, line n and they give the same after the old ends as they alone after the new ones
abbrev pub Stepped : Result Unit EndsError → Moment → List GreenEnd → ℕ → List ℕ → List GreenEnd → Type 0
Stepped (Ok done) from old n line new =
    (lines : List (List ℕ)) → with_ends old (ends_from from n (line ∷ lines)) ≡ with_ends new (ends_from from (n + 1) lines)
Stepped (Err Memory) from old n line new = Unit {0}
Stepped (Err e) from old n line new = (lines : List (List ℕ)) → ends_from from n (line ∷ lines) ≡ Err e
