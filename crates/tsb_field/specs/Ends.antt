-- How the program ends, and what it has then written on its output and of faults.
--
-- `before` and `after` are what is seen of all devices; of the output alone that is `old` and `new`, and of faults `told`
-- and `tells`.
use Rattle.std.specs.Prelude.{◌≡◌, ◌⊎◌, ℕ, Bool, not, false, true, List, [], IsSome, Option, Some, None, Result, Ok, Err, Vec, option_map, unwrap_or, codes}
use Rattle.std.specs.Io.KnownBytes.{Consumes, IsAtEnd}
use Rattle.tsb_review_text.specs.Week.{week_text}
use Rattle.tsb_review_text.specs.Worksheet.{worksheet_text}
use Rattle.tsb_review_text.specs.WeekPicture.{week_picture}
use Rattle.tsb_program.specs.Read.{HasLog, HasPlan, RefusesLog, RefusesPlanAt}
use Rattle.tsb_program.specs.Failures.{Fails}
use Rattle.tsb_program.specs.Lines.{Wrote}
use Rattle.tsb_program.specs.Told.{FailsToReadFile, RefusesAt, RefusesLogText, TellsInputEnd}
use Rattle.tsb_program.specs.declared.clue.PlanClue.{PlanClue}
use Rattle.tsb_program.specs.declared.failure.Failure.{Failure}
use Rattle.tsb_program.specs.declared.failure.Failure.TheVariants.{Memory, Input, Write}
use Rattle.tsb_program.specs.tsb_lines.Seen.{Seen}
use Rattle.tsb_program.specs.declared.read.ReadError.{ReadError}
use Rattle.tsb_program.specs.declared.read.ReadError.TheVariants as faults
use Rattle.tsb_program.specs.declared.read.RefusedLog.{RefusedLog}
use Rattle.tsb_log_text.specs.declared.log.LogRow.{LogRow}
use Rattle.tsb_event_text.specs.declared.times.Moment.{Moment}
use Rattle.tsb_field_display.specs.Remaining.{changes_of, last_tick, remaining}
use Rattle.tsb_field_display.specs.Stream.{HasNoEnd, shown_lines}
use Rattle.tsb_field_display.specs.declared.error.ReplayError.{ReplayError}
use Rattle.tsb_field_display.specs.declared.error.ReplayError.TheVariants as replays
use Rattle.tsb_field_display.specs.declared.shown.Shown.{Shown}
use Rattle.tsb_field_diagram.specs.Given.{Form}
use Rattle.tsb_field_diagram.specs.Page.{diagram_text}
use Rattle.tsb_field_diagram.specs.declared.ends.GreenEnd.{GreenEnd}
use Rattle.tsb_field_display.specs.declared.events_error.EventsError.{EventsError}
use Rattle.tsb_field_display.specs.declared.events_error.EventsError.TheVariants as ends
use Rattle.tsb_field_display.specs.Merge.{session_events}
use Rattle.tsb_field_display.specs.Texts.{IsLog}
use Rattle.tsb_field_display.specs.Ticks.{AreWritten}
use Rattle.tsb_text.specs.recording.Ended as recorded
use Rattle.tsb_text.specs.declared.recording.RecordOptions.{RecordOptions}
use Rattle.tsb_text.specs.declared.recording.Outcome.{Outcome}
use Rattle.tsb_text.specs.declared.recording.Outcome.TheVariants as outcomes
use Rattle.tsb_text.specs.tsb_types.declared.event.Event.{Event}
use Rattle.tsb_text.specs.Answers.{Setup}
use Rattle.tsb_text.specs.Blame.{Blames}
use Rattle.tsb_text.specs.declared.error.SessionError.{SessionError}
use Rattle.tsb_text.specs.tsb_plan.Plan.{Plan}
use Rattle.tsb_text.specs.tsb_plan_text.declared.error.PlanError.{PlanError}
use Rattle.tsb_words.specs.FieldProgram.{Spells}
use Rattle.tsb_words.specs.Near.{field_near}
use Rattle.tsb_words.specs.Wrong.{Wrong, field_wrong}
use Rattle.tsb_words.specs.FieldWords.{Wish, card, diagram, events, log, recording, reviewing, seen, weekly, worksheet}
use Rattle.tsb_words.specs.declared.field_files.Asked.{Asked}
use Rattle.tsb_words.specs.declared.field_files.DiagramAsked.{DiagramAsked}
use Rattle.tsb_words.specs.declared.field_files.RecordManner.{RecordManner}
use Rattle.tsb_words.specs.declared.error.WordsError.{WordsError}
use Rattle.tsb_program.specs.Devices.{Devices, OnlyTells, ReadsNothing}
use Rattle.tsb_program.specs.Runs.{TellsWords, after_fault}
use Rattle.tsb_field.specs.CardEnds.{Carded}
use Rattle.tsb_field.specs.Clocks.{clock_of, lacks_clock}
use Rattle.tsb_field.specs.Lines.{TellsLate, TellsNoClock, usage_for}
use Rattle.tsb_field.specs.GreenEnds.{HasEnds, NoEnds}
use Rattle.tsb_field.specs.LogEnds.{LoggedOn}
use Rattle.tsb_field.specs.ReviewEnds.{Answered as Replied, Reviewed}

-- ## What words name

-- the rows of the log that words name: none where they name none
abbrev pub NamesLog : (List ℕ → Option (List ℕ)) → Option (List ℕ) → List LogRow → Type 0
NamesLog files None rows = rows ≡ []
NamesLog files (Some path) rows = HasLog (files path) rows

-- the file at this path, where words name one, has no log, for this fault
abbrev pub NamesNoLog : (List ℕ → Option (List ℕ)) → Option (List ℕ) → RefusedLog → Type 0
NamesNoLog files None fault = ⊥
NamesNoLog files (Some path) fault = RefusesLog (files path) fault

-- the file at this path, where words name one, was not read, which is told with its name
abbrev pub FailsNamed : Option (List ℕ) → ℕ → Seen → Seen → Type 0
FailsNamed None status told tells = ⊥
FailsNamed (Some path) status told tells = FailsToReadFile path status told tells

-- there is no log: with 1 because the one named is refused, or because its file or memory failed
abbrev pub Stops : (List ℕ → Option (List ℕ)) → Option (List ℕ) → ℕ → Seen → Seen → Type 0
Stops files path status told tells =
    ((fault : RefusedLog) × NamesNoLog files path fault × RefusesLogText fault status told tells) ⊎ FailsNamed path status told tells

-- what came of reading the log that words name
abbrev pub LogNamed : Result (List LogRow) (ReadError RefusedLog) → (List ℕ → Option (List ℕ)) → Option (List ℕ) → Type 0
LogNamed (Ok rows) files path = NamesLog files path rows
LogNamed (Err (faults.Refused fault)) files path = NamesNoLog files path fault
LogNamed (Err (faults.Failed why)) files path = IsSome path

-- the name of a file that words name, or none
abbrev pub name_of : Option (List ℕ) → List ℕ
name_of path = unwrap_or path []

-- ## Texts of a session

-- the failure of a session that was not read
abbrev pub failure_by : ReplayError → Failure
failure_by replays.Memory = Memory
failure_by replays.Read = Input

-- why these bytes were not drawn is told: reading failed, or had no end; or memory failed, and no read has
abbrev pub NotDrawn : Bool → List ℕ → ℕ → Seen → Seen → Type 0
NotDrawn failed bytes status told tells =
    (HasNoEnd failed bytes × Fails Input status told tells) ⊎ ((failed ≡ false) × Fails Memory status told tells)

-- all that a session answered was read, and of this text, which comes of its display lines and the log's rows, as much is
-- written as the writer takes; or reading it or memory failed, and nothing is written
abbrev pub Drawn : Bool → (List Shown → Option ℕ → List LogRow → List ℕ → Type 0) → ℕ → List LogRow → (before after : Devices) → Type 0
Drawn is_wide Is status rows before after =
    ((bytes : List ℕ) × Consumes before.input.bytes after.input.bytes bytes × (after.input.failed ≡ false) × IsAtEnd after.input.bytes × (text : List ℕ)
    × Is (changes_of (remaining (shown_lines is_wide bytes))) (last_tick (shown_lines is_wide bytes)) rows text
    × Wrote status 0 text before.output after.output before.errors after.errors)
    ⊎ ((bytes : List ℕ) × Consumes before.input.bytes after.input.bytes bytes × (after.output ≡ before.output)
    × NotDrawn after.input.failed bytes status before.errors after.errors)

-- ## `events`

-- the text of a session's events
abbrev pub IsEvents : Moment → List ℕ → List Shown → Option ℕ → List LogRow → List ℕ → Type 0
IsEvents from device changes last rows text = IsLog from device (session_events changes rows) text

-- all was read and nothing is written, since with 2 a tick has no time
abbrev pub IsLate : Moment → ℕ → (before after : Devices) → Type 0
IsLate from status before after =
    (bytes : List ℕ) × Consumes before.input.bytes after.input.bytes bytes × (after.input.failed ≡ false) × (AreWritten from → ⊥)
    × (after.output ≡ before.output) × TellsLate status before.errors after.errors

-- the events of what was read are written; or nothing is: there is no log, or with 2 a tick has no time
abbrev pub Told : Bool → ℕ → Moment → List ℕ → (List ℕ → Option (List ℕ)) → Option (List ℕ) → (before after : Devices) → Type 0
Told is_wide status from device files path before after =
    OnlyTells (Stops files path status) before after
    ⊎ (((rows : List LogRow) × NamesLog files path rows × Drawn is_wide (IsEvents from device) status rows before after) ⊎ IsLate from status before after)

-- the events of what was read are written, with these rows of a log; or nothing is, since with 2 a tick has no time
abbrev pub ToldOn : Bool → ℕ → Moment → List ℕ → List LogRow → (before after : Devices) → Type 0
ToldOn is_wide status from device rows before after = Drawn is_wide (IsEvents from device) status rows before after ⊎ IsLate from status before after

-- ## `record`

-- there is no run on the files of these names: with 1 because the plan is refused, which is told with what is said of its
-- text, or because there is a plan and the log is refused; or because a file or memory failed
abbrev pub NoRun : (plan rows : List ℕ) → (List ℕ → Option (List ℕ)) → ℕ → Seen → Seen → Type 0
NoRun plan rows files status told tells =
    ((fault : PlanError) × (clue : Option PlanClue) × RefusesPlanAt (files plan) fault clue × RefusesAt fault clue status told tells)
    ⊎ (((found : Plan) × HasPlan (files plan) found × (fault : RefusedLog) × RefusesLog (files rows) fault × RefusesLogText fault status told tells)
    ⊎ (FailsToReadFile plan status told tells ⊎ ((found : Plan) × HasPlan (files plan) found × FailsToReadFile rows status told tells)))

-- the events of the inputs that remain are written; or nothing is: memory failed, or with 2 a tick has no time
abbrev pub Writes : ℕ → Moment → List ℕ → List Event → (old new told tells : Seen) → Type 0
Writes status from device all old new told tells =
    ((text : List ℕ) × IsLog from device all text × Wrote status 0 text old new told tells)
    ⊎ (((new ≡ old) × Fails Memory status told tells)
    ⊎ ((AreWritten from → ⊥) × (new ≡ old) × TellsLate status told tells))

-- the text that was made of events is written; or nothing is, since there is none
abbrev pub WritesMade : {A : Type 0} → Result (Vec ℕ A) EventsError → ℕ → (old new told tells : Seen) → Type 0
WritesMade (Ok text) status old new told tells = Wrote status 0 text.items old new told tells
WritesMade (Err ends.Memory) status old new told tells = (new ≡ old) × Fails Memory status told tells
WritesMade (Err ends.Late) status old new told tells = (new ≡ old) × TellsLate status told tells

-- what is asked of a record, as words say: it is strict where it does not go on, and its clock is that of tick 1
abbrev pub options_of : Moment → RecordManner → RecordOptions
options_of from manner = record {
  on_fault = after_fault (not manner.goes_on);
  form = record { recalls = manner.recalls; outputs = manner.outputs };
  acts = true;
  clock = clock_of manner.no_clock from;
}

-- a run ended well; or with nothing written: with 4 because a line ended it, of which no more is told, or by a fault
abbrev pub WritesEnd : Result Outcome SessionError → ℕ → Moment → List ℕ → (old new told tells : Seen) → Type 0
WritesEnd (Ok (outcomes.Events all)) status from device old new told tells = Writes status from device all.items old new told tells
WritesEnd (Ok (outcomes.Stopped line)) status from device old new told tells = (status ≡ 4) × (new ≡ old) × (tells ≡ told)
WritesEnd (Err fault) status from device old new told tells = (new ≡ old) × TellsInputEnd fault status told tells

-- commands were run on a plan and a log, and told of what was refused, by a fault of a device exactly where a call of that
-- device has failed; and then this was written
abbrev pub RanSo : ℕ → Moment → List ℕ → RecordOptions → Setup → (before after : Devices) → Type 0
RanSo status from device options given before after =
    (result : Result Outcome SessionError) × (mid : Seen)
    × recorded.EndedFrom result options.on_fault options.form given options.clock before.input.bytes after.input.bytes before.errors.bytes mid.bytes
    × Blames result after.input.failed mid.failed mid.flushed × WritesEnd result status from device before.output after.output mid after.errors

-- how `record` ended on this plan and the log in the file of this name: after a run, or with nothing read and nothing written
abbrev pub RecordedOn : ℕ → Moment → List ℕ → RecordOptions → Plan → (rows : List ℕ) → (List ℕ → Option (List ℕ)) → (before after : Devices) → Type 0
RecordedOn status from device options plan rows files before after =
    ((log : List LogRow) × HasLog (files rows) log × RanSo status from device options (record { plan = plan; log = log; acts = true; is_wide = false }) before after)
    ⊎ OnlyTells (Stops files (Some rows) status) before after

-- how `record` ended on the files of a plan and a log, of these names: after a run, or with nothing read and nothing written
abbrev pub Recorded : ℕ → Moment → List ℕ → RecordOptions → (plan rows : List ℕ) → (List ℕ → Option (List ℕ)) → (before after : Devices) → Type 0
Recorded status from device options plan rows files before after =
    ((given : Setup) × HasPlan (files plan) given.plan × HasLog (files rows) given.log × (given.acts ≡ true) × (given.is_wide ≡ false) × RanSo status from device options given before after)
    ⊎ OnlyTells (NoRun plan rows files status) before after

-- the same, where it may be that no clock can be set to tick 1, and one has to be: nothing is read or written then
abbrev pub RecordedWith : Bool → ℕ → Moment → List ℕ → RecordOptions → (plan rows : List ℕ) → (List ℕ → Option (List ℕ)) → (before after : Devices) → Type 0
RecordedWith true status from device options plan rows files before after = OnlyTells (TellsNoClock status) before after
RecordedWith false status from device options plan rows files before after =
    Recorded status from device options plan rows files before after

-- ## `diagram`

-- the title, or what stands there where words give none
abbrev pub title_of : Option (List ℕ) → List ℕ
title_of title = unwrap_or title (codes "Phase diagram")

-- the seconds of a line, or 5 minutes where words give none
abbrev pub seconds_of : Option ℕ → ℕ
seconds_of seconds = unwrap_or seconds 300

-- how a diagram is laid out where words give this title, so many seconds and this moment
abbrev pub form_of : Option (List ℕ) → Option ℕ → Option Moment → Form
form_of title seconds from = record { title = title_of title; seconds = seconds_of seconds; from = from }

-- the same of the words of `diagram`
abbrev pub form_asked : DiagramAsked → Form
form_asked asked = form_of (option_map (λ title. title.now) asked.title) asked.seconds_per_line asked.from

-- the picture of a session
abbrev pub IsDiagram : Form → List GreenEnd → List Shown → Option ℕ → List LogRow → List ℕ → Type 0
IsDiagram form greens changes last rows text = text ≡ diagram_text form (record { changes = changes; last = last; rows = rows; ends = greens })

-- this picture is written; or nothing is, as memory failed
abbrev pub Draws : List ℕ → ℕ → (old new told tells : Seen) → Type 0
Draws text status old new told tells = Wrote status 0 text old new told tells ⊎ ((new ≡ old) × Fails Memory status told tells)

-- the picture of what was read is written, with the ends of greens in the event log of this file, where words name one and a
-- moment to count from; or nothing is, since that has none. Without such a file it has no ends.
abbrev pub PicturedBeside : Bool → Option (List ℕ) → Option Moment → ℕ → Form → List LogRow → (List ℕ → Option (List ℕ)) → (before after : Devices) → Type 0
PicturedBeside is_wide (Some source) (Some from) status form rows files before after =
    OnlyTells (NoEnds from source files status) before after
    ⊎ ((greens : List GreenEnd) × HasEnds from (files source) greens × Drawn is_wide (IsDiagram form greens) status rows before after)
PicturedBeside is_wide source from status form rows files before after = Drawn is_wide (IsDiagram form []) status rows before after

-- the picture of what was read is written; or nothing is, since there is no log, or no end of a green
abbrev pub Pictured : Bool → ℕ → Form → Option (List ℕ) → (List ℕ → Option (List ℕ)) → Option (List ℕ) → (before after : Devices) → Type 0
Pictured is_wide status form source files path before after =
    OnlyTells (Stops files path status) before after
    ⊎ ((rows : List LogRow) × NamesLog files path rows × PicturedBeside is_wide source form.from status form rows files before after)

-- what the schedule of a plan runs in the week from a moment on is written as a picture, or else as a table
abbrev pub RunsWeek : Bool → ℕ → Plan → ℕ → (old new told tells : Seen) → Type 0
RunsWeek true status plan week old new told tells = Draws (week_picture plan week) status old new told tells
RunsWeek false status plan week old new told tells = Replied status 0 (week_text plan week) old new told tells

-- what the schedule of the plan in this file runs is written; or the fault of the file or of the plan goes to the errors
abbrev pub Scheduled : ℕ → List ℕ → ℕ → Bool → Option (List ℕ) → (old new told tells : Seen) → Type 0
Scheduled status path week svg file old new told tells =
    ((plan : Plan) × HasPlan file plan × RunsWeek svg status plan week old new told tells)
    ⊎ (((fault : PlanError) × (clue : Option PlanClue) × RefusesPlanAt file fault clue × (new ≡ old) × RefusesAt fault clue status told tells)
    ⊎ ((new ≡ old) × FailsToReadFile path status told tells))

-- the worksheet of the plan in this file is written, with 0; or the fault of the file or of the plan goes to the errors
abbrev pub Worked : ℕ → List ℕ → Option (List ℕ) → (old new told tells : Seen) → Type 0
Worked status path file old new told tells =
    ((plan : Plan) × HasPlan file plan × Replied status 0 (worksheet_text plan) old new told tells)
    ⊎ (((fault : PlanError) × (clue : Option PlanClue) × RefusesPlanAt file fault clue × (new ≡ old) × RefusesAt fault clue status told tells)
    ⊎ ((new ≡ old) × FailsToReadFile path status told tells))

-- ## What is done

-- what was done for a wish, where files has the known bytes of each path
abbrev pub DidWish : Wish → ℕ → (List ℕ → Option (List ℕ)) → (before after : Devices) → Type 0
DidWish (log wish) status files before after = LoggedOn wish.as_outputs status wish files before after
DidWish (recording from device plan file manner) status files before after =
    RecordedWith (lacks_clock manner.no_clock from) status from device (options_of from manner) plan file files before after
DidWish (events from device path is_wide) status files before after = Told is_wide status from device files path before after
DidWish (diagram path is_wide title seconds from told_by) status files before after =
    Pictured is_wide status (form_of title seconds from) told_by files path before after
DidWish (weekly plan week svg) status files before after = ReadsNothing (Scheduled status plan week svg (files plan)) before after
DidWish (worksheet plan) status files before after = ReadsNothing (Worked status plan (files plan)) before after
DidWish (card plan against) status files before after = ReadsNothing (Carded status plan against files) before after
DidWish (reviewing plan) status files before after = ReadsNothing (Reviewed status plan (files plan)) before after

-- what was done for what the words ask, where this right word is near a bad one, or this is wrong with them
abbrev pub Did : Option (List ℕ) → Option Wrong → Result Asked WordsError → ℕ → (List ℕ → Option (List ℕ)) → (before after : Devices) → Type 0
Did near wrong (Ok asked) status files before after = DidWish (seen asked) status files before after
Did near wrong (Err fault) status files before after = OnlyTells (TellsWords near (usage_for wrong) fault status) before after

-- the page that words ask for, if any, is written, with nothing read; else what the words ask was done
abbrev pub Answered : Option (List ℕ) → List (List ℕ) → ℕ → (List ℕ → Option (List ℕ)) → (before after : Devices) → Type 0
Answered (Some page) words status files before after = ReadsNothing (Wrote status 0 page) before after
Answered None words status files before after =
    (answer : Result Asked WordsError) × Spells words answer × Did (field_near words) (field_wrong words) answer status files before after
