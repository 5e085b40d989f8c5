-- How the program ends.
use Rattle.std.proofs.Common.{◌≡◌, ℕ, Bool, Global, List, [], ◌∷◌, ◌++◌, arith, length, OnErr, OnOk, Ok, true, false, refl, subst, sym, inl, inr}
use Rattle.std.specs.declared.result.Result.{Result}
use Rattle.std.proofs.lemmas.Bool.{true≢false}
use Rattle.std.specs.Prelude.{Err, None, Some, Vec}
use Rattle.std.specs.declared.option.Option.{Option}
use Rattle.tsb_program.specs.Devices.{Devices, OnlyTells, ReadsNothing}
use Rattle.tsb_program.specs.Failures.{Fails}
use Rattle.tsb_program.specs.declared.failure.Failure.{Failure}
use Rattle.tsb_program.specs.declared.failure.Failure.TheVariants.{Write}
use Rattle.tsb_lines.specs.Writes.{AppendsFront}
use Rattle.tsb_program.specs.tsb_lines.Seen.{Seen, Tells}
use Rattle.tsb_program.specs.Read.{HasNoPlan, HasPlan, IsFront, LogRead}
use Rattle.tsb_program.specs.Told.{FailsFile, TellsNoLog, TellsNoPlan, TellsWhy}
use Rattle.tsb_program.specs.declared.files.FileError.TheVariants as causes
use Rattle.tsb_program.specs.declared.read.PlanFault.{PlanFault}
use Rattle.tsb_program.specs.declared.clue.PlanClue.{PlanClue}
use Rattle.tsb_text.specs.tsb_plan.Plan.{Plan}
use Rattle.tsb_text.specs.tsb_plan_text.declared.error.PlanError.{PlanError}
use Rattle.tsb_program.specs.declared.read.ReadError.{ReadError}
use Rattle.tsb_program.specs.declared.read.ReadError.TheVariants as faults
use Rattle.tsb_event_text.specs.declared.times.Moment.{Moment}
use Rattle.tsb_program.specs.declared.read.RefusedLog.{RefusedLog}
use Rattle.tsb_log_text.specs.declared.log.LogRow.{LogRow}
use Rattle.tsb_field_display.specs.declared.error.ReplayError.{ReplayError}
use Rattle.tsb_field_display.specs.declared.error.ReplayError.TheVariants as replays
use Rattle.tsb_field_display.specs.Remaining.{changes_in, last_in}
use Rattle.tsb_field_display.specs.Stream.{ReadSo, ReplayRead}
use Rattle.tsb_field_display.specs.declared.replay.Replay.{Replay}
use Rattle.tsb_field_display.specs.declared.shown.Shown.{Shown}
use Rattle.tsb_text.specs.Blame.{Blames}
use Rattle.tsb_text.specs.declared.error.SessionError.{SessionError}
use Rattle.tsb_text.specs.declared.recording.Outcome.{Outcome}
use Rattle.tsb_text.specs.declared.recording.RecordOptions.{RecordOptions}
use Rattle.tsb_text.specs.recording.Ended as recorded
use Rattle.tsb_field_display.specs.Merge.{session_events}
use Rattle.tsb_field_display.specs.Texts.{IsLog, LogWritten}
use Rattle.tsb_field_display.specs.declared.events_error.EventsError.{EventsError}
use Rattle.tsb_field_display.specs.declared.events_error.EventsError.TheVariants as events
use Rattle.tsb_field_diagram.specs.Given.{Form}
use Rattle.tsb_field_diagram.specs.Page.{diagram_text}
use Rattle.tsb_field_diagram.specs.declared.ends.EndsError.{EndsError}
use Rattle.tsb_field_diagram.specs.declared.ends.GreenEnd.{GreenEnd}
use Rattle.tsb_field.specs.GreenEnds.{EndsIn, EndsRead, HasEnds, NoEnds, TellsNoEnds}
use Rattle.tsb_text.specs.tsb_types.declared.event.Event.{Event}
use Rattle.tsb_field_streams.specs.declared.error.FilterError.{FilterError}
use Rattle.tsb_field_streams.specs.declared.error.FilterError.TheVariants as filters
use Rattle.tsb_field_streams.specs.FaultLines.{filter_fault}
use Rattle.tsb_field_log.specs.Mapping.{wires_of}
use Rattle.tsb_field_log.specs.declared.inputs.Wire.{Wire}
use Rattle.tsb_field_streams.specs.Standing.{given_of}
use Rattle.tsb_field_streams.specs.Streaming.{Ended}
use Rattle.tsb_field_streams.specs.declared.filter.RowOptions.{RowOptions}
use Rattle.tsb_field_streams.specs.declared.filter.Summary.{Summary}
use Rattle.tsb_field.specs.LogEnds.{IsPassedOn, Logged, LoggedBeside, LoggedBy, LoggedWith, NoPlan, TellsFault}
use Rattle.tsb_words.specs.FieldWords.{LogWish}
use Rattle.tsb_field.specs.ReviewEnds.{Answered}
use Rattle.std.proofs.Math.Path.{fun_ext}
use Rattle.tsb_card.specs.declared.card.Card.{Card}
use Rattle.tsb_card.specs.declared.read.CardFault.{CardFault}
use Rattle.tsb_card.specs.Card.{permits}
use Rattle.tsb_card.specs.Lines.{others_text}
use Rattle.tsb_card.specs.Reading.{Gives, has_pair, pairs_of}
use Rattle.tsb_field.specs.CardEnds.{Carded, ReadCompared, fault_line, status_of}
use Rattle.tsb_field.specs.Ends.{Drawn, Draws, IsDiagram, LogNamed, NamesLog, NoRun, NotDrawn, RanSo, Recorded, RecordedOn, Scheduled, Stops, Told, ToldOn, Worked, Writes, WritesEnd, WritesMade, failure_by, name_of}

-- there is no log
pub stops : (fault : ReadError RefusedLog) (known : List ℕ → Option (List ℕ)) (path : Option (List ℕ)) (name : List ℕ) (status : ℕ) (told tells : Seen) → name ≡ name_of path → LogNamed (Err fault) known path
    → TellsNoLog name fault status told tells → Stops known path status told tells
stops (faults.Failed why) known None name status told tells is named line = absurd (true≢false (sym named))
stops (faults.Failed why) known (Some path) name status told tells is named line =
    inr (why, subst (λ (n : List ℕ). FailsFile n why status told tells) is line)
stops (faults.Refused fault) known path name status told tells is none line = inl (fault, none, line)

-- there is no plan, or no log beside one
no-plan-by : (why : ReadError PlanError) (clue : Option PlanClue) (status : ℕ) (plan rows : List ℕ) (files : List ℕ → Option (List ℕ)) (told tells : Seen) → HasNoPlan why clue (files plan)
    → TellsWhy plan why clue status told tells → NoRun plan rows files status told tells
no-plan-by (faults.Failed why) clue status plan rows files told tells has line = inr (inr (inl (why, line)))
no-plan-by (faults.Refused fault) clue status plan rows files told tells has line = inl (fault, clue, has, line)

pub no-plan : (fault : PlanFault) (status : ℕ) (plan rows : List ℕ) (files : List ℕ → Option (List ℕ)) (told tells : Seen) → HasNoPlan fault.why fault.clue (files plan)
    → TellsNoPlan plan fault status told tells → NoRun plan rows files status told tells
no-plan fault status plan rows files told tells has line = no-plan-by fault.why fault.clue status plan rows files told tells has line

-- there is no log in the file that is named
pub stops-there : (fault : ReadError RefusedLog) (status : ℕ) (rows : List ℕ) (files : List ℕ → Option (List ℕ)) (told tells : Seen) → LogRead (Err fault) (files rows)
    → TellsNoLog rows fault status told tells → Stops files (Some rows) status told tells
stops-there (faults.Failed why) status rows files told tells read line = inr (why, line)
stops-there (faults.Refused fault) status rows files told tells read line = inl (fault, read, line)

-- a record on a plan that was found
pub recorded-on : (status : ℕ) (from : Moment) (device : List ℕ) (options : RecordOptions) (found : Plan) (plan rows : List ℕ) (files : List ℕ → Option (List ℕ)) (before after : Devices) → HasPlan (files plan) found
    → RecordedOn status from device options found rows files before after → Recorded status from device options plan rows files before after
recorded-on status from device options found plan rows files before after has recorded = elim recorded [
  | inl ran ↦ inl (record { plan = found; log = ran.0; acts = true; is_wide = false }, has, ran.1, refl, refl, ran.2)
  | inr none ↦ inr (none.0, elim none.1 [ inl refused ↦ inr (inl (found, has, refused.0, refused.1, refused.2)) | inr failed ↦ inr (inr (inr (found, has, failed))) ])
]

-- what was handed on is the same
pub log-same : {A : Type 0} (made : Result (Vec ℕ A) EventsError) (from : Moment) (device other : List ℕ) (all more : List Event) → other ≡ device → more ≡ all → LogWritten made from other more
    → LogWritten made from device all
log-same made from device other all more same_device same_events written =
    subst (λ (d : List ℕ). LogWritten made from d all) same_device (subst (λ (es : List Event). LogWritten made from other es) same_events written)

-- the text that was made of these events
pub writes-made : {A : Type 0} (made : Result (Vec ℕ A) EventsError) (status : ℕ) (from : Moment) (device : List ℕ) (all : List Event) (old new told tells : Seen) → LogWritten made from device all
    → WritesMade made status old new told tells → Writes status from device all old new told tells
writes-made (Ok text) status from device all old new told tells log writes = inl (text.items, log.1, writes)
writes-made (Err events.Memory) status from device all old new told tells log writes = inr (inl writes)
writes-made (Err events.Late) status from device all old new told tells log writes = inr (inr (log, writes.0, writes.1))

-- what is seen of all devices once this of the one that is read
abbrev pub with_input : Devices → Seen → Devices
with_input before left = record { input = left; output = before.output; errors = before.errors }

-- the events of a session that was read
pub told-read : (is_wide : Bool) (from : Moment) (device : List ℕ) (rows : List LogRow) (replay : Replay) (status : ℕ) (before after : Devices) (left : Seen)
    → ReplayRead is_wide (Ok replay) left.failed before.input.bytes left.bytes
    → ReadsNothing (Writes status from device (session_events (changes_in replay) rows)) (with_input before left) after → ToldOn is_wide status from device rows before after
told-read is_wide from device rows replay status before after left so writes =
    let read : ReplayRead is_wide (Ok replay) after.input.failed before.input.bytes after.input.bytes =
    subst (λ (s : Seen). ReplayRead is_wide (Ok replay) s.failed before.input.bytes s.bytes) (sym writes.0) so in
    elim writes.1 [
      | inl text ↦ inl (inl (read.bytes, read.taken, read.so.0, read.so.1, text.0, subst (λ (shown : List Shown). IsLog from device (session_events shown rows) text.0) read.so.2.changes text.1, text.2))
      | inr none ↦ elim none [ inl memory ↦ inl (inr (read.bytes, read.taken, memory.0, inr (read.so.0, memory.1))) | inr late ↦ inr (read.bytes, read.taken, read.so.0, late.0, late.1, late.2) ]
    ]

-- beside the log that words name
pub told-on : (is_wide : Bool) (status : ℕ) (from : Moment) (device : List ℕ) (rows : List LogRow) (files : List ℕ → Option (List ℕ)) (path : Option (List ℕ)) (before after : Devices) → NamesLog files path rows
    → ToldOn is_wide status from device rows before after → Told is_wide status from device files path before after
told-on is_wide status from device rows files path before after names on = elim on [ inl drawn ↦ inr (inl (rows, names, drawn)) | inr late ↦ inr (inr late) ]

-- the picture of a session that was read
pub drawn-read : (is_wide : Bool) (form : Form) (ends : List GreenEnd) (rows : List LogRow) (replay : Replay) (status : ℕ) (before after : Devices) (left : Seen)
    → ReplayRead is_wide (Ok replay) left.failed before.input.bytes left.bytes
    → ReadsNothing (Draws (diagram_text form (record { changes = changes_in replay; last = last_in replay; rows = rows; ends = ends })) status) (with_input before left) after
    → Drawn is_wide (IsDiagram form ends) status rows before after
drawn-read is_wide form ends rows replay status before after left so draws =
    let read : ReplayRead is_wide (Ok replay) after.input.failed before.input.bytes after.input.bytes =
    subst (λ (s : Seen). ReplayRead is_wide (Ok replay) s.failed before.input.bytes s.bytes) (sym draws.0) so in
    elim draws.1 [
      | inl written ↦ inl (
        read.bytes,
        read.taken,
        read.so.0,
        read.so.1,
        diagram_text form (record { changes = changes_in replay; last = last_in replay; rows = rows; ends = ends }),
        (λ j. diagram_text form (record { changes = read.so.2.changes j; last = read.so.2.last j; rows = rows; ends = ends })),
        written,
      )
      | inr memory ↦ inr (read.bytes, read.taken, memory.0, inr (read.so.0, memory.1))
    ]

-- why the event log of a diagram gives no ends of greens
pub no-ends : (fault : ReadError EndsError) (from : Moment) (path : List ℕ) (files : List ℕ → Option (List ℕ)) (status : ℕ) (told tells : Seen)
    → EndsRead {A = Global} (Err fault) from (files path) → TellsNoEnds path fault status told tells → NoEnds from path files status told tells
no-ends (faults.Failed why) from path files status told tells has line = inr (inr (why, line))
no-ends (faults.Refused fault) from path files status told tells has line = inl (fault, has, line)

-- the event log of a diagram has no end of a green
pub has-none : (ends : List GreenEnd) (from : Moment) (known : Option (List ℕ)) → length ends ≡ 0 → HasEnds from known ends → HasEnds from known []
has-none [] from known none has = has
has-none (x ∷ xs) from known none has = absurd (omega (arith, none))

-- what came of the text of a file
pub ends-came : (result : Result (Vec GreenEnd Global) (ReadError EndsError)) (from : Moment) (known : Option (List ℕ)) (text : List ℕ)
    → IsFront known 67108865 text → EndsIn result from text → EndsRead result from known
ends-came (Ok ends) from known text front is = (text, front, is)
ends-came (Err (faults.Refused fault)) from known text front is = (text, front, is)
ends-came (Err (faults.Failed why)) from known text front is = tt

-- why a session was not read is printed
pub not-drawn : (is_wide : Bool) (fault : ReplayError) (failure : Failure) (failed : Bool) (left : Option (List ℕ)) (bytes : List ℕ) (status : ℕ) (told tells : Seen) → failure ≡ failure_by fault
    → ReadSo is_wide (Err fault) failed left bytes → Fails failure status told tells → NotDrawn failed bytes status told tells
not-drawn is_wide replays.Memory failure failed left bytes status told tells is so fails = inr (so, subst (λ (f : Failure). Fails f status told tells) is fails)
not-drawn is_wide replays.Read failure failed left bytes status told tells is so fails = inl (so, subst (λ (f : Failure). Fails f status told tells) is fails)

-- the same of a session whose events or picture were to be written
pub not-read : (is_wide : Bool) (Is : List Shown → Option ℕ → List LogRow → List ℕ → Type 0) (fault : ReplayError) (failure : Failure) (status : ℕ) (rows : List LogRow) (before after : Devices) (left : Seen)
    → failure ≡ failure_by fault → ReplayRead is_wide (Err fault) left.failed before.input.bytes left.bytes → OnlyTells (Fails failure status) (with_input before left) after
    → Drawn is_wide Is status rows before after
not-read is_wide Is fault failure status rows before after left is so fails =
    let read : ReplayRead is_wide (Err fault) after.input.failed before.input.bytes after.input.bytes =
    subst (λ (s : Seen). ReplayRead is_wide (Err fault) s.failed before.input.bytes s.bytes) (sym fails.0.0) so in
    inr (read.bytes, read.taken, fails.0.1, not-drawn is_wide fault failure after.input.failed after.input.bytes read.bytes status before.errors after.errors is read.so fails.1)

-- a run on this plan and log ended so, with these options, and then this was written, with no more read
pub ran-so : (result : Result Outcome SessionError) (status : ℕ) (from : Moment) (device : List ℕ) (options other : RecordOptions) (plan : Plan) (log : List LogRow) (before after : Devices) (left mid : Seen)
    → other ≡ options → after.input ≡ left
    → recorded.EndedFrom result other.on_fault other.form (record { plan = plan; log = log; acts = other.acts; is_wide = false }) other.clock before.input.bytes left.bytes before.errors.bytes mid.bytes
    → Blames result left.failed mid.failed mid.flushed → WritesEnd result status from device before.output after.output mid after.errors
    → RanSo status from device options (record { plan = plan; log = log; acts = options.acts; is_wide = false }) before after
ran-so result status from device options other plan log before after left mid asked same ended blames ends = (
  result,
  mid,
  subst (λ (s : Seen). recorded.EndedFrom result options.on_fault options.form (record { plan = plan; log = log; acts = options.acts; is_wide = false }) options.clock before.input.bytes s.bytes before.errors.bytes mid.bytes) (sym same)
      (subst (λ (o : RecordOptions). recorded.EndedFrom result o.on_fault o.form (record { plan = plan; log = log; acts = o.acts; is_wide = false }) o.clock before.input.bytes left.bytes before.errors.bytes mid.bytes) asked ended),
  subst (λ (s : Seen). Blames result s.failed mid.failed mid.flushed) (sym same) blames,
  ends,
)

-- a fault of a filter that is none of a device, nor of memory, is that of what was read
pub told-fault : (fault : FilterError) (status : ℕ) (told tells : Seen) → (fault ≡ filters.Memory → ⊥) → (fault ≡ filters.Read → ⊥) → (fault ≡ filters.Write → ⊥)
    → (status ≡ 1) × Tells told tells (filter_fault fault ++ 10 ∷ []) → TellsFault fault status told tells
told-fault filters.Memory status told tells memory read write line = absurd (memory refl)
told-fault filters.Read status told tells memory read write line = absurd (read refl)
told-fault filters.Write status told tells memory read write line = absurd (write refl)
told-fault fault status told tells memory read write line = line

-- a filter ended so with what it was given
pub ended-as : (result : Result Summary FilterError) (reading : RowOptions) (device other : Option (List ℕ)) (wires more : List Wire) (input left old new : Option (List ℕ)) → other ≡ device → more ≡ wires
    → Ended result (given_of reading other (wires_of more)) input left old new → Ended result (given_of reading device (wires_of wires)) input left old new
ended-as result reading device other wires more input left old new same_device same_wires ended =
    subst (λ (d : Option (List ℕ)). Ended result (given_of reading d (wires_of wires)) input left old new) same_device
    (subst (λ (ws : List Wire). Ended result (given_of reading other (wires_of ws)) input left old new) same_wires ended)

-- once a writer was asked to pass on
pub passed-on : {T E : Type 0} (r : Result T E) (s : Seen) → OnErr r (s.failed ≡ true) → OnOk r (s.flushed ≡ true) → IsPassedOn s
passed-on (Ok t) s blame flushed = inr flushed
passed-on (Err e) s blame flushed = inl blame

-- ## Events of outputs of detectors

-- a log was made, and then its end was reported, with no more read or answered
pub logged-by : (status : ℕ) (wish : LogWish) (before after : Devices) (left new : Seen) → (after.input ≡ left) × (after.output ≡ new)
    → Logged status wish before.input left before.output new before.errors after.errors → LoggedBy status wish before after
logged-by status wish before after left new silent logged =
    subst (λ (s : Seen). Logged status wish before.input s before.output after.output before.errors after.errors) (sym silent.0)
    (subst (λ (s : Seen). Logged status wish before.input left before.output s before.errors after.errors) (sym silent.1) logged)

-- a log was made beside a plan that was found
pub logged-beside : (plan : Plan) (path : List ℕ) (status : ℕ) (wish : LogWish) (files : List ℕ → Option (List ℕ)) (before after : Devices) → HasPlan (files path) plan
    → LoggedWith plan status wish before after → LoggedBeside path status wish files before after
logged-beside plan path status wish files before after has logged = elim logged [
  | inl telling ↦ inl (plan, has, telling)
  | inr none ↦ inr (none.0, inr (causes.Memory, none.1))
]

-- there is no plan
no-plan-here : (why : ReadError PlanError) (clue : Option PlanClue) (status : ℕ) (path : List ℕ) (files : List ℕ → Option (List ℕ)) (told tells : Seen) → HasNoPlan why clue (files path)
    → TellsWhy path why clue status told tells → NoPlan path files status told tells
no-plan-here (faults.Failed why) clue status path files told tells has line = inr (why, line)
no-plan-here (faults.Refused fault) clue status path files told tells has line = inl (fault, clue, has, line)

pub no-plan-at : (fault : PlanFault) (status : ℕ) (path : List ℕ) (files : List ℕ → Option (List ℕ)) (told tells : Seen) → HasNoPlan fault.why fault.clue (files path)
    → TellsNoPlan path fault status told tells → NoPlan path files status told tells
no-plan-at fault status path files told tells has line = no-plan-here fault.why fault.clue status path files told tells has line

-- ## Reviews

-- a review was not written whole, and a line says so
pub answer-failed : (status wanted : ℕ) (answer : List ℕ) (before after : Devices) (new : Seen) → new.failed ≡ true → AppendsFront before.output.bytes new.bytes answer
    → OnlyTells (Fails Write status) (record { input = before.input; output = new; errors = before.errors }) after → ReadsNothing (Answered status wanted answer) before after
answer-failed status wanted answer before after new failed front fails = (
  fails.0.0,
  inr (
    subst (λ (s : Seen). s.failed ≡ true) (sym fails.0.1) failed,
    subst (λ (s : Seen). AppendsFront before.output.bytes s.bytes answer) (sym fails.0.1) front,
    fails.1,
  ),
)

-- ## Schedules

-- there is no plan whose schedule is asked for
no-week-by : (why : ReadError PlanError) (clue : Option PlanClue) (status : ℕ) (path : List ℕ) (week : ℕ) (svg : Bool) (file : Option (List ℕ)) (old new told tells : Seen) → HasNoPlan why clue file → new ≡ old
    → TellsWhy path why clue status told tells → Scheduled status path week svg file old new told tells
no-week-by (faults.Failed why) clue status path week svg file old new told tells has same line = inr (inr (same, (why, line)))
no-week-by (faults.Refused fault) clue status path week svg file old new told tells has same line = inr (inl (fault, clue, has, same, line))

pub no-week : (fault : PlanFault) (status : ℕ) (path : List ℕ) (week : ℕ) (svg : Bool) (file : Option (List ℕ)) (old new told tells : Seen) → HasNoPlan fault.why fault.clue file → new ≡ old
    → TellsNoPlan path fault status told tells → Scheduled status path week svg file old new told tells
no-week fault status path week svg file old new told tells has same line = no-week-by fault.why fault.clue status path week svg file old new told tells has same line

-- ## Worksheets

-- there is no plan whose worksheet is asked for
no-worksheet-by : (why : ReadError PlanError) (clue : Option PlanClue) (status : ℕ) (path : List ℕ) (file : Option (List ℕ)) (old new told tells : Seen) → HasNoPlan why clue file → new ≡ old
    → TellsWhy path why clue status told tells → Worked status path file old new told tells
no-worksheet-by (faults.Failed why) clue status path file old new told tells has same line = inr (inr (same, (why, line)))
no-worksheet-by (faults.Refused fault) clue status path file old new told tells has same line = inr (inl (fault, clue, has, same, line))

pub no-worksheet : (fault : PlanFault) (status : ℕ) (path : List ℕ) (file : Option (List ℕ)) (old new told tells : Seen) → HasNoPlan fault.why fault.clue file → new ≡ old
    → TellsNoPlan path fault status told tells → Worked status path file old new told tells
no-worksheet fault status path file old new told tells has same line = no-worksheet-by fault.why fault.clue status path file old new told tells has same line

-- ## Cards

-- there is no plan whose card is asked for
no-card-by : (why : ReadError PlanError) (clue : Option PlanClue) (status : ℕ) (path : List ℕ) (against : Option (List ℕ)) (files : List ℕ → Option (List ℕ)) (old new told tells : Seen) → HasNoPlan why clue (files path)
    → new ≡ old → TellsWhy path why clue status told tells → Carded status path against files old new told tells
no-card-by (faults.Failed why) clue status path against files old new told tells has same line = inr (inr (same, (why, line)))
no-card-by (faults.Refused fault) clue status path against files old new told tells has same line = inr (inl (fault, clue, has, same, line))

pub no-card : (fault : PlanFault) (status : ℕ) (path : List ℕ) (against : Option (List ℕ)) (files : List ℕ → Option (List ℕ)) (old new told tells : Seen) → HasNoPlan fault.why fault.clue (files path)
    → new ≡ old → TellsNoPlan path fault status told tells → Carded status path against files old new told tells
no-card fault status path against files old new told tells has same line = no-card-by fault.why fault.clue status path against files old new told tells has same line

-- the card in a text was compared
pub card-compared : (wanted : ℕ → ℕ → Bool) (card : Card) (text : List ℕ) (status : ℕ) (before after : Devices) → Gives (Ok card) (pairs_of text)
    → ReadsNothing (Answered status (status_of wanted (permits card)) (others_text wanted (permits card))) before after → ReadsNothing (ReadCompared wanted (pairs_of text) status) before after
card-compared wanted card text status before after given compared =
    let same : permits card ≡ has_pair given.0 = fun_ext (λ a. fun_ext (λ b. given.2 a b)) in
    subst (λ (read : Result (List (ℕ × ℕ)) CardFault). ReadsNothing (ReadCompared wanted read status) before after) (sym given.1)
    (subst (λ (found : ℕ → ℕ → Bool). ReadsNothing (Answered status (status_of wanted found) (others_text wanted found)) before after) same compared)

-- a text is no card
pub no-card-read : (wanted : ℕ → ℕ → Bool) (fault : CardFault) (text line : List ℕ) (status : ℕ) (before after : Devices) → Gives (Err fault) (pairs_of text) → status ≡ 1 → line ≡ fault_line fault
    → OnlyTells (λ told tells. Tells told tells line) before after → ReadsNothing (ReadCompared wanted (pairs_of text) status) before after
no-card-read wanted fault text line status before after given one same told =
    subst (λ (read : Result (List (ℕ × ℕ)) CardFault). ReadsNothing (ReadCompared wanted read status) before after) (sym given)
    (told.0.0, (one, told.0.1, subst (λ (said : List ℕ). Tells before.errors after.errors said) same told.1))
