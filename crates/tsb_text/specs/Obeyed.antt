-- What has become of a bench and of a writer once a command was carried out.
use Rattle.std.specs.Prelude.{◌≡◌, ◌+◌, List, [], ◌∷◌, ◌++◌, ℕ, Bool, true, false, Option, Some, None, Result, Ok, Err}
use Rattle.tsb_bench.specs.Held.{Held, state_of, whole}
use Rattle.tsb_bench.specs.tsb_machine.declared.commands.Answer.{Answer}
use Rattle.tsb_bench.specs.tsb_machine.declared.commands.Answer.TheVariants as answers
use Rattle.tsb_bench.specs.tsb_machine.declared.commands.MachineCommand.TheVariants.{Apply}
use Rattle.tsb_bench.specs.tsb_step.declared.inputs.Input.{Input}
use Rattle.tsb_bench.specs.tsb_step.Events.{events_of, usual_after}
use Rattle.tsb_bench.specs.tsb_step.Play.{Cmd, Follows, IsRight, remaining_after}
use Rattle.tsb_bench.specs.tsb_step.Following.{following}
use Rattle.tsb_bench.specs.tsb_step.Step.{step}
use Rattle.tsb_bench.specs.tsb_step.Runs.{replay}
use Rattle.tsb_dialog.specs.Said.{Wrote}
use Rattle.tsb_bench.specs.tsb_history.declared.kinds.Kind.{Kind}
use Rattle.tsb_bench.specs.tsb_history.declared.kinds.Kind.TheVariants as kinds
use Rattle.tsb_text.specs.kept.Kept.{Keeping, Stock, kept_of, last_row}
use Rattle.tsb_text.specs.recording.Along.{telling}
use Rattle.tsb_text.specs.recording.Told.{Stored, Telling}
use Rattle.tsb_log_text.specs.Logs.{row_at}
use Rattle.tsb_bench.specs.tsb_step.declared.inputs.Input.TheVariants.{Tick}
use Rattle.tsb_bench.specs.tsb_step.declared.inputs.Input.TheVariants as inputs
use Rattle.tsb_lines.specs.declared.writes.WriteError.{WriteError}
use Rattle.tsb_log_text.specs.declared.log.LogRow.{LogRow}
use Rattle.tsb_objects.specs.tsb_plan.Plan.{Plan}
use Rattle.tsb_objects.specs.tsb_types.declared.event.Event.{Event}
use Rattle.tsb_objects.specs.tsb_types.declared.refusal.Refusal.{Refusal}
use Rattle.tsb_text.specs.declared.course.Mode.{Mode}
use Rattle.tsb_text.specs.declared.course.Mode.TheVariants.{Plain, Keeping as KeepsInputs, Telling as TellsEvents, Recording}
use Rattle.tsb_objects.specs.tsb_types.declared.row.Row.{Row}
use Rattle.tsb_text.specs.declared.rows.Rows.TheVariants.{Held as HeldRow}
use Rattle.tsb_text.specs.Rows.{rows_in}
use Rattle.tsb_text.specs.Answers.{Leads, Setup}
use Rattle.tsb_text.specs.Obeys.{Besides, if_told, news_of}

-- a bench, the rows that its ticks take, what is kept or recorded of its inputs, what is done with them besides, and
-- the events of the newest. Then whether the schedule of the plan acts, whether display lines are wide, and what is yet to
-- be taken after the newest input.
pub record OnCourse : Type 0 where
  pub bench : Held
  pub rows : List LogRow
  pub kept : Stock
  pub told : Stored
  pub mode : Mode
  pub news : List Event
  pub acts : Bool
  pub is_wide : Bool
  pub next : List Input

-- whether inputs tell their events
abbrev pub tells_in : Mode → Bool
tells_in TellsEvents = true
tells_in m = false

-- inputs are kept
abbrev pub Keeps : Mode → Type 0
Keeps Plain = ⊥
Keeps (Recording form) = ⊥
Keeps m = Unit {0}

-- inputs tell their events from now on, or not, where they are kept
abbrev pub mode_with : Bool → Mode → Mode
mode_with on Plain = Plain
mode_with on (Recording form) = Recording form
mode_with true m = TellsEvents
mode_with false m = KeepsInputs

-- what is said besides
abbrev pub besides_of : OnCourse → List ℕ → Besides
besides_of course echo = record { tells = tells_in course.mode; echo = echo }

-- what the newest input has told
abbrev pub news_in : OnCourse → List ℕ
news_in course = if_told (tells_in course.mode) course.news

-- the inputs that remain are kept, where they are
abbrev pub IsKept : Mode → Keeping → Plan → List Input → Type 0
IsKept Plain kept plan inputs = Unit {0}
IsKept (Recording form) kept plan inputs = Unit {0}
IsKept m kept plan inputs = kept ≡ kept_of plan inputs

-- an input that is no tick, or the next tick with the row of the log
abbrev pub HasRow : Setup → List Input → Input → Type 0
HasRow given is (Tick row) = row ≡ row_at given.log ((replay given.plan is).now + 1)
HasRow given is i = Unit {0}

-- each tick has the row of the log
abbrev pub AreOfLog : Setup → List Input → Type 0
AreOfLog given [] = Unit {0}
AreOfLog given (i ∷ is) = HasRow given is i × AreOfLog given is

-- where events are recorded, these are those of the inputs that remain, whose ticks have the rows of the log
abbrev pub IsTold : Mode → Telling → Setup → List Input → Type 0
IsTold (Recording form) told given is = (told ≡ telling form given.plan is) × AreOfLog given is
IsTold m told given is = Unit {0}

-- a tick is to have the row of the log, where events are recorded
abbrev pub IsNext : Mode → Setup → List Input → Input → Type 0
IsNext (Recording form) given is i = HasRow given is i
IsNext m given is i = Unit {0}

-- so of what the bench is asked
abbrev pub AsksNext : Mode → Setup → List Input → Cmd → Type 0
AsksNext m given is (Apply i) = IsNext m given is i
AsksNext m given is cmd = Unit {0}

-- each tick takes this row from now on
abbrev pub holding : Row → OnCourse → OnCourse
holding row course = record course { rows = rows_in (HeldRow row) }

-- display lines are wide from now on, or not
abbrev pub laid : Bool → OnCourse → OnCourse
laid is_wide course = record course { is_wide = is_wide }

-- a bench has come from power-up by these inputs, under what was given
pub record Stands (given : Setup) (log : List LogRow) (course : OnCourse) (inputs : List Input) : Type 0 where
  pub same : given.log ≡ log
  pub rows : course.rows ≡ log
  pub follows : Follows given.plan (whole course.bench) inputs
  pub keeps : IsKept course.mode course.kept.kept given.plan inputs
  pub tells : IsTold course.mode course.told.told given inputs
  pub acts : course.acts ≡ given.acts
  pub wide : course.is_wide ≡ given.is_wide

-- so of a bench whose inputs are not kept, as in a session
abbrev pub StandsPlain : Setup → List LogRow → OnCourse → List Input → Type 0
StandsPlain given log course inputs = Stands given log course inputs × (course.mode ≡ Plain)

-- an input was taken, and has told its events where they are told; or it was refused, and nothing has changed
abbrev pub Took : Result (Unit {0}) Refusal → Setup → List LogRow → OnCourse → List Input → Input → Type 0
Took (Ok u) given log course is i = IsRight given.plan is (Apply i) answers.Took × Stands given log course (i ∷ is)
    × (tells_in course.mode ≡ true → course.news ≡ events_of (usual_after (last_row is)) (replay given.plan is) i)
Took (Err e) given log course is i = IsRight given.plan is (Apply i) (answers.Refused e) × Stands given log course is

-- an input of this bench brings no other action of the schedule into force
abbrev pub FollowsNone : Held → Input → Type 0
FollowsNone bench i = following (state_of bench) (step (state_of bench) i) ≡ None

-- what is yet to be taken: a pattern, and then a list of arrows that are omitted
abbrev pub next_in : Option ℕ → Option ℕ → List Input
next_in None None = []
next_in None (Some list) = inputs.Omit list ∷ []
next_in (Some n) None = inputs.Pattern n ∷ []
next_in (Some n) (Some list) = inputs.Pattern n ∷ inputs.Omit list ∷ []

-- an input that follows by itself: a pattern, or a list of arrows that are omitted
abbrev pub IsFollower : Input → Type 0
IsFollower (inputs.Pattern n) = Unit {0}
IsFollower (inputs.Omit list) = Unit {0}
IsFollower i = ⊥

-- the first of what follows was taken out, if something does
abbrev pub IsPopped : Option Input → (old new : List Input) → Type 0
IsPopped None old new = (old ≡ []) × (new ≡ [])
IsPopped (Some i) old new = (old ≡ i ∷ new) × IsFollower i

-- what is yet to be taken once the first was: the rest; nothing more where it was refused
abbrev pub NextAfter : Result Bool Refusal → (old new : List Input) → Type 0
NextAfter (Ok done) [] new = (done ≡ false) × (new ≡ [])
NextAfter (Ok done) (i ∷ next) new = (done ≡ true) × (new ≡ next)
NextAfter (Err e) old new = new ≡ []

-- the first of what follows was taken, if something does; or it was refused, and nothing has changed
abbrev pub Followed : Result Bool Refusal → Setup → List LogRow → List Input → OnCourse → List Input → Type 0
Followed (Ok done) given log [] course is = Stands given log course is
Followed (Ok done) given log (i ∷ next) course is = Took (Ok tt) given log course is i
Followed (Err e) given log [] course is = ⊥
Followed (Err e) given log (i ∷ next) course is = Took (Err e) given log course is i

-- all that follows was taken, one after another, up to one that was refused
abbrev pub FollowedAll : Option Refusal → Setup → List LogRow → List Input → OnCourse → List Input → Type 0
FollowedAll stop given log next course is = (left : List Input) × Leads given is next stop left × Stands given log course left

-- the bench was asked, and answered right; an input that was taken has told its events
pub record Answered (given : Setup) (log : List LogRow) (course : OnCourse) (is : List Input) (cmd : Cmd) (answer : Answer) : Type 0 where
  pub right : IsRight given.plan is cmd answer
  pub stands : Stands given log course (remaining_after given.plan is cmd answer)
  pub tells : answer ≡ answers.Took → news_in course ≡ news_of (tells_in course.mode) given is cmd

-- the newest input is taken back, which was of this kind; without it this tick is in force. A tick is taken back by going
-- back to that tick, and any other input is dropped.
abbrev pub ForgetsNewest : {X : Type 0} → (ℕ → X → X) → (X → X → Type 0) → Kind → ℕ → X → X → Type 0
ForgetsNewest back Drops kinds.Tick tick old new = new ≡ back tick old
ForgetsNewest back Drops k tick old new = Drops old new

-- no more is kept than remains after this answer, where this tick is then in force
abbrev pub Forgets : {X : Type 0} → (ℕ → X → X) → (X → X → Type 0) → Answer → ℕ → X → X → Type 0
Forgets back Drops answers.Moved tick old new = new ≡ back tick old
Forgets back Drops (answers.Undone k) tick old new = ForgetsNewest back Drops k tick old new
Forgets back Drops a tick old new = new ≡ old

-- all of an answer was said, and the bench goes on from the inputs that it leaves; or a fault came within it
abbrev pub Done : Result (Option Refusal) WriteError → Setup → List LogRow → OnCourse → (List ℕ → Option Refusal → List Input → Type 0)
    → Option (List ℕ) → Option (List ℕ) → List ℕ → List ℕ → Type 0
Done (Ok refusal) given log course IsAnswer old new waited waits = (left : List Input)
    × Stands given log course left × Wrote old new waited waits (λ text. IsAnswer text refusal left)
Done (Err e) given log course IsAnswer old new waited waits =
    Wrote old new waited waits (λ text. (rest : List ℕ) × (refusal : Option Refusal) × (left : List Input) × IsAnswer (text ++ rest) refusal left)
