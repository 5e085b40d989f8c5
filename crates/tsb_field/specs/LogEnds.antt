-- How `log` ends, and what it has then written on its output and of faults.
--
-- Of each stream there is what is seen before and after: `input` and `left`, `old` and `new`, `told` and `tells`. `before`
-- and `after` are what is seen of all of them.
use Rattle.std.specs.Prelude.{◌≡◌, ◌⊎◌, ℕ, ◌==◌, Bool, true, false, not, ◌&&◌, if◌then◌else◌, List, [], ◌∷◌, ◌++◌, Option, Some, None, Result, Ok, Err, codes}
use Rattle.std.specs.Io.KnownBytes.{Keeps}
use Rattle.tsb_program.specs.tsb_lines.Seen.{Seen, Tells}
use Rattle.tsb_program.specs.Devices.{Devices, OnlyTells}
use Rattle.tsb_program.specs.Failures.{Fails}
use Rattle.tsb_program.specs.declared.failure.Failure.{Failure}
use Rattle.tsb_program.specs.declared.failure.Failure.TheVariants.{Memory, Input, Write}
use Rattle.tsb_program.specs.Read.{HasPlan, RefusesPlanAt}
use Rattle.tsb_program.specs.Told.{FailsToReadFile, RefusesAt}
use Rattle.tsb_program.specs.declared.clue.PlanClue.{PlanClue}
use Rattle.tsb_text.specs.tsb_plan.Plan.{Plan}
use Rattle.tsb_text.specs.tsb_plan_text.declared.error.PlanError.{PlanError}
use Rattle.tsb_field_log.specs.Mapping.{wires_of}
use Rattle.tsb_field_streams.specs.Blame.{Blames, OnMemory}
use Rattle.tsb_field_streams.specs.FaultLines.{filter_fault}
use Rattle.tsb_field_streams.specs.Filtering.{Given}
use Rattle.tsb_field_streams.specs.Streaming.{Ended}
use Rattle.tsb_field_streams.specs.declared.error.FilterError.{FilterError}
use Rattle.tsb_field_streams.specs.declared.error.FilterError.TheVariants as ends
use Rattle.tsb_field_streams.specs.declared.filter.Summary.{Summary}
use Rattle.tsb_words.specs.FieldWords.{LogWish}
use Rattle.tsb_words.specs.declared.field_files.Manner.{Manner}
use Rattle.tsb_field.specs.LogLines.{IsReport, is_lost, status_of}
use Rattle.tsb_field.specs.Twice.{twice_text}

-- the device that has failed, where one has: of both standard input
abbrev pub failed_device : (read_failed write_failed : Bool) → Option Failure
failed_device true write_failed = Some Input
failed_device false true = Some Write
failed_device false false = None

-- what ended a filter is told: memory or a device, or with 1 the fault of what was read, for which there always is memory
abbrev pub TellsFault : FilterError → ℕ → Seen → Seen → Type 0
TellsFault ends.Memory status told tells = Fails Memory status told tells
TellsFault ends.Read status told tells = Fails Input status told tells
TellsFault ends.Write status told tells = Fails Write status told tells
TellsFault fault status told tells = (status ≡ 1) × Tells told tells (filter_fault fault ++ 10 ∷ [])

-- what a program ends with that was to end with this status: with 3, where all was well but a line was not written
abbrev pub status_told : ℕ → Bool → ℕ
status_told status failed = if status == 0 && failed then 3 else status

-- what was read is told, where there is memory for that
abbrev pub TellsReport : Manner → Summary → ℕ → Seen → Seen → Type 0
TellsReport manner summary status told tells =
    ((text : List ℕ) × IsReport manner summary text × (status ≡ status_told (status_of manner summary) tells.failed) × Tells told tells text) ⊎ Fails Memory status told tells

-- a text without a header and a row is refused; of another it is told what was read
abbrev pub TellsFound : Bool → Manner → Summary → ℕ → Seen → Seen → Type 0
TellsFound true manner summary status told tells =
    (status ≡ 1) × Tells told tells (codes "events: no header and no row (do commas, semicolons or tabs part its fields?)\n")
TellsFound false manner summary status told tells = TellsReport manner summary status told tells

-- what was read is told
abbrev pub TellsSummary : Manner → Summary → ℕ → Seen → Seen → Type 0
TellsSummary manner summary status told tells = TellsFound (is_lost summary.left_out) manner summary status told tells

-- what was read is told, or that the last of the log was not passed on
abbrev pub TellsRead : Manner → Summary → Bool → ℕ → Seen → Seen → Type 0
TellsRead manner summary true status told tells = Fails Write status told tells
TellsRead manner summary false status told tells = TellsSummary manner summary status told tells

-- what ended a filter is told: the device that has failed, and where none has, what was read or its fault. The last says
-- whether the output has failed since.
abbrev pub TellsLogEnd : Manner → Result Summary FilterError → Option Failure → Bool → ℕ → Seen → Seen → Type 0
TellsLogEnd manner result (Some failure) failed status told tells = Fails failure status told tells
TellsLogEnd manner (Ok summary) None failed status told tells = TellsRead manner summary failed status told tells
TellsLogEnd manner (Err fault) None failed status told tells = TellsFault fault status told tells

-- all that was written was passed on, or the writer has failed
abbrev pub IsPassedOn : Seen → Type 0
IsPassedOn seen = (seen.failed ≡ true) ⊎ (seen.flushed ≡ true)

-- what words ask a filter for
abbrev pub given_by : LogWish → Given
given_by wish = record {
  from = wish.from.nanos;
  device = wish.device;
  times = wish.manner.times;
  zone = wish.manner.zone;
  window = wish.manner.window;
  wires = wires_of wish.wires;
}

-- the log of what was read is written, or after a fault a prefix of it, and passed on before anything is told: a device by
-- which the filter ended, exactly where one has failed. Memory ends it only before anything is read.
abbrev pub Logged : ℕ → LogWish → (input left old new told tells : Seen) → Type 0
Logged status wish input left old new told tells =
    (result : Result Summary FilterError) × (mid : Seen) × Ended result (given_by wish) input.bytes left.bytes old.bytes mid.bytes × Keeps mid.bytes new.bytes
    × (input.failed ≡ false → old.failed ≡ false → Blames result left.failed mid.failed) × OnMemory result input left old mid
    × IsPassedOn new × TellsLogEnd wish.manner result (failed_device left.failed mid.failed) new.failed status told tells

-- ## Events of outputs of detectors

-- a text is told, or nothing more
abbrev pub TellsWhere : Bool → List ℕ → Seen → Seen → Type 0
TellsWhere true text told tells = Tells told tells text
TellsWhere false text told tells = tells ≡ told

-- the same by all devices
abbrev pub LoggedBy : ℕ → LogWish → (before after : Devices) → Type 0
LoggedBy status wish before after = Logged status wish before.input after.input before.output after.output before.errors after.errors

-- a log was made as without a plan, and where it ended well and all was told, this was told behind it, or not written
abbrev pub LoggedTelling : List ℕ → ℕ → LogWish → (before after : Devices) → Type 0
LoggedTelling text status wish before after =
    (wrote : ℕ) × (mid : Devices) × LoggedBy wrote wish before mid × OnlyTells (TellsWhere (wrote == 0 && not mid.errors.failed) text) mid after
    × (status ≡ status_told wrote after.errors.failed)

-- why there is no plan is told: it is refused with 1, or its file or memory failed
abbrev pub NoPlan : List ℕ → (List ℕ → Option (List ℕ)) → ℕ → Seen → Seen → Type 0
NoPlan path files status told tells =
    ((fault : PlanError) × (clue : Option PlanClue) × RefusesPlanAt (files path) fault clue × RefusesAt fault clue status told tells)
    ⊎ FailsToReadFile path status told tells

-- a log was made beside this plan, and the detectors told whose delay and extension act twice; or there is no memory, with
-- nothing read and nothing written
abbrev pub LoggedWith : Plan → ℕ → LogWish → (before after : Devices) → Type 0
LoggedWith plan status wish before after =
    LoggedTelling (twice_text (wires_of wish.wires) plan) status wish before after
    ⊎ OnlyTells (Fails Memory status) before after

-- a log was made beside the plan in this file, and the detectors told whose delay and extension act twice; or there is no
-- plan, or no memory, with nothing read and nothing written
abbrev pub LoggedBeside : List ℕ → ℕ → LogWish → (List ℕ → Option (List ℕ)) → (before after : Devices) → Type 0
LoggedBeside path status wish files before after =
    ((plan : Plan) × HasPlan (files path) plan × LoggedTelling (twice_text (wires_of wish.wires) plan) status wish before after)
    ⊎ OnlyTells (NoPlan path files status) before after

-- how `log` ended, where words name this plan or none
abbrev pub LoggedOn : Option (List ℕ) → ℕ → LogWish → (List ℕ → Option (List ℕ)) → (before after : Devices) → Type 0
LoggedOn None status wish files before after = LoggedBy status wish before after
LoggedOn (Some path) status wish files before after = LoggedBeside path status wish files before after
