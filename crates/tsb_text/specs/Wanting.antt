-- When there is no memory for an input of a course.
use Rattle.std.specs.Prelude.{◌⊎◌, ◌<◌, ◌+◌, ℕ, List, [], ◌∷◌}
use Rattle.tsb_bench.specs.Cabinet.{most_cells}
use Rattle.tsb_bench.specs.Held.{state_of}
use Rattle.tsb_bench.specs.tsb_history.History.{record_size}
use Rattle.tsb_bench.specs.tsb_machine.declared.commands.MachineCommand.TheVariants.{Apply}
use Rattle.tsb_bench.specs.tsb_step.Events.{events_of}
use Rattle.tsb_bench.specs.tsb_step.Play.{Cmd}
use Rattle.tsb_bench.specs.tsb_step.Step.{kind_of}
use Rattle.tsb_bench.specs.tsb_step.declared.inputs.Input.{Input}
use Rattle.tsb_bench.specs.tsb_step.declared.inputs.Input.TheVariants.{Tick, Pattern, Omit}
use Rattle.tsb_log_text.specs.Logs.{row_at}
use Rattle.tsb_text.specs.declared.course.Mode.{Mode}
use Rattle.tsb_text.specs.declared.course.Mode.TheVariants.{Plain, Keeping, Telling, Recording}
use Rattle.tsb_text.specs.declared.task.Task.{Task}
use Rattle.tsb_text.specs.declared.task.Task.TheVariants.{Ticks, Ask}
use Rattle.tsb_text.specs.Obeyed.{OnCourse}
use Rattle.tsb_text.specs.kept.Kept.{LacksRoom}
use Rattle.tsb_text.specs.recording.Along.{Wants}
use Rattle.tsb_text.specs.recording.Recording.{noted_at}

-- there is no room for what becomes of an input besides: to keep it, or for the events that are recorded of it
abbrev pub LacksBeside : Mode → OnCourse → Input → Type 0
LacksBeside Plain course i = ⊥
LacksBeside Keeping course i = LacksRoom i course.kept
LacksBeside Telling course i = LacksRoom i course.kept
LacksBeside (Recording form) course i = Wants i (events_of (noted_at form course.rows course.bench.tick) (state_of course.bench) i) course.told

-- there is no memory for an input: the bench has no room for its record, or there is none for what becomes of it besides
abbrev pub IsWanting : OnCourse → Input → Type 0
IsWanting course i = (course.bench.room < record_size (most_cells (kind_of i))) ⊎ LacksBeside course.mode course i

-- the next tick, with its row
abbrev pub tick_of : OnCourse → Input
tick_of course = Tick (row_at course.rows (course.bench.tick + 1))

-- there is no memory for the input that the bench is asked to take
abbrev pub WantsTo : OnCourse → Cmd → Type 0
WantsTo course (Apply i) = IsWanting course i
WantsTo course cmd = ⊥

-- there is no memory for a pattern, or for a list of arrows that are omitted
abbrev pub WantsFollower : OnCourse → Type 0
WantsFollower course = ((n : ℕ) × IsWanting course (Pattern n)) ⊎ ((list : ℕ) × IsWanting course (Omit list))

-- there is no memory for an input that follows: a pattern, or arrows that are omitted
abbrev pub WantsOne : OnCourse → Input → Type 0
WantsOne course (Pattern n) = IsWanting course (Pattern n)
WantsOne course (Omit list) = IsWanting course (Omit list)
WantsOne course i = ⊥

-- there is no memory for one of the inputs that follow
abbrev pub WantsAfter : OnCourse → List Input → Type 0
WantsAfter course [] = ⊥
WantsAfter course (i ∷ next) = WantsOne course i ⊎ WantsAfter course next

-- there is no memory for an input that is asked: for the next tick, or for another input; or for one that follows
abbrev pub WantsFor : OnCourse → Task → Type 0
WantsFor course (Ticks n) = IsWanting course (tick_of course) ⊎ WantsFollower course
WantsFor course (Ask cmd) = WantsTo course cmd ⊎ WantsFollower course
WantsFor course task = ⊥
