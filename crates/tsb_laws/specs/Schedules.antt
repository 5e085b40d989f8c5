-- What holds of schedules: a session whose schedule acts leaves the inputs of one without it in which `pattern` and `omit`
-- commands come at those ticks; nothing follows an input without a clock, or in a plan without a schedule; and a pattern
-- follows alone where the actions omit no other arrows.
use Rattle.std.specs.Prelude.{◌≡◌, ◌⊎◌, ℕ, false, if◌then◌else◌, List, [], ◌∷◌, Option, None}
use Rattle.tsb_step.specs.tsb_plan.Schedule.{has_schedule, omitted_by}
use Rattle.tsb_step.specs.Following.{following, one_or_none}
use Rattle.tsb_types.specs.Sets.{list_of}
use Rattle.tsb_types.specs.declared.limits.TheConstants.{OVERLAPS}
use Rattle.tsb_step.specs.declared.inputs.Input.{Input}
use Rattle.tsb_step.specs.declared.inputs.Input.TheVariants.{Omit, Pattern}
use Rattle.tsb_step.specs.tsb_machine.declared.commands.MachineCommand.TheVariants.{Apply}
use Rattle.tsb_step.specs.Runs.{replay}
use Rattle.tsb_types.specs.declared.refusal.Refusal.{Refusal}
use Rattle.tsb_text.specs.Answers.{Setup, followers}
use Rattle.tsb_text.specs.recording.Leaves.{LeavesOf}
use Rattle.tsb_text.specs.declared.task.Task.{Task}
use Rattle.tsb_text.specs.declared.task.Task.TheVariants.{Ask, Ticks}

-- the same, and the schedule does not act
abbrev pub quiet : Setup → Setup
quiet given = record given { acts = false }

-- what tasks leave, one after the other
abbrev pub LeaveAll : Setup → List Input → List Task → List Input → Type 0
LeaveAll given is [] new = new ≡ is
LeaveAll given is (t ∷ ts) new = (refusal : Option Refusal) × (mid : List Input) × LeavesOf given is t refusal mid × LeaveAll given mid ts new

-- a part of a task: it, some of its ticks, or a `pattern` or `omit` command
abbrev pub IsPart : Task → Task → Type 0
IsPart t u =
    (u ≡ t) ⊎ (((n m : ℕ) × (t ≡ Ticks n) × (u ≡ Ticks m)) ⊎ (((n : ℕ) × (u ≡ Ask (Apply (Pattern n)))) ⊎ ((list : ℕ) × (u ≡ Ask (Apply (Omit list))))))

-- each of these is one
abbrev pub ArePartsOf : Task → List Task → Type 0
ArePartsOf t [] = Unit {0}
ArePartsOf t (u ∷ us) = IsPart t u × ArePartsOf t us

-- a session with a schedule is the session without one in which those `pattern` and `omit` commands come at those ticks
abbrev pub SchedulesAreCommands : Type 0
SchedulesAreCommands = (given : Setup) (is new : List Input) (t : Task) (refusal : Option Refusal) → LeavesOf given is t refusal new
    → (ts : List Task) × ArePartsOf t ts × LeaveAll (quiet given) is ts new

-- without a clock nothing follows
abbrev pub NothingFollowsWithoutClock : Type 0
NothingFollowsWithoutClock = (given : Setup) (is : List Input) (i : Input) → (replay given.plan (i ∷ is)).start_moment ≡ None → followers given is i ≡ []

-- nor without a schedule
abbrev pub NothingFollowsWithoutSchedule : Type 0
NothingFollowsWithoutSchedule = (given : Setup) (is : List Input) (i : Input) → has_schedule (replay given.plan (i ∷ is)).plan ≡ false → followers given is i ≡ []

-- what follows an input where the schedule acts: the pattern that is selected, if one is
abbrev pub selected : Setup → List Input → Input → List Input
selected given is i = if given.acts then one_or_none (following (replay given.plan is) (replay given.plan (i ∷ is))) else []

-- it alone, where each action of the plan omits the arrows that are omitted: none, in a plan whose actions omit none
abbrev pub PatternsFollowAlone : Type 0
PatternsFollowAlone = (given : Setup) (is : List Input) (i : Input)
    → ((a : ℕ) → omitted_by (replay given.plan (i ∷ is)).plan a ≡ list_of OVERLAPS (replay given.plan (i ∷ is)).omitted) → followers given is i ≡ selected given is i
