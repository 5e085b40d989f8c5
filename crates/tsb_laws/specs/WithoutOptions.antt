-- Options at 0, over runs: a run in which every option is 0 is that of the controller whose definitions have no
-- options, which PlainStep has. The laws here are the contract of a function in src/options.rt, and proved there.
use Rattle.std.specs.Prelude.{◌≡◌, ℕ, Bool, true, false, not, ◌&&◌, ◌||◌, List, [], ◌∷◌}
use Rattle.tsb_step.specs.tsb_plan.declared.object.Object.{Object}
use Rattle.tsb_step.specs.tsb_plan.declared.object.Object.TheVariants.{PhaseDynamicMaxLimit, PhaseDynamicMaxStep, OverlapType, OverlapModifierPhases, CoordForceMode, CoordMaximumMode, PatternPermissiveTime, PatternLeadLag, PhasePedestrianRecycle, CoordCorrectionMode, CoordCorrectionLimit, OverlapAcrossRings, PreemptChoosesAnew, CoordReference, TimeBaseScheduleMonth, TimeBaseScheduleDay, TimeBaseScheduleDate, TimeBaseScheduleDayPlan, DayPlanHour, DayPlanMinute, DayPlanActionNumber, TimebaseAscPattern, OverlapArrowDelay, OverlapArrowPedestrian, OverlapTrailGreen, OverlapTrailYellow, OverlapTrailRed, ActionArrowOmit, ChannelControlSource, ChannelControlType}
use Rattle.tsb_step.specs.tsb_plan.declared.version.Version.{Version}
use Rattle.tsb_step.specs.tsb_plan.declared.version.Version.TheVariants.{One, Two, Three}
use Rattle.tsb_step.specs.tsb_plan.Objects.{is_structural, since}
use Rattle.tsb_step.specs.tsb_plan.Plan.{Plan}
use Rattle.tsb_step.specs.declared.inputs.Input.{Input}
use Rattle.tsb_step.specs.declared.inputs.Input.TheVariants.{Set}
use Rattle.tsb_step.specs.State.{State}
use Rattle.tsb_step.specs.Signs.{display, field, local, IsInStep}
use Rattle.tsb_step.specs.Runs.{replay}
use Rattle.tsb_laws.specs.Differing.{DifferIn, IsSameBut}
use Rattle.tsb_laws.specs.Options.{HasNoOptions}
use Rattle.tsb_laws.specs.PlainStep as plain

-- ## The options

-- the objects that change nothing only while they are 0
abbrev pub is_option : Object → Bool
is_option PhaseDynamicMaxLimit = true
is_option OverlapType = true
is_option OverlapModifierPhases = true
is_option CoordForceMode = true
is_option CoordMaximumMode = true
is_option PatternPermissiveTime = true
is_option PatternLeadLag = true
is_option PhasePedestrianRecycle = true
is_option CoordCorrectionMode = true
is_option OverlapAcrossRings = true
is_option PreemptChoosesAnew = true
is_option CoordReference = true
is_option OverlapTrailGreen = true
is_option OverlapTrailYellow = true
is_option o = false

-- with those that are read by one of these alone, and so need not be 0: the step by the limit of the dynamic maximum, the
-- correction limit by the correction mode; what arrows have by the type of overlaps, and the trailing red clearance by
-- the trailing green
abbrev pub is_of_options : Object → Bool
is_of_options PhaseDynamicMaxStep = true
is_of_options CoordCorrectionLimit = true
is_of_options OverlapArrowDelay = true
is_of_options OverlapArrowPedestrian = true
is_of_options OverlapTrailRed = true
is_of_options o = is_option o

-- the objects of the schedule: the controller reads them in the rules K24 to K27 alone, with or without options, and the
-- arrows that an action omits in none
abbrev pub is_of_schedule : Object → Bool
is_of_schedule TimeBaseScheduleMonth = true
is_of_schedule TimeBaseScheduleDay = true
is_of_schedule TimeBaseScheduleDate = true
is_of_schedule TimeBaseScheduleDayPlan = true
is_of_schedule DayPlanHour = true
is_of_schedule DayPlanMinute = true
is_of_schedule DayPlanActionNumber = true
is_of_schedule TimebaseAscPattern = true
is_of_schedule ActionArrowOmit = true
is_of_schedule o = false

-- the channels of a conflict monitor: the controller reads them nowhere
abbrev pub is_of_card : Object → Bool
is_of_card ChannelControlSource = true
is_of_card ChannelControlType = true
is_of_card o = false

-- version 1 of plan texts has it
abbrev pub is_of_version_1 : Version → Bool
is_of_version_1 One = true
is_of_version_1 Two = false
is_of_version_1 Three = false

-- With those of the schedule and of the card, those are the objects that version 1 of plan texts does not have, and no
-- others.
abbrev pub OptionsAreAllThatVersion1Lacks : Type 0
OptionsAreAllThatVersion1Lacks = (o : Object) → (is_of_options o || (is_of_schedule o || is_of_card o)) ≡ not (is_of_version_1 (since o))

-- each option is 0 in the plan
pub record HasEachAtZero (plan : Plan) : Type 0 where
  pub options : HasNoOptions plan
  pub phase_dynamic_max_limit : (p : ℕ) → plan.value PhaseDynamicMaxLimit p ≡ 0
  pub overlap_type : (o : ℕ) → plan.value OverlapType o ≡ 0
  pub overlap_modifier_phases : (o : ℕ) → plan.value OverlapModifierPhases o ≡ 0
  pub overlap_trail_green : (o : ℕ) → plan.value OverlapTrailGreen o ≡ 0
  pub overlap_trail_yellow : (o : ℕ) → plan.value OverlapTrailYellow o ≡ 0

-- the input sets no option to another value than 0
abbrev pub SetsNoOption : Input → Type 0
SetsNoOption (Set station id v) = is_option id.object ≡ true → v ≡ 0
SetsNoOption i = Unit {0}

-- no input of the list does
abbrev pub SetNoOption : List Input → Type 0
SetNoOption [] = Unit {0}
SetNoOption (i ∷ is) = SetsNoOption i × SetNoOption is

-- ## The run

-- A run from a plan whose options are 0 is that of the controller without options, state by state. It is over inputs of
-- every kind, and none sets an option.
abbrev pub RunsAreThoseWithoutOptions : Type 0
RunsAreThoseWithoutOptions = (plan : Plan) (is : List Input) → HasEachAtZero plan → SetNoOption is →
    replay plan is ≡ plain.replay plan is

-- what a state shows is what that controller shows, and its local counter is in step
pub record ShowsTheSameWithoutOptions (s : State) : Type 0 where
  pub heads : display s ≡ plain.display s
  pub lamps : field s ≡ plain.field s
  pub counter : local s ≡ plain.local s
  pub in_step : IsInStep s

-- So it is in each state of such a run.
abbrev pub ShowWhatIsShownWithoutOptions : Type 0
ShowWhatIsShownWithoutOptions = (plan : Plan) (is : List Input) → HasEachAtZero plan → SetNoOption is →
    ShowsTheSameWithoutOptions (replay plan is)

-- ## That the controller without options reads none

-- the input sets none of the four options of overlaps. They are of the structure: a commit that changes one makes the
-- rings forget what they started last
abbrev pub SetsNoOverlapOption : Input → Type 0
SetsNoOverlapOption (Set station id v) = (is_of_options id.object && is_structural id.object) ≡ false
SetsNoOverlapOption i = Unit {0}

-- no input of the list does
abbrev pub SetNoOverlapOption : List Input → Type 0
SetNoOverlapOption [] = Unit {0}
SetNoOverlapOption (i ∷ is) = SetsNoOverlapOption i × SetNoOverlapOption is

-- Two plans that differ in options alone, whatever these are, give the same run of that controller: states that differ
-- in them alone, over inputs of every kind. Any other option may be set.
abbrev pub ReadsNoOption : Type 0
ReadsNoOption = (x y : Plan) (is : List Input) → DifferIn is_of_options x y → SetNoOverlapOption is →
    IsSameBut is_of_options (plain.replay x is) (plain.replay y is)

-- what it shows of two states
pub record ShowTheSameWithoutOptions (s t : State) : Type 0 where
  pub heads : plain.display t ≡ plain.display s
  pub lamps : plain.field t ≡ plain.field s
  pub counter : plain.local t ≡ plain.local s

-- Nor does it show one.
abbrev pub ShowsNoOption : Type 0
ShowsNoOption = (x y : Plan) (is : List Input) → DifferIn is_of_options x y → SetNoOverlapOption is →
    ShowTheSameWithoutOptions (plain.replay x is) (plain.replay y is)

-- ## What an option alone reads

-- So two plans whose options are 0 give the same run of the controller itself, whatever they have of the five objects
-- that an option alone reads. These may be set.
abbrev pub OptionsAloneRead : Type 0
OptionsAloneRead = (x y : Plan) (is : List Input) → HasEachAtZero x → HasEachAtZero y → DifferIn is_of_options x y →
    SetNoOption is → SetNoOverlapOption is → IsSameBut is_of_options (replay x is) (replay y is)
