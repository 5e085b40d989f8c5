-- What follows an input by itself, where another action of the schedule has come into force (profile): the pattern that
-- it selects, and then the arrows that it omits, where others are omitted. A run without a clock, and one of a plan without
-- a schedule, has no action in force.
use Rattle.std.specs.Prelude.{ℕ, ◌+◌, ◌==◌, Bool, if◌then◌else◌, List, [], ◌∷◌, Option, Some, None}
use Rattle.tsb_types.specs.declared.limits.TheConstants.{OVERLAPS}
use Rattle.tsb_types.specs.Sets.{list_of}
use Rattle.tsb_objects.specs.tsb_plan.Plan.{Plan}
use Rattle.tsb_objects.specs.tsb_plan.Schedule.{has_schedule, omitted_by, selected_by}
use Rattle.tsb_objects.specs.tsb_plan.Acting.{in_force}
use Rattle.tsb_step.specs.State.{State}
use Rattle.tsb_step.specs.declared.inputs.Input.{Input}
use Rattle.tsb_step.specs.declared.inputs.Input.TheVariants.{Pattern, Omit}

-- the action in force where tick number 0 has this moment: that of the moment of tick number `now`, 0 for none
abbrev pub action_from : Plan → Option ℕ → ℕ → Option ℕ
action_from plan None now = None
action_from plan (Some start) now = if has_schedule plan then Some (in_force plan (start + now)) else None

-- as the next tick begins
abbrev pub action : State → Option ℕ
action s = action_from s.plan s.start_moment s.now

-- the input for an action that has come into force, where this one was before
abbrev pub selects : Plan → Option ℕ → Option ℕ → Option Input
selects plan before None = None
selects plan None (Some a) = Some (Pattern (selected_by plan a))
selects plan (Some b) (Some a) = if b == a then None else Some (Pattern (selected_by plan a))

-- what follows an input that brought the controller from one state to another
abbrev pub following : State → State → Option Input
following before after = selects after.plan (action before) (action after)

-- what follows a pattern that the schedule selected: the list of the arrows that the action in force omits, where others
-- are omitted
abbrev pub omits : Plan → Option ℕ → (ℕ → Bool) → Option Input
omits plan None omitted = None
omits plan (Some a) omitted = if omitted_by plan a == list_of OVERLAPS omitted then None else Some (Omit (omitted_by plan a))

-- an input, if there is one
abbrev pub one_or_none : Option Input → List Input
one_or_none None = []
one_or_none (Some i) = i ∷ []

-- a pattern with what follows it, in order; the pattern changes neither the action in force nor which arrows are omitted
abbrev pub with_omits : State → Option Input → List Input
with_omits after None = []
with_omits after (Some i) = i ∷ one_or_none (omits after.plan (action after) after.omitted)

-- all that follows an input, in order
abbrev pub followers : State → State → List Input
followers before after = with_omits after (following before after)
