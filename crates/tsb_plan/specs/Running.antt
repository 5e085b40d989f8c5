-- What a plan says while a pattern runs, and in free operation: split modes, coordinated phases, the sequence in
-- effect, and by what time or maximum greens end. Names are those of NTCIP 1202; the numbers of split modes, force
-- modes and maximum modes are the profile's own. Times are in tenths of a second.
use Rattle.std.specs.Prelude.{ℕ, ◌-◌, ◌*◌, ◌==◌, Bool, true, false, not, ◌&&◌, ◌||◌, if◌then◌else◌, Option, Some, None}
use Rattle.tsb_types.specs.Lists.{or_number}
use Rattle.tsb_plan.specs.declared.object.Object.TheVariants.{CoordMaximumMode, PhaseMaximum1, PhaseMaximum2}
use Rattle.tsb_plan.specs.declared.plan.patterns.SplitMode.{SplitMode}
use Rattle.tsb_plan.specs.declared.plan.patterns.SplitMode.TheVariants.{NoMode, MinimumRecall, MaximumRecall, PedestrianRecall, MaximumAndPedestrianRecall, Omitted}
use Rattle.tsb_plan.specs.Parts.{is_used, split_of, sequence_of, split_time, split_mode, is_coordinated, floats}
use Rattle.tsb_plan.specs.Plan.{Plan, has_minimum_recall, has_maximum_recall, has_pedestrian_recall, yellow_change, red_clear}

-- the pattern that runs: the one that is selected, if it is used; with none the controller is in free operation
abbrev pub running : Plan → Option ℕ → Option ℕ
running plan None = None
running plan (Some n) = if is_used plan n then Some n else None

-- below, `runs` is the pattern that runs

-- the split table in effect
abbrev pub split_in_effect : Plan → Option ℕ → Option ℕ
split_in_effect plan None = None
split_in_effect plan (Some n) = split_of plan n

-- the sequence in effect: the pattern's, or sequence 1 in free operation
abbrev pub sequence_in_effect : Plan → Option ℕ → ℕ
sequence_in_effect plan None = 1
sequence_in_effect plan (Some n) = or_number (sequence_of plan n) 1

-- a phase's split mode in a split table
abbrev pub mode_in : Plan → Option ℕ → ℕ → SplitMode
mode_in plan None p = NoMode
mode_in plan (Some t) p = split_mode plan t p

-- the split mode of p in effect
abbrev pub mode_in_effect : Plan → Option ℕ → ℕ → SplitMode
mode_in_effect plan runs p = mode_in plan (split_in_effect plan runs) p

-- p is a coordinated phase of a split table; of none where no table is in effect
abbrev pub coordinates_in : Plan → Option ℕ → ℕ → Bool
coordinates_in plan None p = false
coordinates_in plan (Some t) p = is_coordinated plan t p

-- p is a coordinated phase of the pattern that runs
abbrev pub is_coordinated_now : Plan → Option ℕ → ℕ → Bool
is_coordinated_now plan runs p = coordinates_in plan (split_in_effect plan runs) p

-- split mode 5: while the pattern runs, no call and no dual entry brings the phase into service
abbrev pub omits : SplitMode → Bool
omits Omitted = true
omits NoMode = false
omits MinimumRecall = false
omits MaximumRecall = false
omits PedestrianRecall = false
omits MaximumAndPedestrianRecall = false

-- split mode 1: minimum recall while the pattern runs
abbrev pub recalls_minimum : SplitMode → Bool
recalls_minimum MinimumRecall = true
recalls_minimum NoMode = false
recalls_minimum MaximumRecall = false
recalls_minimum PedestrianRecall = false
recalls_minimum MaximumAndPedestrianRecall = false
recalls_minimum Omitted = false

-- split modes 2 and 4: maximum recall while the pattern runs
abbrev pub recalls_maximum : SplitMode → Bool
recalls_maximum MaximumRecall = true
recalls_maximum MaximumAndPedestrianRecall = true
recalls_maximum NoMode = false
recalls_maximum MinimumRecall = false
recalls_maximum PedestrianRecall = false
recalls_maximum Omitted = false

-- split modes 3 and 4: pedestrian recall while the pattern runs
abbrev pub recalls_pedestrians : SplitMode → Bool
recalls_pedestrians PedestrianRecall = true
recalls_pedestrians MaximumAndPedestrianRecall = true
recalls_pedestrians NoMode = false
recalls_pedestrians MinimumRecall = false
recalls_pedestrians MaximumRecall = false
recalls_pedestrians Omitted = false

-- no call and no dual entry brings p into service: its split mode in effect omits it. A preempt does, where p is in its
-- target
abbrev pub is_omitted_now : Plan → Option ℕ → ℕ → Bool
is_omitted_now plan runs p = omits (mode_in_effect plan runs p)

-- minimum recall: the phase's own, its split mode's, or that of a coordinated phase
abbrev pub is_on_minimum_recall : Plan → Option ℕ → ℕ → Bool
is_on_minimum_recall plan runs p =
    has_minimum_recall plan p || recalls_minimum (mode_in_effect plan runs p) || is_coordinated_now plan runs p

-- maximum recall: the phase's own, or its split mode's
abbrev pub is_on_maximum_recall : Plan → Option ℕ → ℕ → Bool
is_on_maximum_recall plan runs p = has_maximum_recall plan p || recalls_maximum (mode_in_effect plan runs p)

-- pedestrian recall: the phase's own, or its split mode's
abbrev pub is_on_pedestrian_recall : Plan → Option ℕ → ℕ → Bool
is_on_pedestrian_recall plan runs p = has_pedestrian_recall plan p || recalls_pedestrians (mode_in_effect plan runs p)

-- the green that split table t has for p: its split less yellow change and red clearance, 0 where these are longer
abbrev pub split_green : Plan → ℕ → ℕ → ℕ
split_green plan t p = split_time plan t p - yellow_change plan p - red_clear plan p

-- with floating force-off, the green after which p is forced off, by a split table; none for a coordinated phase
abbrev pub floating_in : Plan → Option ℕ → ℕ → Option ℕ
floating_in plan None p = None
floating_in plan (Some t) p = if floats plan && not (is_coordinated plan t p) then Some (split_green plan t p) else None

-- by that of the pattern that runs; none in free operation
abbrev pub floating_time : Plan → Option ℕ → ℕ → Option ℕ
floating_time plan runs p = floating_in plan (split_in_effect plan runs) p

-- the maximum of p by the maximum mode; none with mode 0
abbrev pub maximum_by_mode : Plan → ℕ → Option ℕ
maximum_by_mode plan p =
    if plan.value CoordMaximumMode 1 == 1 then Some (10 * plan.value PhaseMaximum1 p) else
    (if plan.value CoordMaximumMode 1 == 2 then Some (10 * plan.value PhaseMaximum2 p) else None)

-- that which acts on p while the pattern runs; none for a coordinated phase
abbrev pub pattern_maximum : Plan → Option ℕ → ℕ → Option ℕ
pattern_maximum plan runs p = if is_coordinated_now plan runs p then None else maximum_by_mode plan p
