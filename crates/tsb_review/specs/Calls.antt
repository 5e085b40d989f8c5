-- What calls a phase, and which phases conflict with it, as a plan says it for all runs.
use Rattle.std.specs.Prelude.{ℕ, ◌==◌, Bool, not, ◌&&◌, ◌||◌, Option, Some, None}
use Rattle.std.specs.List.{list_any}
use Rattle.tsb_types.specs.Lists.{is, run_from}
use Rattle.tsb_plan.specs.Parts.{call_phase, pedestrian_call_phase, is_used}
use Rattle.tsb_plan.specs.Plan.{Plan, phases, is_enabled, has_soft_recall, is_concurrent, minimum_green}
use Rattle.tsb_plan.specs.Running.{is_on_minimum_recall, is_on_maximum_recall, is_on_pedestrian_recall}
use Rattle.tsb_rules.specs.Rules.{has_walk}

-- some vehicle detector calls p
abbrev pub has_detector : Plan → ℕ → Bool
has_detector plan p = list_any (λ d. is p (call_phase plan d)) (run_from 1 plan.counts.vehicle_detectors)

-- some button calls the walk of p
abbrev pub has_button : Plan → ℕ → Bool
has_button plan p = list_any (λ d. is p (pedestrian_call_phase plan d)) (run_from 1 plan.counts.pedestrian_detectors)

-- p is called at all times while a pattern runs, or in free operation: by a recall of its own or of its split mode, for
-- vehicles or pedestrians, or as a coordinated phase
abbrev pub is_recalled : Plan → Option ℕ → ℕ → Bool
is_recalled plan runs p =
    is_on_minimum_recall plan runs p || (is_on_maximum_recall plan runs p || is_on_pedestrian_recall plan runs p)

-- p has a recall of its own in free operation: for vehicles, for pedestrians, or soft
abbrev pub has_recall : Plan → ℕ → Bool
has_recall plan p = is_recalled plan None p || has_soft_recall plan p

-- p has a call of its own: of a detector, a button or a recall
abbrev pub has_call : Plan → ℕ → Bool
has_call plan p = has_detector plan p || (has_button plan p || has_recall plan p)

-- some used pattern recalls p
abbrev pub is_recalled_by_pattern : Plan → ℕ → Bool
is_recalled_by_pattern plan p = list_any (λ n. is_used plan n && is_recalled plan (Some n) p) (run_from 1 16)

-- q is another enabled phase, which may not be in service together with p
abbrev pub conflicts : Plan → ℕ → ℕ → Bool
conflicts plan p q = is_enabled plan q && (not (q == p) && not (is_concurrent plan p q))

-- some phase conflicts with p
abbrev pub has_conflicts : Plan → ℕ → Bool
has_conflicts plan p = list_any (conflicts plan p) (phases plan)

-- p is for pedestrians alone: it has a walk, no vehicle detector and no minimum green
abbrev pub is_for_pedestrians : Plan → ℕ → Bool
is_for_pedestrians plan p = has_walk plan p && (not (has_detector plan p) && minimum_green plan p == 0)

-- some used pattern recalls the pedestrians of p
abbrev pub recalls_pedestrians_in_pattern : Plan → ℕ → Bool
recalls_pedestrians_in_pattern plan p =
    list_any (λ n. is_used plan n && is_on_pedestrian_recall plan (Some n) p) (run_from 1 16)
