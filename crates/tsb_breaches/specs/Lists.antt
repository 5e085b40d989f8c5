-- What of detectors, overlaps and preempts breaks a rule (profile): K12 to K16, K21, K28
-- and K29.
use Rattle.std.specs.Prelude.{ℕ, ◌==◌, nat_lt, Bool, not, ◌&&◌, ◌||◌, if◌then◌else◌, sum_by}
use Rattle.std.specs.List.{list_any}
use Rattle.tsb_plan.specs.declared.object.Object.{Object}
use Rattle.tsb_plan.specs.declared.object.Object.TheVariants.{PreemptDwellPhase, OverlapModifierPhases, OverlapTrailGreen, OverlapType}
use Rattle.tsb_types.specs.Sets.{names}
use Rattle.tsb_plan.specs.Parts.{call_phase, pedestrian_call_phase, includes_none, is_included, is_modifier, trail_yellow}
use Rattle.tsb_plan.specs.Plan.{Plan, phases, is_enabled, is_concurrent}
use Rattle.tsb_rules.specs.PatternRules.{some_and}
use Rattle.tsb_rules.specs.Rules.{has_walk}

-- p is not enabled
abbrev pub is_unused : Plan → ℕ → Bool
is_unused plan p = not (is_enabled plan p)

-- p is enabled and has no walk
abbrev pub has_no_walk : Plan → ℕ → Bool
has_no_walk plan p = is_enabled plan p && not (has_walk plan p)

-- K12: vehicle detector d calls a phase that is not enabled
abbrev pub calls_unused : Plan → ℕ → Bool
calls_unused plan d = some_and (is_unused plan) (call_phase plan d)

-- K13: pedestrian detector d calls a phase that is not enabled
abbrev pub button_calls_unused : Plan → ℕ → Bool
button_calls_unused plan d = some_and (is_unused plan) (pedestrian_call_phase plan d)

-- K13: it calls an enabled phase without walk
abbrev pub button_calls_no_walk : Plan → ℕ → Bool
button_calls_no_walk plan d = some_and (has_no_walk plan) (pedestrian_call_phase plan d)

-- K14, K15, K21: the list that object o has at index i names p, which is not enabled
abbrev pub lists_unused : Plan → Object → ℕ → ℕ → Bool
lists_unused plan o i p = names (plan.value o i) p && not (is_enabled plan p)

-- the list that object o has at index i names p, which is enabled
abbrev pub lists_used : Plan → Object → ℕ → ℕ → Bool
lists_used plan o i p = names (plan.value o i) p && is_enabled plan p

-- each of p and q is in the concurrency list of the other
abbrev pub go_together : Plan → ℕ → ℕ → Bool
go_together plan p q = is_concurrent plan p q && is_concurrent plan q p

-- K15: it names p and q, the lower number first, which are enabled and not concurrent
abbrev pub lists_apart : Plan → Object → ℕ → ℕ → ℕ → Bool
lists_apart plan o i p q = nat_lt p q && (lists_used plan o i p && (lists_used plan o i q && not (go_together plan p q)))

-- K16: preempt m has no dwell phases, and the list that object o has for it is not empty
abbrev pub has_no_dwell : Plan → Object → ℕ → Bool
has_no_dwell plan o m = plan.value PreemptDwellPhase m == 0 && not (plan.value o m == 0)

-- K21: overlap o is normal, and has modifier phases
abbrev pub modifies_nothing : Plan → ℕ → Bool
modifies_nothing plan o = plan.value OverlapType o == 0 && not (plan.value OverlapModifierPhases o == 0)

-- overlap o is of type 2, an arrow
abbrev pub points : Plan → ℕ → Bool
points plan o = plan.value OverlapType o == 2

-- K28: it is an arrow that includes no phase
abbrev pub points_nowhere : Plan → ℕ → Bool
points_nowhere plan o = points plan o && includes_none plan o

-- how many modifier phases overlap o has
unfoldable pub turns_of : Plan → ℕ → ℕ
turns_of plan o = sum_by (λ p. if is_modifier plan o p then 1 else 0) (phases plan)

-- K28: it is an arrow with no modifier phase, or several
abbrev pub turns_otherwise : Plan → ℕ → Bool
turns_otherwise plan o = points plan o && not (turns_of plan o == 1)

-- t is a modifier phase of overlap o, and is phase p or concurrent with it
abbrev pub is_turn_with : Plan → ℕ → ℕ → ℕ → Bool
is_turn_with plan o p t = is_modifier plan o t && (p == t || is_concurrent plan t p)

-- K28: it is an arrow that includes phase p, and a modifier phase of it is that phase or concurrent with it
abbrev pub turns_with : Plan → ℕ → ℕ → Bool
turns_with plan o p = points plan o && (is_included plan o p && list_any (is_turn_with plan o p) (phases plan))

-- K29: the trailing yellow of overlap o is under 30 tenths of a second, and it is over 0 or has to be, as the overlap has a
-- trailing green
abbrev pub trails_shortly : Plan → ℕ → Bool
trails_shortly plan o = nat_lt (trail_yellow plan o) 30 && (not (trail_yellow plan o == 0) || not (plan.value OverlapTrailGreen o == 0))

-- K29: it has a trailing green, and is not normal
abbrev pub trails_otherwise : Plan → ℕ → Bool
trails_otherwise plan o = not (plan.value OverlapTrailGreen o == 0) && not (plan.value OverlapType o == 0)
