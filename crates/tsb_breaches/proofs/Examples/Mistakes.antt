-- Mistakes in ways to break a rule, each with a plan that meets the rules and of which it would be told, or with one
-- that breaks a rule and of which nothing would be told.
use Rattle.std.specs.Prelude.{◌≡◌, ℕ, ◌==◌, nat_le, nat_lt, Bool, true, false, not, ◌&&◌, [], ◌∷◌, Some, None, refl}
use Rattle.tsb_plan.specs.declared.object.Object.TheVariants.{PatternLeadLag, PatternPermissiveTime, PhaseYellowChange, SequenceData}
use Rattle.tsb_types.specs.Lists.{run_from}
use Rattle.tsb_plan.specs.Parts.{cycle, is_used, permissive_time}
use Rattle.tsb_plan.specs.Plan.{Plan, is_enabled, with_value, with_values, yellow_change}
use Rattle.tsb_plan.specs.Quad.{quad}
use Rattle.tsb_rules.specs.declared.rules.Rule.TheVariants.{K8, K20, K23}
use Rattle.tsb_rules.specs.PatternRules.{coordinated_count, side_sum, split_end, split_sum}
use Rattle.tsb_rules.specs.Rules.{broken_by_extensions, broken_by_parts, broken_by_phases, broken_by_rings, broken_by_schedule, broken_by_overlaps, first_broken}
use Rattle.tsb_breaches.specs.declared.fault.RuleFault.TheVariants.{K20Ends}
use Rattle.tsb_breaches.specs.Breaches.{of_pattern_phases}
use Rattle.tsb_breaches.specs.Patterns.{are_together, permits_always}
use Rattle.tsb_breaches.specs.Phases.{has_short_yellow}

-- what a computed line opens
unfoldable pub opened : Unit {0}
unfolding quad run_from first_broken broken_by_rings broken_by_phases broken_by_parts broken_by_extensions broken_by_schedule broken_by_overlaps split_sum side_sum split_end coordinated_count
opened = tt

-- ## K8 tells a yellow of 3 seconds too

abbrev pub tells_at_least_yellow : Plan → ℕ → Bool
tells_at_least_yellow plan p = is_enabled plan p && nat_le (yellow_change plan p) 30

unfoldable pub least_yellow : Plan
least_yellow = with_value quad PhaseYellowChange 4 30

breaks_none : first_broken least_yellow ≡ None
unfolding opened least_yellow
breaks_none = refl

would_be_told : tells_at_least_yellow least_yellow 4 ≡ true
unfolding opened least_yellow
would_be_told = refl

-- ## A yellow of 2.9 s

unfoldable pub short_yellow : Plan
short_yellow = with_value quad PhaseYellowChange 4 29

breaks_8 : first_broken short_yellow ≡ Some K8
unfolding opened short_yellow
breaks_8 = refl

tells_4 : has_short_yellow short_yellow 4 ≡ true
unfolding opened short_yellow
tells_4 = refl

-- ## K20 tells ends of a pattern that leads and lags too

abbrev pub tells_all_ends : Plan → ℕ → ℕ → ℕ → ℕ → Bool
tells_all_ends plan t p q s = are_together plan t p q && not (split_end plan s t p == split_end plan s t q)

-- phase 5 is behind phase 6, and phase 1 before phase 2
unfoldable pub lead_and_lag : Plan
lead_and_lag =
    with_values quad ((SequenceData, 17, 6) ∷ (SequenceData, 18, 5) ∷ (PatternLeadLag, 1, 1) ∷ (PatternLeadLag, 2, 1) ∷ [])

may_end_apart : first_broken lead_and_lag ≡ None
unfolding opened lead_and_lag
may_end_apart = refl

tells_no_ends : of_pattern_phases lead_and_lag K20Ends 1 2 6 ≡ false
unfolding opened lead_and_lag
tells_no_ends = refl

would_tell_ends : tells_all_ends lead_and_lag 1 2 6 1 ≡ true
unfolding opened lead_and_lag
would_tell_ends = refl

-- and pattern 1 does not lead and lag
unfoldable pub lead_alone : Plan
lead_alone = with_value lead_and_lag PatternLeadLag 1 0

breaks_20 : first_broken lead_alone ≡ Some K20
unfolding opened lead_and_lag lead_alone
breaks_20 = refl

tells_ends : of_pattern_phases lead_alone K20Ends 1 2 6 ≡ true
unfolding opened lead_and_lag lead_alone
tells_ends = refl

-- ## K23 does not tell a permissive time of the whole cycle

abbrev pub tells_over_cycle : Plan → ℕ → Bool
tells_over_cycle plan n = is_used plan n && nat_lt (cycle plan n) (permissive_time plan n)

unfoldable pub whole_cycle : Plan
whole_cycle = with_value quad PatternPermissiveTime 1 80

breaks_23 : first_broken whole_cycle ≡ Some K23
unfolding opened whole_cycle
breaks_23 = refl

tells_1 : permits_always whole_cycle 1 ≡ true
unfolding opened whole_cycle
tells_1 = refl

would_not_be_told : tells_over_cycle whole_cycle 1 ≡ false
unfolding opened whole_cycle
would_not_be_told = refl
