-- Advices on dual entry: A52 and A63.
use Rattle.std.specs.Prelude.{ℕ, ◌==◌, nat_lt, Bool, not, ◌&&◌, if◌then◌else◌, sum_by}
use Rattle.std.specs.List.{list_any}
use Rattle.tsb_plan.specs.declared.object.Object.TheVariants.{PhaseConcurrency}
use Rattle.tsb_plan.specs.Plan.{Plan, phases, is_enabled, has_dual_entry, ring_of, side_of}
use Rattle.tsb_rules.specs.PatternRules.{is_on, has_phases}

-- p is an enabled phase of ring r on side s, and has dual entry
abbrev pub may_enter : Plan → ℕ → ℕ → ℕ → Bool
may_enter plan r s p = is_on plan r s p && has_dual_entry plan p

-- how many of them there are
unfoldable pub entry_count : Plan → ℕ → ℕ → ℕ
entry_count plan r s = sum_by (λ p. if may_enter plan r s p then 1 else 0) (phases plan)

-- p is an enabled phase of another ring than r on side s, and has dual entry
abbrev pub enters_beside : Plan → ℕ → ℕ → ℕ → Bool
enters_beside plan r s p = is_enabled plan p && (side_of plan p == s && (not (ring_of plan p == r) && has_dual_entry plan p))

-- A52: ring r has phases on side s, of which not just one has dual entry, and one of the other ring has it there
abbrev pub has_unlike_entry : Plan → ℕ → ℕ → Bool
has_unlike_entry plan r s =
    has_phases plan r s && (list_any (enters_beside plan r s) (phases plan) && not (entry_count plan r s == 1))

-- p is enabled, and may be in service together with others
abbrev pub has_partners : Plan → ℕ → Bool
has_partners plan p = is_enabled plan p && nat_lt 0 (plan.value PhaseConcurrency p)

-- p is enabled, and has dual entry
abbrev pub enters : Plan → ℕ → Bool
enters plan p = is_enabled plan p && has_dual_entry plan p

-- A63: phases of two rings may be in service together, and no phase has dual entry
abbrev pub lacks_entry : Plan → Bool
lacks_entry plan = list_any (has_partners plan) (phases plan) && not (list_any (enters plan) (phases plan))
