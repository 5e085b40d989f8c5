-- One-line mistakes in permissive times, each with an example that tells it from the definition.
use Rattle.std.specs.Prelude.{◌≡◌, ℕ, ◌+◌, nat_le, Bool, true, false, ◌&&◌, [], ◌∷◌, Some, refl}
use Rattle.tsb_objects.specs.tsb_types.Lists.{run_from}
use Rattle.tsb_objects.specs.tsb_plan.Parts.{cycle, permissive_time}
use Rattle.tsb_objects.specs.tsb_plan.Plan.{Plan}
use Rattle.tsb_objects.specs.tsb_plan.Quad.{quad}
use Rattle.tsb_objects.specs.tsb_rules.PatternRules.{split_sum, side_sum, split_end}
use Rattle.tsb_coord.specs.Coordinated.{local, force_off, is_behind, asks_force_off}
use Rattle.tsb_coord.specs.Laws.{clear_of}
use Rattle.tsb_coord.proofs.Examples.PermissiveExamples.{permitted}

-- ## It is counted from local 0, and not from the instant: phase 2 at local 100, so that it clears 140 ticks behind
-- local 0

abbrev pub behind_zero : Plan → ℕ → ℕ → Bool
behind_zero plan n l = nat_le l (permissive_time plan n)

has_ended : asks_force_off permitted 900 (Some 1) 2 ≡ false
unfolding permitted quad run_from split_sum side_sum split_end force_off
has_ended = refl

would_go_on : behind_zero permitted 1 100 ≡ true
unfolding permitted quad
would_go_on = refl

clears_too_late : local permitted (clear_of permitted 900 2) (Some 1) ≡ Some 140
unfolding permitted quad
clears_too_late = refl

-- ## All phases have it: phase 1 at 520, behind 510

abbrev pub time_for_all : Plan → ℕ → ℕ → ℕ
time_for_all plan n p = permissive_time plan n

not_permitted : asks_force_off permitted 520 (Some 1) 1 ≡ false
unfolding permitted quad run_from split_sum side_sum split_end force_off
not_permitted = refl

would_be_permitted : is_behind (cycle permitted 1) (time_for_all permitted 1 1) (Some 520) (force_off permitted (Some 1) 1) ≡ true
unfolding permitted quad run_from split_sum side_sum split_end force_off
would_be_permitted = refl

-- ## It ends with the cycle: phase 2 no more at local 0

abbrev pub is_behind_within : ℕ → ℕ → ℕ → Bool
is_behind_within time l i = nat_le i l && nat_le l (i + time)

past_zero : asks_force_off permitted 800 (Some 1) 2 ≡ true
unfolding permitted quad run_from split_sum side_sum split_end force_off
past_zero = refl

would_end : is_behind_within 100 799 760 ∷ is_behind_within 100 0 760 ∷ [] ≡ true ∷ false ∷ []
would_end = refl
