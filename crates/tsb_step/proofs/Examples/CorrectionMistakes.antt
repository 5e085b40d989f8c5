-- What the laws of the local counter in step refuse: for each a mistake in the definitions, and by computing what comes
-- of it. Beside each is what the definitions as they are make of the same state.
use Rattle.std.specs.Prelude.{◌≡◌, ℕ, ◌%◌, true, false, [], ◌∷◌, Some, map, refl}
use Rattle.tsb_types.specs.Sets.{all_off}
use Rattle.tsb_objects.specs.tsb_plan.declared.object.Object.TheVariants.{CoordCorrectionMode, CoordCorrectionLimit}
use Rattle.tsb_objects.specs.tsb_plan.Parts.{correction_limit}
use Rattle.tsb_objects.specs.tsb_plan.Plan.{Plan, with_values}
use Rattle.tsb_objects.specs.tsb_plan.Quad.{quad}
use Rattle.tsb_coord.specs.declared.correction.Correction.{Correction}
use Rattle.tsb_coord.specs.Correction.{lost, slower, is_in_step}
use Rattle.tsb_step.specs.State.{State}
use Rattle.tsb_step.specs.Signs.{IsInStep}
use Rattle.tsb_step.proofs.Examples.Scenes.{opened, after, coordinated}

-- pattern 1 was selected at tick 60, 10 ticks ahead, and the cycle is 800: it loses one in 3 ticks by add only, so that
-- it is in step from tick 90 on. By a commit meanwhile the mode can be 0.
abbrev ten_ahead : Correction
ten_ahead = record { since = 60; ahead = 10; midnight = 0 }

abbrev losing : ℕ → ℕ → State
losing mode n = record (coordinated n) {
  plan = with_values quad ((CoordCorrectionMode, 1, mode) ∷ (CoordCorrectionLimit, 1, 50) ∷ []);
  correction = ten_ahead;
}

-- ## In step at once: a counter that goes on from that of the old pattern in each mode

abbrev ahead_in_each_mode : Plan → ℕ → Correction → ℕ → ℕ
ahead_in_each_mode plan n c ticks = slower c.ahead (lost (correction_limit plan) ticks)

is_in_step_at_once : IsInStep (losing 0 60)
unfolding opened
is_in_step_at_once = refl

would_be_ahead : ahead_in_each_mode (losing 0 60).plan 1 ten_ahead 0 ≡ 10
unfolding opened
would_be_ahead = refl

-- ## Stays in step: a counter that loses its ticks anew in each cycle

abbrev lost_anew : ℕ → ℕ → ℕ → ℕ
lost_anew m limit ticks = lost limit (ticks % m)

-- at tick 859, 799 ticks later, both are in step; a tick later the wrong one is 10 ahead again
comes_there : map (λ n. is_in_step (losing 3 n).plan (Some 1) ten_ahead n) (89 ∷ 90 ∷ 859 ∷ []) ≡ false ∷ true ∷ true ∷ []
unfolding opened
comes_there = refl

stays_there : IsInStep (after (losing 3 859) all_off)
unfolding opened
stays_there = refl

would_leave : map (λ ticks. slower 10 (lost_anew 800 50 ticks)) (799 ∷ 800 ∷ []) ≡ 0 ∷ 10 ∷ []
would_leave = refl
