-- Mistakes in cards, each with a plan whose card would have a wrong pair, or would lack a right one.
use Rattle.std.specs.Prelude.{◌≡◌, ℕ, ◌==◌, Bool, true, false, ◌&&◌, if◌then◌else◌, [], ◌∷◌, refl}
use Rattle.std.specs.List.{list_any}
use Rattle.tsb_types.specs.Lists.{run_from}
use Rattle.tsb_plan.specs.declared.object.Object.TheVariants.{OverlapIncludedPhases, OverlapModifierPhases, OverlapType}
use Rattle.tsb_plan.specs.Parts.{is_included}
use Rattle.tsb_plan.specs.Plan.{Plan, phases, with_values}
use Rattle.tsb_plan.specs.Quad.{quad}
use Rattle.tsb_card.specs.declared.channels.Control.{Control}
use Rattle.tsb_card.specs.Pairs.{agree, channel, is_pair, lights, names_none}

-- what a computed line opens
unfoldable pub opened : Unit {0}
unfolding quad run_from is_pair names_none
opened = tt

-- ## The built-in plan of eight phases

two_and_six : is_pair quad 2 6 ≡ true
unfolding opened
two_and_six = refl

not_two_and_three : is_pair quad 2 3 ≡ false
unfolding opened
not_two_and_three = refl

-- ## Channels that are lit at some time are pairs

of_lit : Plan → ℕ → ℕ → Bool
of_lit plan a b = list_any (lights plan (channel plan a)) (phases plan) && list_any (lights plan (channel plan b)) (phases plan)

would_permit : of_lit quad 2 3 ≡ true
unfolding opened of_lit
would_permit = refl

-- ## An arrow is lit by its included phases alone

by_included : Plan → Control → ℕ → Bool
by_included plan x p = if x.kind == 4 then is_included plan x.source p else lights plan x p

-- the card of what lights channels so
card_by : (Plan → Control → ℕ → Bool) → Plan → ℕ → ℕ → Bool
card_by lit plan a b =
    list_any (λ p. lit plan (channel plan a) p && list_any (λ q. lit plan (channel plan b) q && agree plan p q) (phases plan)) (phases plan)

-- overlap 2 is the arrow of turn 1, which phase 2 opposes
unfoldable pub arrow : Plan
arrow = with_values quad ((OverlapType, 2, 2) ∷ (OverlapIncludedPhases, 2, 2) ∷ (OverlapModifierPhases, 2, 1) ∷ [])

is_lit_with_its_turn : is_pair arrow 1 10 ≡ true
unfolding opened arrow
is_lit_with_its_turn = refl

would_forbid : card_by by_included arrow 1 10 ≡ false
unfolding opened arrow card_by by_included
would_forbid = refl
