-- The turn of an arrow, and overlaps that trail, in a plan that breaks no rule.
use Rattle.std.proofs.Common.{◌≡◌, ◌≢◌, ℕ, ◌==◌, nat_le, true, false, not, refl, sym, arith, ◌∙◌, inl, inr}
use Rattle.std.proofs.lemmas.Bool.{cases_Bool, and_parts, eqb-true, true≢false}
use Rattle.std.proofs.lemmas.Bool.Decides.{nat_tests}
use Rattle.tsb_objects.specs.tsb_plan.declared.object.Object.TheVariants.{OverlapTrailGreen, OverlapType}
use Rattle.tsb_objects.specs.tsb_plan.Parts.{includes_none, is_arrow, trails}
use Rattle.tsb_objects.specs.tsb_plan.Plan.{Plan}
use Rattle.tsb_objects.specs.tsb_rules.Consistent.{IsArrowSound, IsTrailSound}
use Rattle.tsb_objects.proofs.tsb_rules.ConsistentLemmas.{arrow_sound, trail_sound}
use Rattle.tsb_heads.specs.Overlaps.{IsOverlap}
use Rattle.tsb_step.specs.Tables.{has_place}
use Rattle.tsb_step.specs.Laws.{IsConsistent}

-- an overlap that has a value other than 0 in a plan is one of its overlaps
type_placed : (plan : Plan) → IsConsistent plan → (o : ℕ) → plan.value OverlapType o ≢ 0 → IsOverlap plan o
type_placed plan ok o some =
    elim (cases_Bool (has_place plan OverlapType o)) [
      | inl here ↦ (let both = and_parts (nat_le 1 o) (nat_le o plan.counts.overlaps) here in (grind (arith, nat_tests, both.0), grind (arith, nat_tests, both.1)))
      | inr out ↦ absurd (some (ok.placed OverlapType o out))
    ]

trail_placed : (plan : Plan) → IsConsistent plan → (o : ℕ) → plan.value OverlapTrailGreen o ≢ 0 → IsOverlap plan o
trail_placed plan ok o some =
    elim (cases_Bool (has_place plan OverlapTrailGreen o)) [
      | inl here ↦ (let both = and_parts (nat_le 1 o) (nat_le o plan.counts.overlaps) here in (grind (arith, nat_tests, both.0), grind (arith, nat_tests, both.1)))
      | inr out ↦ absurd (some (ok.placed OverlapTrailGreen o out))
    ]

is_two : (plan : Plan) (o : ℕ) → is_arrow plan o ≡ true → plan.value OverlapType o ≡ 2
is_two plan o h = eqb-true (plan.value OverlapType o) 2 (and_parts (plan.value OverlapType o == 2) (not (includes_none plan o)) h).0

some_green : (plan : Plan) (o : ℕ) → trails plan o ≡ true → plan.value OverlapTrailGreen o ≢ 0
some_green plan o h none =
    let test : not (plan.value OverlapTrailGreen o == 0) ≡ true =
    (and_parts (not (plan.value OverlapTrailGreen o == 0)) (not (includes_none plan o)) h).0 in
    let is : (plan.value OverlapTrailGreen o == 0) ≡ true = grind (arith, nat_tests, none) in
    true≢false (sym test ∙ rw is refl)

pub arrow_placed : (plan : Plan) → IsConsistent plan → (o : ℕ) → is_arrow plan o ≡ true → IsOverlap plan o
arrow_placed plan ok o h = type_placed plan ok o (λ none. two_not_zero (plan.value OverlapType o) none (is_two plan o h))
  where
    two_not_zero : (n : ℕ) → n ≡ 0 → n ≡ 2 → ⊥
    two_not_zero n none two = absurd (omega (arith, none, two))

pub arrow_turn : (plan : Plan) → IsConsistent plan → (o : ℕ) → is_arrow plan o ≡ true → IsArrowSound plan o
arrow_turn plan ok o h = let at = arrow_placed plan ok o h in arrow_sound plan ok.rules o at.0 at.1 (is_two plan o h)

pub trailing_placed : (plan : Plan) → IsConsistent plan → (o : ℕ) → trails plan o ≡ true → IsOverlap plan o
trailing_placed plan ok o h = trail_placed plan ok o (some_green plan o h)

pub trail_is_sound : (plan : Plan) → IsConsistent plan → (o : ℕ) → trails plan o ≡ true → IsTrailSound plan o
trail_is_sound plan ok o h =
    let at = trailing_placed plan ok o h in trail_sound plan ok.rules o at.0 at.1 (some_green plan o h)

-- an overlap that trails is no arrow
pub trails_no_arrow : (plan : Plan) → IsConsistent plan → (o : ℕ) → trails plan o ≡ true → is_arrow plan o ≡ false
trails_no_arrow plan ok o h =
    let type : plan.value OverlapType o ≡ 0 = (trail_is_sound plan ok o h).normal in
    let not_two : (plan.value OverlapType o == 2) ≡ false = grind (arith, nat_tests, type) in
    rw not_two refl
