-- What a plan is once edits are laid over it: its numbers of phases, sides and all else, the values that no edit changes,
-- and the places where it has none.
use Rattle.std.proofs.Common.{◌≡◌, ℕ, ◌==◌, Bool, true, false, not, ◌&&◌, ◌||◌, if◌then◌else◌, List, [], ◌∷◌, Some, None, refl, sym, inl, inr, ◌∙◌}
use Rattle.std.proofs.lemmas.Bool.{cases_Bool, eqb-true, true≢false, and_parts}
use Rattle.tsb_types.specs.declared.refusal.Refusal.TheVariants.{NoSuchObject}
use Rattle.tsb_objects.specs.tsb_plan.declared.object.Object.{Object}
use Rattle.tsb_objects.specs.tsb_plan.Plan.{Plan, is_same, with_value}
use Rattle.tsb_objects.specs.tsb_plan.Versions.{has_object}
use Rattle.tsb_objects.proofs.tsb_plan.TableLemmas.{order-injective}
use Rattle.tsb_transact.specs.declared.edit.Edit.{Edit}
use Rattle.tsb_transact.specs.Desk.{with_edits}
use Rattle.tsb_transact.specs.Commit.{changes, changes_some}
use Rattle.tsb_step.specs.Tables.{version_of, has_place, place_refusal}
use Rattle.tsb_step.specs.Good.{AreFit}
use Rattle.tsb_objects.proofs.tsb_plan.PlanLemmas.{same-parts}

-- ## Numbers of phases, sides and all else

pub same_phase_count : (plan : Plan) (es : List Edit) → (with_edits plan es).phase_count ≡ plan.phase_count
same_phase_count plan [] = refl
same_phase_count plan (e ∷ es) = same_phase_count (with_value plan e.id.object e.id.index e.value) es

pub same_side_count : (plan : Plan) (es : List Edit) → (with_edits plan es).side_count ≡ plan.side_count
same_side_count plan [] = refl
same_side_count plan (e ∷ es) = same_side_count (with_value plan e.id.object e.id.index e.value) es

pub same_counts : (plan : Plan) (es : List Edit) → (with_edits plan es).counts ≡ plan.counts
same_counts plan [] = refl
same_counts plan (e ∷ es) = same_counts (with_value plan e.id.object e.id.index e.value) es

-- ## Values that no edit changes

-- a value put where it stood
put_same : (test : Object → Bool) (base : Plan) (e : Edit) (o : Object) (i v : ℕ) → (test e.id.object && changes base e) ≡ false →
    test o ≡ true → v ≡ base.value o i → (if is_same e.id.object e.id.index o i then e.value else v) ≡ base.value o i
put_same test base e o i v unchanged passes same =
    elim (cases_Bool (is_same e.id.object e.id.index o i)) [
      | inr other ↦ rw other same
      | inl it ↦ rw it (at_place (order-injective e.id.object o (same-parts e.id.object o e.id.index i it).0)
          (same-parts e.id.object o e.id.index i it).1)
    ]
  where
    stood : (changed : Bool) → not changed ≡ false → changed ≡ true
    stood true h = refl
    stood false h = cc

    unmoved : test e.id.object ≡ true → changes base e ≡ false
    unmoved h = rw h at unchanged

    at_place : e.id.object ≡ o → e.id.index ≡ i → e.value ≡ base.value o i
    at_place x y =
        let here : test e.id.object ≡ true = rw x passes in
        let stays : (base.value e.id.object e.id.index == e.value) ≡ true =
        stood (base.value e.id.object e.id.index == e.value) (unmoved here) in
        sym (rw (x, y) at (eqb-true (base.value e.id.object e.id.index) e.value stays))

pub or_false : (a b : Bool) → (a || b) ≡ false → (a ≡ false) × (b ≡ false)
or_false true b h = absurd (true≢false h)
or_false false b h = (refl, h)

kept_from : (test : Object → Bool) (base plan : Plan) (es : List Edit) → changes_some test base es ≡ false →
    ((o : Object) (i : ℕ) → test o ≡ true → plan.value o i ≡ base.value o i) →
    (o : Object) (i : ℕ) → test o ≡ true → (with_edits plan es).value o i ≡ base.value o i
kept_from test base plan [] unchanged agree o i passes = agree o i passes
kept_from test base plan (e ∷ es) unchanged agree o i passes =
    let both = or_false (test e.id.object && changes base e) (changes_some test base es) unchanged in
    kept_from test base (with_value plan e.id.object e.id.index e.value) es both.1
    (λ x k h. put_same test base e x k (plan.value x k) both.0 h (agree x k h)) o i passes

-- an object whose values the edits do not change has the values that it had
pub kept : (test : Object → Bool) (plan : Plan) (es : List Edit) → changes_some test plan es ≡ false →
    (o : Object) (i : ℕ) → test o ≡ true → (with_edits plan es).value o i ≡ plan.value o i
kept test plan es unchanged o i passes = kept_from test plan plan es unchanged (λ x k h. refl) o i passes

-- ## Places

-- a value that the plan takes has a place
taken_has_place : (plan : Plan) (e : Edit) → place_refusal plan e.id e.value ≡ None → has_place plan e.id.object e.id.index ≡ true
taken_has_place plan e h =
    elim (cases_Bool (has_object (version_of plan) e.id.object && has_place plan e.id.object e.id.index)) [
      | inl it ↦ (and_parts (has_object (version_of plan) e.id.object) (has_place plan e.id.object e.id.index) it).1
      | inr out ↦ (let bad : Some NoSuchObject ≡ None = rw out at h in absurd cc)
    ]

put_placed : (plan : Plan) (e : Edit) (o : Object) (i : ℕ) → has_place plan e.id.object e.id.index ≡ true →
    has_place plan o i ≡ false → plan.value o i ≡ 0 → (with_value plan e.id.object e.id.index e.value).value o i ≡ 0
put_placed plan e o i has out zero =
    elim (cases_Bool (is_same e.id.object e.id.index o i)) [
      | inr other ↦ rw other zero
      | inl it ↦ absurd (bad (order-injective e.id.object o (same-parts e.id.object o e.id.index i it).0)
          (same-parts e.id.object o e.id.index i it).1)
    ]
  where
    bad : e.id.object ≡ o → e.id.index ≡ i → ⊥
    bad x y = true≢false (sym (rw (x, y) at has) ∙ out)

-- a plan with edits that it takes has nothing where it has no place
pub still_placed : (plan : Plan) (es : List Edit) → AreFit plan es →
    ((o : Object) (i : ℕ) → has_place plan o i ≡ false → plan.value o i ≡ 0) →
    (o : Object) (i : ℕ) → has_place plan o i ≡ false → (with_edits plan es).value o i ≡ 0
still_placed plan [] taken zeros o i out = zeros o i out
still_placed plan (e ∷ es) taken zeros o i out =
    still_placed (with_value plan e.id.object e.id.index e.value) es taken.1
    (λ x k h. put_placed plan e x k (taken_has_place plan e taken.0) h (zeros x k h)) o i out
