use Rattle.std.proofs.Common.{◌≡◌, ℕ, Bool, true, refl, sym, ◌∙◌, subst, inl, inr}
use Rattle.std.proofs.lemmas.Bool.Decides.{eqb_tells}
use Rattle.std.proofs.lemmas.Bool.{both_ways}
use Rattle.tsb_objects.specs.Checked.{checked_plan}
use Rattle.tsb_objects.specs.tsb_plan.Plan.{Plan}
use Rattle.tsb_objects.specs.tsb_types.Sets.{has_detector}
use Rattle.tsb_detect.specs.Cells.{row_in}
use Rattle.tsb_detect.specs.Rows.{is_tested}
use Rattle.tsb_detect.specs.Layer.{cells_of}
use Rattle.tsb_detect.proofs.detectors.Detectors.tested.Goals as goal

same-test : (now d : ℕ) (p q : Plan) (x y : Bool) (m n : ℕ) → p ≡ q → x ≡ y → m ≡ n → is_tested now p d x m ≡ is_tested now q d y n
same-test now d p q x y m n of_plan of_input of_change = rw (of_plan, of_input, of_change) refl

pub loop-d-preserved : goal.loop-d-preserved
loop-d-preserved c =
    let d : ℕ = c.in-Some.d in
    let seen = c.in-Some.ensures in
    let held = c.loop-d.invariant in
    let put = c.joined-found.ensures in
    let cells = cells_of c.args.self.now in
    record {
      done = λ e from within out.
          elim (eqb_tells e d) [
            | inl same ↦
                subst (λ (n : ℕ). has_detector c.joined-found.result n ≡ is_tested c.args.now (checked_plan c.args.plan.now) n (has_detector c.args.inputs n) (row_in cells n).change)
                (sym same.1)
                (put.set ∙ c.is_tested-on.ensures
                ∙ same-test c.args.now d _ _ _ _ _ _ c.plan.ensures.plan c.has.ensures c.change-change.ensures.value)
            | inr other ↦ put.others e other.1 ∙ held.done e from within (sym (seen.others e other.1) ∙ out)
          ];
      left = λ e in_rest.
          elim (eqb_tells e d) [
            | inl same ↦ absurd (both_ways (has_detector c.pop_detector.new.self d) seen.taken (subst (λ (n : ℕ). has_detector c.pop_detector.new.self n ≡ true) same.1 in_rest))
            | inr other ↦ put.others e other.1 ∙ held.left e (sym (seen.others e other.1) ∙ in_rest)
          ];
    }
