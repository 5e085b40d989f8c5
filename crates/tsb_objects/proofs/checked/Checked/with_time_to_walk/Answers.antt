use Rattle.std.proofs.Common.{◌≡◌, ℕ, ◌&&◌, Bool, true, Some, inl, inr, refl, sym, ap, subst, ◌∙◌}
use Rattle.std.proofs.lemmas.Bool.Decides.{eqb_tells}
use Rattle.tsb_plan.specs.Parts.{cycle}
use Rattle.tsb_plan.specs.Plan.{Plan}
use Rattle.tsb_types.specs.Sets.{has}
use Rattle.tsb_objects.specs.Checked.{checked_plan}
use Rattle.tsb_objects.specs.Instants.{force_off, walk_and_clearance, is_left}
use Rattle.tsb_objects.proofs.checked.Checked.with_time_to_walk.Goals as goal

pub loop-p-init : goal.loop-p-init
loop-p-init c =
    let plan : Plan = checked_plan c.args.self.now in
    let fits : ℕ → Bool = λ q. is_left (cycle plan c.args.n) (walk_and_clearance plan q) (Some c.args.local) (force_off plan (Some c.args.n) q) in
    record {
      within = λ q is. is;
      told = λ q out. c.empty-set.ensures q ∙ sym (ap (λ (b : Bool). b && fits q) out);
    }

pub loop-p-preserved : goal.loop-p-preserved
loop-p-preserved c =
    let plan : Plan = checked_plan c.args.self.now in
    let fits : ℕ → Bool = λ q. is_left (cycle plan c.args.n) (walk_and_clearance plan q) (Some c.args.local) (force_off plan (Some c.args.n) q) in
    let seen = c.in-Some.ensures in
    let held = c.loop-p.invariant in
    let p : ℕ = c.in-Some.p in
    let here : has c.with-set.result p ≡ (has c.args.phases p && fits p) =
    c.with-set.ensures.set ∙ (c.has_time_to_walk.ensures ∙ sym (ap (λ (b : Bool). b && fits p) (held.within p seen.had))) in
    record {
      within = λ q is.
          elim (eqb_tells q p) [
            | inl same ↦ subst (λ (r : ℕ). has c.args.phases r ≡ true) (sym same.1) (held.within p seen.had)
            | inr other ↦ held.within q (sym (seen.others q other.1) ∙ is)
          ];
      told = λ q out.
          elim (eqb_tells q p) [
            | inl same ↦ subst (λ (r : ℕ). has c.with-set.result r ≡ (has c.args.phases r && fits r)) (sym same.1) here
            | inr other ↦ c.with-set.ensures.others q other.1 ∙ held.told q (sym (seen.others q other.1) ∙ out)
          ];
    }

pub returns : goal.returns
returns c = λ p from within. c.loop-p.invariant.told p (c.in_default.ensures.none refl p)
