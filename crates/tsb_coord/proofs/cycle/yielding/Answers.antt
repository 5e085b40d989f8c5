use Rattle.std.proofs.Common.{◌≡◌, ◌∙◌, ℕ, ◌&&◌, Bool, true, false, Option, Some, inl, inr, sym, ap, subst, true≢false, arith}
use Rattle.std.proofs.lemmas.Grind.{common_steps}
use Rattle.std.proofs.lemmas.Bool.Decides.{eqb_tells}
use Rattle.tsb_objects.specs.tsb_types.Sets.{has}
use Rattle.tsb_objects.specs.Checked.{checked_plan}
use Rattle.tsb_objects.specs.tsb_plan.Plan.{Plan}
use Rattle.tsb_objects.specs.tsb_plan.Running.{is_coordinated_now}
use Rattle.tsb_coord.specs.Coordinated.{force_off}
use Rattle.tsb_coord.specs.Cycle.{is_either, yields_at}
use Rattle.tsb_coord.proofs.cycle.yielding.Goals as goal

pub loop-p-preserved : goal.loop-p-preserved
loop-p-preserved c =
    let plan : Plan = checked_plan c.args.plan.now in
    let last : Option ℕ = c.args.places.now.last in
    let first : Option ℕ = c.args.places.now.first in
    let p : ℕ = c.in-Some.p in
    let held = c.loop-p.invariant in
    let popped = c.in-Some.ensures in
    let joined = c.joined-yielding.ensures in
    let coordinated : is_coordinated_now plan (Some c.args.n) p ≡ true = held.within p popped.from popped.within popped.had in
    let judged : has c.joined-yielding.result p ≡ yields_at plan c.args.n last first p =
    joined.set ∙ c.comes_to.ensures ∙ ap (λ (i : Option ℕ). is_either last first i) c.force_off.ensures.value
    ∙ ap (λ (b : Bool). b && is_either last first (force_off plan (Some c.args.n) p)) (sym coordinated) in
    record {
      told = λ q from to out. elim (eqb_tells q p) [
        | inl same ↦ subst (λ (m : ℕ). has c.joined-yielding.result m ≡ yields_at plan c.args.n last first m) (sym same.1) judged
        | inr other ↦ joined.others q other.1 ∙ held.told q from to (sym (popped.others q other.1) ∙ out)
      ];
      within = λ q from to on. elim (eqb_tells q p) [
        | inl same ↦ subst (λ (m : ℕ). is_coordinated_now plan (Some c.args.n) m ≡ true) (sym same.1) coordinated
        | inr other ↦ held.within q from to (sym (popped.others q other.1) ∙ on)
      ];
      left = λ q on. elim (eqb_tells q p) [
        | inl same ↦ absurd (true≢false (sym (subst (λ (m : ℕ). has c.pop.new.self m ≡ true) same.1 on) ∙ popped.taken))
        | inr other ↦ joined.others q other.1 ∙ held.left q (sym (popped.others q other.1) ∙ on)
      ];
    }

pub loop-p-init : goal.loop-p-init
loop-p-init c = grind (arith, common_steps)
