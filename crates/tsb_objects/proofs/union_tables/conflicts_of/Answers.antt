use Rattle.std.proofs.Common.{◌≡◌, ℕ, ◌≤◌, ◌==◌, ◌&&◌, not, Bool, false, refl, sym, ◌∙◌, ap₂, inl, inr, subst}
use Rattle.std.proofs.lemmas.Bool.Decides.{eqb_tells}
use Rattle.tsb_plan.specs.PlanOf.{plan_of}
use Rattle.tsb_types.specs.Sets.{has}
use Rattle.tsb_types.proofs.SetLemmas.{names-all}
use Rattle.tsb_objects.proofs.TableLemmas.{named-back}
use Rattle.tsb_objects.proofs.union_tables.conflicts_of.Goals as goal

pub returns : goal.returns
unfolding plan_of
returns c = λ p from within.
    let q : ℕ = c.args.q in
    let first : 1 ≤ q = c.known.ensures.from in
    let last : q ≤ 16 = c.known.ensures.within in
    let other : has c.with-others.result p ≡ not (q == p) =
    elim (eqb_tells q p) [
      | inl same ↦ subst (λ (n : ℕ). has c.with-others.result n ≡ false) same.1 c.with-others.ensures.set ∙ sym (rw same.0 refl)
      | inr apart ↦ c.with-others.ensures.others p (λ e. apart.1 (sym e)) ∙ c.from_list.ensures p ∙ names-all p from within ∙ sym (rw apart.0 refl)
    ] in
    c.difference.ensures p
    ∙ ap₂ (λ (a b : Bool). a && not b) other
    (c.concurrency.ensures p ∙ named-back c.args.plan.now.values c.args.plan.now.ranged c.requires q p first last)
