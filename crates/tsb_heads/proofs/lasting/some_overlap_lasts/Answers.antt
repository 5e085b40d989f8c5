use Rattle.std.proofs.Common.{◌≡◌, ℕ, Bool, false, ap, sym, ◌∙◌, subst, refl, arith, inl, inr}
use Rattle.std.proofs.lemmas.Bool.{cases_eq}
use Rattle.tsb_objects.specs.tsb_plan.PlanOf.{plan_of}
use Rattle.tsb_objects.specs.Checked.{checked_plan}
use Rattle.tsb_heads.specs.Heads.{Shown}
use Rattle.tsb_heads.specs.Overlaps.{lasts, some_lasts}
use Rattle.tsb_heads.specs.Reading.{shown_by}
use Rattle.tsb_objects.proofs.tsb_types.RunLemmas.{any-at, any-never}
use Rattle.tsb_heads.proofs.lasting.some_overlap_lasts.Goals as goal

pub loop-number-preserved : goal.loop-number-preserved
loop-number-preserved c = record {
  from = omega arith;
  none = λ s is o from below.
      let by : ℕ → Bool = lasts (checked_plan c.args.plan.now) s in
      elim (cases_eq o c.loop-number.number) [
        | inl same ↦
            subst (λ (k : ℕ). by k ≡ false) (sym same)
            (sym (c.lasts.ensures s is ∙ ap by c.of.ensures) ∙ c.if-lasts.false)
        | inr other ↦ c.loop-number.invariant.none s is o from (omega (arith, below, other))
      ];
}

pub returns-then-lasts : goal.returns-then-lasts
unfolding some_lasts checked_plan plan_of
returns-then-lasts c = λ pedestrians lights tripped.
    let s : Shown = shown_by c.args.intervals.now pedestrians c.args.ring_1 c.args.ring_2 lights tripped in
    let is = c.find_served-served.ensures s (λ p. refl) (λ r. refl) in
    let by : ℕ → Bool = lasts (checked_plan c.args.plan.now) s in
    sym (any-at by 1 (checked_plan c.args.plan.now).counts.overlaps c.loop-number.number (omega arith) (omega arith)
    (sym (c.lasts.ensures s is ∙ ap by c.of.ensures) ∙ c.if-lasts.true))

pub returns : goal.returns
unfolding some_lasts checked_plan plan_of
returns c = λ pedestrians lights tripped.
    let s : Shown = shown_by c.args.intervals.now pedestrians c.args.ring_1 c.args.ring_2 lights tripped in
    let is = c.find_served-served.ensures s (λ p. refl) (λ r. refl) in
    sym (any-never (lasts (checked_plan c.args.plan.now) s) 1 (checked_plan c.args.plan.now).counts.overlaps
    (λ o from below. c.loop-number.invariant.none s is o from (omega (arith, below))))
