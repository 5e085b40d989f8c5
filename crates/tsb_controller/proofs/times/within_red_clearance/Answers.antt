use Rattle.std.proofs.Common.{◌≡◌, ◌∙◌, ℕ, ◌-◌, ◌&&◌, Bool, true, inl, inr, sym, ap, subst, true≢false, slice_index}
use Rattle.std.proofs.lemmas.Bool.Decides.{eqb_tells}
use Rattle.tsb_cells.specs.Timer.{is_below, timer_at}
use Rattle.tsb_step.specs.tsb_types.Sets.{has}
use Rattle.tsb_step.specs.tsb_plan.Plan.{red_clear}
use Rattle.tsb_step.specs.tsb_plan.PlanOf.{plan_of}
use Rattle.tsb_controller.proofs.times.within_red_clearance.Goals as goal

pub loop-p-preserved : goal.loop-p-preserved
loop-p-preserved c =
    let p : ℕ = c.in-Some.p in
    let times : ℕ → Bool = λ q. is_below (timer_at c.args.now (slice_index c.args.since.now (q - 1))) (red_clear (plan_of c.args.plan.now) q) in
    let held = c.loop-p.invariant in
    let popped = c.in-Some.ensures in
    let joined = c.joined-timing.ensures in
    let judged : has c.joined-timing.result p ≡ (has c.args.phases p && times p) =
    joined.set ∙ c.is_timing.ensures ∙ ap (λ (l : ℕ). is_below (timer_at c.args.now (slice_index c.args.since.now (p - 1))) l) c.red_clear.ensures.value
    ∙ ap (λ (b : Bool). b && times p) (sym (held.within p popped.had)) in
    record {
      told = λ q from to out. elim (eqb_tells q p) [
        | inl same ↦ subst (λ (m : ℕ). has c.joined-timing.result m ≡ (has c.args.phases m && times m)) (sym same.1) judged
        | inr other ↦ joined.others q other.1 ∙ held.told q from to (sym (popped.others q other.1) ∙ out)
      ];
      within = λ q on. elim (eqb_tells q p) [
        | inl same ↦ subst (λ (m : ℕ). has c.args.phases m ≡ true) (sym same.1) (held.within p popped.had)
        | inr other ↦ held.within q (sym (popped.others q other.1) ∙ on)
      ];
      left = λ q on. elim (eqb_tells q p) [
        | inl same ↦ absurd (true≢false (sym (subst (λ (m : ℕ). has c.pop.new.self m ≡ true) same.1 on) ∙ popped.taken))
        | inr other ↦ joined.others q other.1 ∙ held.left q (sym (popped.others q other.1) ∙ on)
      ];
    }
