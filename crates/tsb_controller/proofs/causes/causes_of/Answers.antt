use Rattle.std.proofs.Common.{◌≡◌, ℕ, Option, true, sym, ◌∙◌, inl, inr, subst}
use Rattle.std.proofs.lemmas.Bool.Decides.{eqb_tells}
use Rattle.tsb_step.specs.tsb_types.Sets.{has, has_number}
use Rattle.tsb_objects.specs.Checked.{checked_plan}
use Rattle.tsb_phase.specs.declared.cause.Cause.{Cause}
use Rattle.tsb_phase.specs.declared.cause.Cause.TheVariants.{ForceOff, Gap, Maximum}
use Rattle.tsb_phase.specs.Causes.{cause}
use Rattle.tsb_phase.specs.Layer.{cells_of}
use Rattle.tsb_phase.specs.Promises.{given_of, read_in}
use Rattle.tsb_controller.proofs.EndingLemmas.{found-next, none-next}
use Rattle.tsb_controller.proofs.causes.causes_of.Goals as goal

pub loop-p-preserved-in-Some-cause : goal.loop-p-preserved-in-Some-cause
loop-p-preserved-in-Some-cause c =
    let held = c.loop-p.invariant in
    let popped = c.in-Some.ensures in
    let p : ℕ = c.in-Some.p in
    let found : ℕ → Option Cause = λ n. cause (checked_plan c.args.plan.now) (given_of c.args.conditions.now) n (read_in c.args.now (cells_of c.args.phases.now) n) in
    let is = sym c.cause.ensures ∙ c.in-Some-cause.is in
    record {
      within = λ n on. elim (eqb_tells n p) [
        | inl same ↦ subst (λ (m : ℕ). has c.args.ended m ≡ true) (sym same.1) (held.within p popped.had)
        | inr other ↦ held.within n (sym (popped.others n other.1) ∙ on)
      ];
      gap = λ n from to. c.with-causes.ensures.gap n
          ∙ found-next Gap (has c.args.ended) (has c.loop-p.rest) (has c.pop.new.self) found (has_number c.loop-p.causes.gap) p n (held.within p popped.had) popped.had popped.taken (λ apart. popped.others n apart) (held.gap n from to) c.in-Some-cause.cause is;
      maximum = λ n from to. c.with-causes.ensures.maximum n
          ∙ found-next Maximum (has c.args.ended) (has c.loop-p.rest) (has c.pop.new.self) found (has_number c.loop-p.causes.maximum) p n (held.within p popped.had) popped.had popped.taken (λ apart. popped.others n apart) (held.maximum n from to) c.in-Some-cause.cause is;
      force_off = λ n from to. c.with-causes.ensures.force_off n
          ∙ found-next ForceOff (has c.args.ended) (has c.loop-p.rest) (has c.pop.new.self) found (has_number c.loop-p.causes.force_off) p n (held.within p popped.had) popped.had popped.taken (λ apart. popped.others n apart) (held.force_off n from to) c.in-Some-cause.cause is;
    }

pub loop-p-preserved : goal.loop-p-preserved
loop-p-preserved c =
    let held = c.loop-p.invariant in
    let popped = c.in-Some.ensures in
    let p : ℕ = c.in-Some.p in
    let found : ℕ → Option Cause = λ n. cause (checked_plan c.args.plan.now) (given_of c.args.conditions.now) n (read_in c.args.now (cells_of c.args.phases.now) n) in
    let is = sym c.cause.ensures ∙ c.in_default-cause.is in
    record {
      within = λ n on. elim (eqb_tells n p) [
        | inl same ↦ subst (λ (m : ℕ). has c.args.ended m ≡ true) (sym same.1) (held.within p popped.had)
        | inr other ↦ held.within n (sym (popped.others n other.1) ∙ on)
      ];
      gap = λ n from to. none-next Gap (has c.args.ended) (has c.loop-p.rest) (has c.pop.new.self) found (has_number c.loop-p.causes.gap) p n (held.within p popped.had) popped.had popped.taken (λ apart. popped.others n apart) (held.gap n from to) is;
      maximum = λ n from to. none-next Maximum (has c.args.ended) (has c.loop-p.rest) (has c.pop.new.self) found (has_number c.loop-p.causes.maximum) p n (held.within p popped.had) popped.had popped.taken (λ apart. popped.others n apart) (held.maximum n from to) is;
      force_off = λ n from to. none-next ForceOff (has c.args.ended) (has c.loop-p.rest) (has c.pop.new.self) found (has_number c.loop-p.causes.force_off) p n (held.within p popped.had) popped.had popped.taken (λ apart. popped.others n apart) (held.force_off n from to) is;
    }
