use Rattle.std.proofs.Common.{◌≡◌, ◌∙◌, ℕ, true, false, Some, sym, ap, ap₂, subst, arith, inl, inr}
use Rattle.std.specs.Option.{option_map}
use Rattle.std.proofs.lemmas.Bool.{cases_eq}
use Rattle.tsb_objects.specs.tsb_plan.Plan.{Plan}
use Rattle.tsb_objects.specs.tsb_plan.PlanOf.{plan_of}
use Rattle.tsb_objects.specs.Checked.{checked_plan}
use Rattle.tsb_objects.specs.tsb_types.Lists.{first, run_from}
use Rattle.tsb_overlap.specs.Cells.{overlap_in}
use Rattle.tsb_overlap.specs.Layer.{cells_of}
use Rattle.tsb_overlap.specs.Overlap.{Overlap, holds, trail_left}
use Rattle.tsb_overlap.specs.Promises.{with_left}
use Rattle.tsb_overlap.proofs.HolderLemmas.{first-from, first-never, held-some, held-none}
use Rattle.tsb_overlap.proofs.timed_overlaps.TimedOverlaps.holder.Goals as goal

pub loop-number-preserved : goal.loop-number-preserved
loop-number-preserved c =
    let f : ℕ → Overlap = overlap_in c.args.now (cells_of c.args.self.now) in
    let here : holds (checked_plan c.args.plan.now) c.args.is_preempted f c.args.phase c.loop-number.number ≡ false =
    subst (λ (o : ℕ). holds (checked_plan c.args.plan.now) c.args.is_preempted f c.args.phase o ≡ false) c.of-o.ensures
    (subst (λ (p : Plan). holds p c.args.is_preempted f c.args.phase c.of-o.result ≡ false) c.plan.ensures.plan
    (held-none (holds (plan_of c.plan.result.now) c.args.is_preempted f c.args.phase c.of-o.result)
    (trail_left (plan_of c.plan.result.now) c.args.is_preempted c.of-o.result (f c.of-o.result) (f c.of-o.result).interval) c.in_default.ensures)) in
    record {
      from = omega arith;
      none = λ q below from.
          elim (cases_eq q c.loop-number.number) [
            | inl same ↦ subst (λ (o : ℕ). holds (checked_plan c.args.plan.now) c.args.is_preempted f c.args.phase o ≡ false) (sym same) here
            | inr other ↦ c.loop-number.invariant.none q (omega (arith, below, other)) from
          ];
    }

pub returns-in-Some : goal.returns-in-Some
unfolding checked_plan plan_of
returns-in-Some c =
    let f : ℕ → Overlap = overlap_in c.args.now (cells_of c.args.self.now) in
    let plan : Plan = checked_plan c.args.plan.now in
    let n : ℕ = c.loop-number.number in
    let told = held-some (holds (plan_of c.plan.result.now) c.args.is_preempted f c.args.phase c.of-o.result)
    (trail_left (plan_of c.plan.result.now) c.args.is_preempted c.of-o.result (f c.of-o.result) (f c.of-o.result).interval) c.in-Some.left c.in-Some.ensures in
    let here : holds plan c.args.is_preempted f c.args.phase n ≡ true =
    subst (λ (o : ℕ). holds plan c.args.is_preempted f c.args.phase o ≡ true) c.of-o.ensures
    (subst (λ (p : Plan). holds p c.args.is_preempted f c.args.phase c.of-o.result ≡ true) c.plan.ensures.plan told.0) in
    let left : c.in-Some.left ≡ trail_left plan c.args.is_preempted n (f n) (f n).interval =
    told.1 ∙ ap₂ (λ (p : Plan) (o : ℕ). trail_left p c.args.is_preempted o (f o) (f o).interval) c.plan.ensures.plan c.of-o.ensures in
    let found : first (holds plan c.args.is_preempted f c.args.phase) (run_from 1 plan.counts.overlaps) ≡ Some n =
    first-from plan.counts.overlaps (holds plan c.args.is_preempted f c.args.phase) 1 n c.loop-number.invariant.from (omega arith) here
    (λ q from below. c.loop-number.invariant.none q below from) in
    ap₂ (λ (o k : ℕ). Some (o, k)) c.of-o.ensures left
    ∙ sym (ap (option_map (with_left c.args.now c.args.is_preempted plan (cells_of c.args.self.now))) found)

pub returns : goal.returns
unfolding checked_plan plan_of
returns c =
    let f : ℕ → Overlap = overlap_in c.args.now (cells_of c.args.self.now) in
    let plan : Plan = checked_plan c.args.plan.now in
    sym (ap (option_map (with_left c.args.now c.args.is_preempted plan (cells_of c.args.self.now)))
    (first-never plan.counts.overlaps (holds plan c.args.is_preempted f c.args.phase) 1
    (λ q from below. c.loop-number.invariant.none q (omega (arith, below, c.loop-number-test.false)) from)))
