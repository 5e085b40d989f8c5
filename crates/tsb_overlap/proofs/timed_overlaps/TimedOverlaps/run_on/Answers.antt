use Rattle.std.proofs.Common.{◌≡◌, ℕ, ◌-◌, true, refl, sym, ap, ◌∙◌, subst, arith}
use Rattle.tsb_objects.specs.tsb_types.Sets.{has}
use Rattle.tsb_objects.specs.tsb_plan.PlanOf.{plan_of}
use Rattle.tsb_objects.specs.tsb_plan.Parts.{is_timed}
use Rattle.tsb_objects.specs.Checked.{checked_plan}
use Rattle.tsb_overlap.specs.Cells.{IsOverlapBy}
use Rattle.tsb_overlap.specs.Layer.{cells_of}
use Rattle.tsb_overlap.specs.Overlap.{run_on}
use Rattle.tsb_overlap.proofs.CellLemmas.{later, omitted-same}
use Rattle.tsb_overlap.proofs.AlongLemmas.{IsStep, holds_at, along-begins, along-goes_on, along-by, run-whole, held-whole, held-begins, held-goes_on}
use Rattle.tsb_overlap.proofs.timed_overlaps.TimedOverlaps.run_on.Goals as goal

pub loop-number-init : goal.loop-number-init
loop-number-init c = record {
  along = along-begins (run_on (checked_plan c.args.plan.now) c.args.is_preempted) c.args.now (checked_plan c.args.plan.now) (cells_of c.args.self.now) c.timed_overlaps-rest.result
      c.timed_overlaps-rest.ensures (λ q from to. later (c.args.now - 1) c.args.now (cells_of c.args.self.now) q (omega arith) (c.requires.by.each q from to));
  held = held-begins c.args.now c.args.is_preempted (checked_plan c.args.plan.now) (cells_of c.args.self.now) (has c.empty-held.result) c.timed_overlaps-rest.result
      c.empty-held.ensures c.timed_overlaps-rest.ensures;
  omitted = refl;
  lists = λ k small below. small;
  kept = refl;
  opened = c.requires.opened;
}

pub run_one-requires-clause-timed : goal.run_one-requires-clause-timed
run_one-requires-clause-timed c =
    subst (λ (o : ℕ). is_timed (checked_plan c.args.plan.now) o ≡ true) (sym c.of.ensures)
    (c.loop-number.invariant.along.timed c.in-Some.number c.in-Some.ensures.from_one c.in-Some.ensures.within c.in-Some.ensures.had)

pub run_one-requires-clause-by : goal.run_one-requires-clause-by
run_one-requires-clause-by c =
    subst (λ (o : ℕ). IsOverlapBy c.args.now (cells_of c.loop-number.self) o) (sym c.of.ensures)
    (c.loop-number.invariant.along.by c.in-Some.number c.in-Some.ensures.from_one c.in-Some.ensures.within)

pub loop-number-preserved : goal.loop-number-preserved
loop-number-preserved c =
    let held = c.loop-number.invariant in
    let seen = c.in-Some.ensures in
    let made = c.run_one.ensures in
    let n : ℕ = c.in-Some.number in
    let at : c.of.result ≡ n = c.of.ensures in
    record {
      along = along-goes_on (run_on (checked_plan c.args.plan.now) c.args.is_preempted) c.args.now (checked_plan c.args.plan.now) (cells_of c.args.self.now)
          (cells_of c.loop-number.self) (cells_of c.run_one.new.self) c.loop-number.rest c.with-rest.result n held.along seen.from_one seen.within seen.had c.with-rest.ensures.set
          c.with-rest.ensures.others
          (subst (λ (o : ℕ). IsStep (run_on (checked_plan c.args.plan.now) c.args.is_preempted) c.args.now o (cells_of c.loop-number.self) (cells_of c.run_one.new.self)) at
          (record { own = made.own; by = made.by; others = made.others }));
      held = held-goes_on c.args.now c.args.is_preempted (checked_plan c.args.plan.now) (cells_of c.args.self.now) (cells_of c.loop-number.self) (has c.loop-number.held)
          (has c.run_one.result) (has c.union-held.result) c.loop-number.rest c.with-rest.result n held.along held.held seen.from_one seen.within seen.had
          c.with-rest.ensures.others c.union-held.ensures
          (λ p. made.held p ∙ ap (λ (o : ℕ). holds_at c.args.now c.args.is_preempted (checked_plan c.args.plan.now) (cells_of c.loop-number.self) p o) at);
      omitted = made.omitted ∙ held.omitted;
      lists = λ k small below. made.lists k (held.lists k small below) below;
      kept = made.kept ∙ held.kept;
      opened = made.opened;
    }

pub returns-clause-state : goal.returns-clause-state
returns-clause-state c =
    run-whole c.args.now c.args.is_preempted (checked_plan c.args.plan.now) (cells_of c.args.self.now) (cells_of c.loop-number.self) c.loop-number.rest c.requires.begun c.requires.by
    c.loop-number.invariant.along (c.in_default.ensures.none refl)

pub returns-clause-held : goal.returns-clause-held
unfolding checked_plan plan_of
returns-clause-held c = λ p from to.
    held-whole c.args.now c.args.is_preempted (checked_plan c.args.plan.now) (cells_of c.args.self.now) (has c.loop-number.held) c.loop-number.rest c.requires.begun c.requires.by
    refl c.loop-number.invariant.held (c.in_default.ensures.none refl) p

pub returns-clause-omitted : goal.returns-clause-omitted
returns-clause-omitted c = omitted-same (cells_of c.args.self.now) (cells_of c.loop-number.self) c.loop-number.invariant.omitted

pub returns-clause-by : goal.returns-clause-by
returns-clause-by c =
    along-by (run_on (checked_plan c.args.plan.now) c.args.is_preempted) (c.args.now - 1) c.args.now (checked_plan c.args.plan.now) (cells_of c.args.self.now)
    (cells_of c.loop-number.self) c.loop-number.rest c.loop-number.invariant.along c.requires.by c.loop-number.invariant.lists c.loop-number.self.bank.cells_full
