use Rattle.std.proofs.Common.{◌≡◌, ℕ, true, List, refl, sym, ap, ◌∙◌, subst}
use Rattle.tsb_objects.specs.tsb_types.declared.flow.OverlapLights.{OverlapLights}
use Rattle.tsb_objects.specs.tsb_plan.Parts.{is_timed}
use Rattle.tsb_objects.specs.Checked.{checked_plan}
use Rattle.tsb_overlap.specs.Cells.{IsOverlapBy, omitted_in}
use Rattle.tsb_overlap.specs.Layer.{cells_of}
use Rattle.tsb_overlap.specs.Overlap.{settled}
use Rattle.tsb_overlap.specs.Reading.{given_by}
use Rattle.tsb_overlap.proofs.CellLemmas.{omitted-same}
use Rattle.tsb_overlap.proofs.AlongLemmas.{IsStep, along-begins, along-goes_on, along-by, settle-whole}
use Rattle.tsb_overlap.proofs.timed_overlaps.TimedOverlaps.settle.Goals as goal

pub loop-number-init : goal.loop-number-init
loop-number-init c = record {
  along = λ lights.
      along-begins (settled (checked_plan c.args.plan.now) (given_by c.args.now c.args.seen.now (omitted_in (cells_of c.args.self.now)) lights)) c.args.now
      (checked_plan c.args.plan.now) (cells_of c.args.self.now) c.timed_overlaps-rest.result c.timed_overlaps-rest.ensures c.requires.by.each;
  omitted = refl;
  lists = λ k small below. small;
  kept = refl;
  opened = c.requires.opened;
}

pub settle_one-requires-clause-timed : goal.settle_one-requires-clause-timed
settle_one-requires-clause-timed c =
    subst (λ (o : ℕ). is_timed (checked_plan c.args.plan.now) o ≡ true) (sym c.of.ensures)
    ((c.loop-number.invariant.along (record { green = c.loop-number.rest; flashing = c.loop-number.rest; yellow = c.loop-number.rest })).timed
    c.in-Some.number c.in-Some.ensures.from_one c.in-Some.ensures.within c.in-Some.ensures.had)

pub settle_one-requires-clause-by : goal.settle_one-requires-clause-by
settle_one-requires-clause-by c =
    subst (λ (o : ℕ). IsOverlapBy c.args.now (cells_of c.loop-number.self) o) (sym c.of.ensures)
    ((c.loop-number.invariant.along (record { green = c.loop-number.rest; flashing = c.loop-number.rest; yellow = c.loop-number.rest })).by
    c.in-Some.number c.in-Some.ensures.from_one c.in-Some.ensures.within)

pub loop-number-preserved : goal.loop-number-preserved
loop-number-preserved c =
    let held = c.loop-number.invariant in
    let seen = c.in-Some.ensures in
    let made = c.settle_one.ensures in
    let n : ℕ = c.in-Some.number in
    let at : c.of.result ≡ n = c.of.ensures in
    let first : List ℕ = cells_of c.args.self.now in
    let omits : omitted_in first c.of.result ≡ c.contains.result = ap (omitted_in first) at ∙ sym (c.omitted-omitted.ensures n) ∙ sym c.contains.ensures in
    record {
      along = λ lights.
          along-goes_on (settled (checked_plan c.args.plan.now) (given_by c.args.now c.args.seen.now (omitted_in first) lights)) c.args.now (checked_plan c.args.plan.now) first
          (cells_of c.loop-number.self) (cells_of c.settle_one.new.self) c.loop-number.rest c.with-rest.result n (held.along lights) seen.from_one seen.within seen.had
          c.with-rest.ensures.set c.with-rest.ensures.others
          (subst (λ (o : ℕ). IsStep (settled (checked_plan c.args.plan.now) (given_by c.args.now c.args.seen.now (omitted_in first) lights)) c.args.now o
          (cells_of c.loop-number.self) (cells_of c.settle_one.new.self)) at
          (record { own = made.own (omitted_in first) lights omits; by = made.by; others = made.others }));
      omitted = made.omitted ∙ held.omitted;
      lists = λ k small below. made.lists k (held.lists k small below) below;
      kept = made.kept ∙ held.kept;
      opened = made.opened;
    }

pub returns-clause-state : goal.returns-clause-state
returns-clause-state c = λ lights.
    settle-whole c.args.now (given_by c.args.now c.args.seen.now (omitted_in (cells_of c.args.self.now)) lights) (checked_plan c.args.plan.now) (cells_of c.args.self.now)
    (cells_of c.loop-number.self) c.loop-number.rest (c.loop-number.invariant.along lights) (c.in_default.ensures.none refl)

pub returns-clause-omitted : goal.returns-clause-omitted
returns-clause-omitted c = omitted-same (cells_of c.args.self.now) (cells_of c.loop-number.self) c.loop-number.invariant.omitted

pub returns-clause-by : goal.returns-clause-by
returns-clause-by c =
    let lights : OverlapLights = record { green = c.loop-number.rest; flashing = c.loop-number.rest; yellow = c.loop-number.rest } in
    along-by (settled (checked_plan c.args.plan.now) (given_by c.args.now c.args.seen.now (omitted_in (cells_of c.args.self.now)) lights)) c.args.now c.args.now
    (checked_plan c.args.plan.now) (cells_of c.args.self.now) (cells_of c.loop-number.self) c.loop-number.rest (c.loop-number.invariant.along lights) c.requires.by
    c.loop-number.invariant.lists c.loop-number.self.bank.cells_full
