use Rattle.std.proofs.Common.{◌≡◌, ℕ, ◌<◌, List, length, map, set, sym, ap, subst, arith, ◌∙◌}
use Rattle.std.proofs.lemmas.List.{length-set}
use Rattle.tsb_cells.specs.Diff.{apply_diff, part}
use Rattle.tsb_plan.specs.declared.object.TheConstants.{PLAN_CELLS}
use Rattle.tsb_plan.specs.Objects.{AreInRange}
use Rattle.tsb_plan.proofs.RangeLemmas.{cell-fits}
use Rattle.tsb_controller.proofs.WordLemmas.{low, small-all, small-set, word-all, word-left, word-taken}
use Rattle.tsb_controller.proofs.plan_changes.put_back.Goals as goal

pub loop-cell-init : goal.loop-cell-init
loop-cell-init c =
    let values : List ℕ = c.args.plan.now.values in
    record {
      full = ap length c.words.ensures ∙ c.args.plan.now.full;
      small = rw c.words.ensures (small-all values PLAN_CELLS (omega (arith, c.args.plan.now.full)) (λ j below. cell-fits values j c.args.plan.now.ranged below));
      rest = rw c.words.ensures (λ j. map low (apply_diff values (part 0 PLAN_CELLS c.args.entries)));
    }

pub loop-cell-preserved-then-cell-lt-PLAN_CELLS : goal.loop-cell-preserved-then-cell-lt-PLAN_CELLS
loop-cell-preserved-then-cell-lt-PLAN_CELLS c =
    let words : List ℕ = c.loop-cell.words in
    let cell : ℕ = c.in-Some.cell in
    let fits : c.low_word.result < 65536 = omega (arith, c.low_word.ensures) in
    record {
      full = length-set words cell c.low_word.result ∙ c.loop-cell.invariant.full;
      small = λ k. small-set words cell c.low_word.result k fits c.loop-cell.invariant.small;
      rest = word-taken PLAN_CELLS (cell, c.in-Some.old) c.next.new.self c.loop-cell.entries words _ _ c.in-Some.ensures.steps c.if-cell-lt-PLAN_CELLS.true
          (ap (set words cell) c.low_word.ensures) c.loop-cell.invariant.rest;
    }

pub loop-cell-preserved : goal.loop-cell-preserved
loop-cell-preserved c = record {
  full = c.loop-cell.invariant.full;
  small = c.loop-cell.invariant.small;
  rest = word-left PLAN_CELLS (c.in-Some.cell, c.in-Some.old) c.next.new.self c.loop-cell.entries c.loop-cell.words _ c.in-Some.ensures.steps
      c.if-cell-lt-PLAN_CELLS.false c.loop-cell.invariant.rest;
}

pub of_words-requires : goal.of_words-requires
of_words-requires c =
    let is : c.loop-cell.words ≡ apply_diff c.args.plan.now.values (part 0 PLAN_CELLS c.args.entries) =
    word-all c.args.plan.now.values c.loop-cell.words c.args.entries c.loop-cell.entries c.args.plan.now.full c.requires c.loop-cell.invariant.small
    c.in_default.ensures.steps.0 c.loop-cell.invariant.rest in
    subst AreInRange (sym is) c.requires

pub returns : goal.returns
returns c =
    c.of_words.ensures
    ∙ word-all c.args.plan.now.values c.loop-cell.words c.args.entries c.loop-cell.entries c.args.plan.now.full c.requires c.loop-cell.invariant.small
    c.in_default.ensures.steps.0 c.loop-cell.invariant.rest
