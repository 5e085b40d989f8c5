use Rattle.std.proofs.Common.{◌≡◌, ◌+◌, ◌-◌, ◌*◌, ◌≤◌, ◌++◌, ℕ, List, length, drop, append-nil, arith, sym, ap, ap₂, ◌∙◌}
use Rattle.tsb_cells.specs.Diff.{diff_from}
use Rattle.tsb_plan.specs.declared.object.TheConstants.{PLAN_CELLS}
use Rattle.tsb_controller.proofs.PlanChangeLemmas.{none-left, passed-over, to-next}
use Rattle.tsb_controller.proofs.plan_changes.differences_onto.Goals as goal
use Rattle.tsb_controller.proofs.plan_changes.differences_onto.Goals.{then-not-are_same, else-not-are_same}

pub loop-block-preserved : goal.loop-block-preserved
loop-block-preserved g c =
    let before : List ℕ = c.args.before.now.values in
    let after : List ℕ = c.args.after.now.values in
    let first : ℕ = c.loop-block.block * 64 in
    let end : ℕ = c.min-end.result in
    let from : first ≤ end = omega (arith, c.min-end.ensures, c.loop-block-test.true) in
    let low : end ≤ first + 64 = omega (arith, c.min-end.ensures) in
    let top : end ≤ PLAN_CELLS = omega (arith, c.min-end.ensures) in
    let rest : ℕ → List (ℕ × ℕ) = λ m. diff_from m (drop m before) (drop m after) in
    let next : rest end ≡ rest ((c.loop-block.block + 1) * 64) =
    to-next c.loop-block.block end PLAN_CELLS before after c.args.before.now.full c.min-end.ensures in
    elim c.if-not-are_same.branch [
      | then-not-are_same w ↦
          let longer : length c.if-not-are_same.out.items ≤ length c.loop-block.out.items + (end - first) = rw w.out-is w.differences_within.ensures.len in
          record {
            found = ap₂ (λ (xs ys : List (ℕ × ℕ)). xs ++ ys) (ap (λ a. a.items) w.out-is) (sym next) ∙ w.differences_within.ensures.changes ∙ c.loop-block.invariant.found;
            room = omega (arith, longer, from, low, c.loop-block.invariant.room);
            most = omega (arith, longer, from, top, c.loop-block.invariant.room);
          }
      | else-not-are_same w ↦
          let whole : first + (end - first) ≡ end = omega (arith, from) in
          let passed : rest first ≡ rest end =
          passed-over (end - first) first before after (omega (arith, whole, top, c.args.before.now.full)) (omega (arith, whole, top, c.args.after.now.full))
          (λ j since below. c.are_same.ensures.0 w.if-not-are_same.false j since (omega (arith, below, whole)))
          ∙ ap rest whole in
          let stays : length c.if-not-are_same.out.items ≡ length c.loop-block.out.items = ap (λ a. length a.items) w.out-is in
          record {
            found = ap₂ (λ (xs ys : List (ℕ × ℕ)). xs ++ ys) (ap (λ a. a.items) w.out-is) (sym (passed ∙ next)) ∙ c.loop-block.invariant.found;
            room = omega (arith, stays, c.loop-block.invariant.room);
            most = omega (arith, stays, c.loop-block.invariant.most);
          }
    ]

pub returns-clause-changes : goal.returns-clause-changes
returns-clause-changes g c =
    let k : ℕ = c.loop-block.block * 64 in
    let before : List ℕ = c.args.before.now.values in
    let over : length before ≤ k = omega (arith, c.loop-block-test.false, c.args.before.now.full) in
    sym (append-nil c.loop-block.out.items)
    ∙ ap (λ (es : List (ℕ × ℕ)). c.loop-block.out.items ++ es) (sym (none-left k before c.args.after.now.values over)) ∙ c.loop-block.invariant.found
