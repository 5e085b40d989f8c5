use Rattle.std.proofs.Common.{◌≡◌, ◌+◌, ◌<◌, ℕ, List, [], ◌∷◌, ◌++◌, length, drop, ap, arith, subst, ◌∙◌}
use Rattle.std.proofs.lemmas.List.{length_push}
use Rattle.tsb_cells.specs.Diff.{diff_from}
use Rattle.tsb_controller.proofs.PlanChangeLemmas.{difference-taken, difference-left}
use Rattle.tsb_controller.proofs.plan_changes.differences_within.Goals as goal
use Rattle.tsb_controller.proofs.plan_changes.differences_within.Goals.{then-old-cell, else-old-cell}

pub loop-k-preserved : goal.loop-k-preserved
loop-k-preserved g c =
    let before : List ℕ = c.args.before.now.values in
    let after : List ℕ = c.args.after.now.values in
    let within : c.loop-k.k < length before = omega (arith, c.args.before.now.full) in
    let also : c.loop-k.k < length after = omega (arith, c.args.after.now.full) in
    elim c.if-old-cell.branch [
      | then-old-cell w ↦
          let grows : c.if-old-cell.out.items ≡ c.loop-k.out.items ++ (c.loop-k.k, c.cell-old.result) ∷ [] =
          ap (λ a. a.items) w.out-is ∙ w.push.ensures.items in
          let longer : length c.if-old-cell.out.items ≡ length c.loop-k.out.items + 1 = ap length grows ∙ length_push c.loop-k.out.items _ in
          record {
            to = omega arith;
            found = difference-taken c.loop-k.k before after c.loop-k.out.items _ _ _ _ within also c.cell-old.ensures c.cell.ensures w.if-old-cell.true
                grows c.loop-k.invariant.found;
            room = omega arith;
          }
      | else-old-cell w ↦
          let stays : length c.if-old-cell.out.items ≡ length c.loop-k.out.items = ap (λ a. length a.items) w.out-is in
          record {
            to = omega arith;
            found = rw w.out-is (difference-left c.loop-k.k before after c.loop-k.out.items _ _ _ within also c.cell-old.ensures c.cell.ensures w.if-old-cell.false c.loop-k.invariant.found);
            room = omega arith;
          }
    ]

pub returns-clause-changes : goal.returns-clause-changes
returns-clause-changes g c =
    let k : c.loop-k.k ≡ c.args.end = omega (arith, c.loop-k.invariant.to, c.loop-k-test.false) in
    subst (λ (n : ℕ). c.loop-k.out.items ++ diff_from n (drop n c.args.before.now.values) (drop n c.args.after.now.values)
    ≡ c.args.out.now.items ++ diff_from c.args.first (drop c.args.first c.args.before.now.values) (drop c.args.first c.args.after.now.values)) k c.loop-k.invariant.found
