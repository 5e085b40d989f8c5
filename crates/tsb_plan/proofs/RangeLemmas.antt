-- Cells that are in their ranges fit the words that keep them.
use Rattle.std.proofs.Common.{◌≡◌, ℕ, ◌+◌, ◌-◌, ◌<◌, ◌≤◌, List, get_or, arith, rules, ap, ◌∙◌}
use Rattle.std.proofs.lemmas.Bool.{cond-true}
use Rattle.tsb_plan.specs.declared.object.Object.{Object}
use Rattle.tsb_plan.specs.declared.object.TheConstants.{PLAN_CELLS}
use Rattle.tsb_plan.specs.Laws.{IsCellOf}
use Rattle.tsb_plan.specs.Objects.{value_in, has_index, first_cell, greatest, AreInRange}
use Rattle.tsb_plan.proofs.CellLemmas.{leave_no_cell}

-- no object takes a value over 65,535
greatest-fits : (o : Object) → greatest o < 65536
greatest-fits o = search rules

-- so each cell fits 16 bits
pub cell-fits : (cells : List ℕ) (k : ℕ) → AreInRange cells → k < PLAN_CELLS → get_or cells k 0 < 65536
cell-fits cells k ranged within =
    let found : (o : Object) × ((i : ℕ) × IsCellOf k o i) = leave_no_cell k within in
    let o : Object = found.0 in
    let i : ℕ = found.1.0 in
    let read : value_in cells o i ≡ get_or cells (first_cell o + (i - 1)) 0 = cond-true (has_index o i) (get_or cells (first_cell o + (i - 1)) 0) 0 found.1.1.has in
    let here : value_in cells o i ≡ get_or cells k 0 = read ∙ ap (λ (n : ℕ). get_or cells n 0) found.1.1.at in
    let low : value_in cells o i ≤ greatest o = ranged.each o i in
    let most : greatest o < 65536 = greatest-fits o in
    omega arith
