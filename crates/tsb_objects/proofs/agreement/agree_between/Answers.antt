use Rattle.std.proofs.Common.{◌≡◌, ◌≤◌, ◌∙◌, ap₂, sym, arith, ℕ, List}
use Rattle.std.specs.List.{between}
use Rattle.tsb_plan.specs.declared.object.TheConstants.{PLAN_CELLS}
use Rattle.tsb_plan.specs.Objects.{first_cell}
use Rattle.tsb_plan.specs.PlanOf.{plan_of}
use Rattle.tsb_objects.proofs.RangeLemmas.{first-cells, first-cell-within, agree-between, between-agree}
use Rattle.tsb_objects.proofs.agreement.agree_between.Goals as goal

pub has_same_cells-requires-clause-order : goal.has_same_cells-requires-clause-order
has_same_cells-requires-clause-order c =
    let low : first_cell c.args.from ≤ first_cell c.args.to = first-cells c.args.from c.args.to c.requires in
    omega (arith, low, c.first_cell.ensures, c.first_cell-2.ensures)

pub has_same_cells-requires-clause-within : goal.has_same_cells-requires-clause-within
has_same_cells-requires-clause-within c =
    let low : first_cell c.args.to ≤ PLAN_CELLS = first-cell-within c.args.to in
    omega (arith, low, c.first_cell-2.ensures)

pub returns : goal.returns
unfolding plan_of
returns c =
    let from : ℕ = first_cell c.args.from in
    let to : ℕ = first_cell c.args.to in
    let own : List ℕ = c.args.plan.now.values in
    let others : List ℕ = c.args.other.now.values in
    let places : (cells : List ℕ) → between c.first_cell.result c.first_cell-2.result cells ≡ between from to cells =
    λ cells. ap₂ (λ (i j : ℕ). between i j cells) c.first_cell.ensures c.first_cell-2.ensures in (
      (λ same. agree-between own others c.args.from c.args.to (sym (places own) ∙ c.has_same_cells.ensures.0 same ∙ places others)),
      (λ agree. c.has_same_cells.ensures.1
          (places own ∙ between-agree own others c.args.from c.args.to c.args.plan.now.full c.args.other.now.full c.requires agree ∙ sym (places others))),
    )
