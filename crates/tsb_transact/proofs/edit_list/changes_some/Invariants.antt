use Rattle.std.proofs.Common.{◌≡◌, ◌+◌, ◌-◌, ◌&&◌, map, slice_index}
use Rattle.std.specs.List.{list_any}
use Rattle.tsb_cells.specs.Bank.{cells_of}
use Rattle.tsb_objects.specs.tsb_types.Lists.{run_from}
use Rattle.tsb_transact.specs.Matters.{is_about}
use Rattle.tsb_plan.specs.PlanOf.{plan_of}
use Rattle.tsb_transact.specs.Cells.{edit_in}
use Rattle.tsb_transact.specs.Commit.{changes}
use Rattle.tsb_transact.proofs.edit_list.changes_some.Given as goal

abbrev pub invariant-loop-k : goal.invariant-loop-k
invariant-loop-k l = record {
  rest : list_any (λ e. is_about l.matter e.id.object && changes (plan_of l.plan) e) (map (edit_in (cells_of l.bank)) (run_from l.k (slice_index (cells_of l.bank) 3 + 1 - l.k)))
      ≡ list_any (λ e. is_about l.matter e.id.object && changes (plan_of l.plan) e) (map (edit_in (cells_of l.bank)) (run_from 1 (slice_index (cells_of l.bank) 3)));
}
