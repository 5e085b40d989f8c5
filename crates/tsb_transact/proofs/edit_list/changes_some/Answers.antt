use Rattle.std.proofs.Common.{◌≡◌, ◌∙◌, ◌&&◌, true, arith, sym, subst, slice_index}
use Rattle.tsb_cells.specs.Bank.{cells_of}
use Rattle.tsb_plan.specs.Objects.{has_index}
use Rattle.tsb_plan.specs.PlanOf.{plan_of}
use Rattle.tsb_transact.specs.Matters.{is_about}
use Rattle.tsb_transact.specs.declared.edit.Edit.{Edit}
use Rattle.tsb_transact.specs.Cells.{desk_in}
use Rattle.tsb_transact.specs.Commit.{changes}
use Rattle.tsb_transact.proofs.PairLemmas.{any-none, any-here, any-later, edit-index}
use Rattle.tsb_transact.proofs.edit_list.changes_some.Goals as goal

pub is_change_about-requires : goal.is_change_about-requires
is_change_about-requires c =
    subst (λ (e : Edit). has_index e.id.object e.id.index ≡ true) (sym c.edit-edit.ensures)
    (edit-index (cells_of c.args.bank.now) c.requires c.loop-k.k c.loop-k.auto.k (omega (arith, c.loop-k-test.true, c.get.ensures)))

pub returns-then-is_change_about : goal.returns-then-is_change_about
unfolding desk_in
returns-then-is_change_about c =
    any-here (cells_of c.args.bank.now) (λ (e : Edit). is_about c.args.matter e.id.object && changes (plan_of c.args.plan.now) e) c.loop-k.k (slice_index (cells_of c.args.bank.now) 3) c.edit-edit.result c.is_change_about.result
    (omega (arith, c.loop-k-test.true, c.get.ensures)) c.edit-edit.ensures c.is_change_about.ensures c.if-is_change_about.true ∙ c.loop-k.invariant.rest

pub loop-k-preserved : goal.loop-k-preserved
loop-k-preserved c = record {
  rest = any-later (cells_of c.args.bank.now) (λ (e : Edit). is_about c.args.matter e.id.object && changes (plan_of c.args.plan.now) e) c.loop-k.k (slice_index (cells_of c.args.bank.now) 3) c.edit-edit.result c.is_change_about.result
      (omega (arith, c.loop-k-test.true, c.get.ensures)) c.edit-edit.ensures c.is_change_about.ensures c.if-is_change_about.false ∙ c.loop-k.invariant.rest;
}

pub returns : goal.returns
unfolding desk_in
returns c =
    sym (any-none (cells_of c.args.bank.now) (λ (e : Edit). is_about c.args.matter e.id.object && changes (plan_of c.args.plan.now) e) c.loop-k.k (slice_index (cells_of c.args.bank.now) 3)
    (omega (arith, c.loop-k-test.false, c.get.ensures))) ∙ c.loop-k.invariant.rest
