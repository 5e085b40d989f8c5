use Rattle.std.proofs.Common.{◌∙◌, arith, rules}
use Rattle.tsb_log_text.specs.Places.{no_row}
use Rattle.tsb_log_text.specs.RowInputs.{value_of}
use Rattle.tsb_text.proofs.kept.ChangeLemmas.{change-there, differs-as, no-change-there}
use Rattle.tsb_text.proofs.kept.changed.change_in.Goals as goal

pub returns-then-is_on : goal.returns-then-is_on
returns-then-is_on c =
    change-there (value_of c.args.which.now) c.args.rows.now c.loop-left.left no_row c.row_before.result (search rules) c.loop-left.invariant.within c.row_before.ensures
    (differs-as c.is_on.result c.is_on-in-loop-left.result _ _ c.is_on.ensures c.is_on-in-loop-left.ensures ∙ c.if-is_on.true) c.loop-left.invariant.same

pub loop-left-preserved : goal.loop-left-preserved
loop-left-preserved c = record {
  within = omega (arith, c.loop-left.invariant.within);
  same =
      no-change-there (value_of c.args.which.now) c.args.rows.now c.loop-left.left no_row c.row_before.result (search rules) c.loop-left.invariant.within c.row_before.ensures
      (differs-as c.is_on.result c.is_on-in-loop-left.result _ _ c.is_on.ensures c.is_on-in-loop-left.ensures ∙ c.if-is_on.false) c.loop-left.invariant.same;
}
