use Rattle.std.proofs.Common.{◌≤◌, arith, length}
use Rattle.std.proofs.lemmas.Result.{err_from_is_err_and}
use Rattle.tsb_log_text.specs.Places.{no_row}
use Rattle.tsb_live_text.proofs.saved.SavedLemmas.{rows-end, rows-turn}
use Rattle.tsb_live_text.proofs.saved.SaysLemmas.{cut, ended, left, more}
use Rattle.tsb_live_text.proofs.saved.say_rows.Goals as goal

pub returns-in_err-say_row-clause-told : goal.returns-in_err-say_row-clause-told
returns-in_err-say_row-clause-told g c = let p = err_from_is_err_and c.from_residual.result c.from_residual.ensures.1 in
    rw p.1 (cut p.0 _ _ _ _ _ _ _ _ _ (left _ _ _ _ _ _ _ (rows-turn c.args.rows.now c.form_for-form.result c.loop-row.row-index no_row c.form_for-form.ensures c.loop-row-test.true) c.loop-row.invariant.saying) c.in_err-say_row.ensures.told)

pub loop-row-preserved : goal.loop-row-preserved
loop-row-preserved g c = record {
  saying = more _ _ _ _ _ _ _ _ _ (left _ _ _ _ _ _ _ (rows-turn c.args.rows.now c.form_for-form.result c.loop-row.row-index no_row c.form_for-form.ensures c.loop-row-test.true) c.loop-row.invariant.saying) c.in_ok-say_row.ensures.told;
  well = λ w. c.in_ok-say_row.ensures.blame (c.loop-row.invariant.well w);
}

pub returns-clause-told : goal.returns-clause-told
returns-clause-told g c =
    let past : length c.args.rows.now ≤ c.loop-row.row-index = omega (arith, c.loop-row-test.false) in
    ended _ _ _ _ _ (left _ _ _ _ _ _ _ (rows-end c.args.rows.now c.loop-row.row-index past) c.loop-row.invariant.saying)
