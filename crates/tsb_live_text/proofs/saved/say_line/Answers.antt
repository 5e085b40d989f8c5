use Rattle.std.proofs.Common.{refl}
use Rattle.std.proofs.lemmas.Result.{err_from_is_err_and}
use Rattle.tsb_live_text.proofs.saved.SavedLemmas.{line-cut, line-said}
use Rattle.tsb_live_text.proofs.saved.say_line.Goals as goal

pub returns-in_err-add-clause-told : goal.returns-in_err-add-clause-told
returns-in_err-add-clause-told g c plain = let p = err_from_is_err_and c.from_residual.result c.from_residual.ensures.1 in
    rw p.1 (line-cut p.0 c.args.line.now _ _ _ _ plain c.in_err-add.ensures.front)

pub returns-clause-told : goal.returns-clause-told
returns-clause-told g c plain = line-said c.add-2.result c.args.line.now _ _ _ _ _ _ _ plain refl c.in_ok-add.ensures.ok c.add-2.ensures.ok c.add-2.ensures.front
