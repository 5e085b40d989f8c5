use Rattle.std.proofs.Common.{Err, [], ◌∷◌, refl, Ok}
use Rattle.std.proofs.lemmas.Result.{err_from_is_err_and}
use Rattle.tsb_dialog.specs.Said.{with_feed}
use Rattle.tsb_dialog.proofs.SaidLemmas.{still-cut}
use Rattle.tsb_live_text.proofs.LiveLemmas.{cut-more, told-end}
use Rattle.tsb_live_text.proofs.run.tell.Goals as goal

pub returns-in_err-add-clause-told : goal.returns-in_err-add-clause-told
returns-in_err-add-clause-told g c = let p = err_from_is_err_and c.from_residual.result c.from_residual.ensures.1 in
    rw p.1 (still-cut _ _ _ _ c.args.echo.now (with_feed c.args.line.now) c.in_err-add.ensures.front)

pub returns-in_err-add-2-clause-told : goal.returns-in_err-add-2-clause-told
returns-in_err-add-2-clause-told g c = let p = err_from_is_err_and c.from_residual-in_err-add-2.result c.from_residual-in_err-add-2.ensures.1 in
    rw p.1 (cut-more _ _ _ _ _ _ c.args.echo.now (with_feed c.args.line.now) c.in_ok-add.ensures.ok (still-cut _ _ _ _ c.args.line.now (10 ∷ []) c.in_err-add-2.ensures.front))

pub returns-in_err-add-3-clause-told : goal.returns-in_err-add-3-clause-told
returns-in_err-add-3-clause-told g c = let p = err_from_is_err_and c.from_residual-in_err-add-3.result c.from_residual-in_err-add-3.ensures.1 in
    rw p.1 (told-end (Err p.0) _ _ _ _ _ _ _ _ c.args.echo.now c.args.line.now (10 ∷ []) refl c.in_ok-add.ensures.ok c.in_ok-add-2.ensures.ok c.in_err-add-3.ensures.front)

pub returns-clause-told : goal.returns-clause-told
returns-clause-told g c = (refl, told-end (Ok tt) _ _ _ _ _ _ _ _ c.args.echo.now c.args.line.now (10 ∷ []) refl c.in_ok-add.ensures.ok c.in_ok-add-2.ensures.ok c.in_ok-add-3.ensures.ok)
