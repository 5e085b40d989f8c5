use Rattle.std.proofs.Common.{refl}
use Rattle.std.proofs.lemmas.Result.{err_from_is_err_and}
use Rattle.tsb_live_text.proofs.saved.SavedLemmas.{saved-begun}
use Rattle.tsb_live_text.proofs.saved.SaysLemmas.{cut, last, more, says}
use Rattle.tsb_live_text.proofs.saved.say_saved.Goals as goal

pub returns-in_err-add-clause-told : goal.returns-in_err-add-clause-told
returns-in_err-add-clause-told g c = let p = err_from_is_err_and c.from_residual.result c.from_residual.ensures.1 in
    rw p.1 (cut p.0 _ _ _ _ _ _ _ _ _ (saved-begun c.args.kept.now.kept c.args.now c.args.kept.now.kept.rows c.args.kept.now.kept.others _ _ refl refl) c.in_err-add.ensures.front)

pub returns-in_err-say_rows-clause-told : goal.returns-in_err-say_rows-clause-told
returns-in_err-say_rows-clause-told g c = let p = err_from_is_err_and c.from_residual-in_err-say_rows.result c.from_residual-in_err-say_rows.ensures.1 in
    rw p.1 (cut p.0 _ _ _ _ _ _ _ _ _
    (more _ _ _ _ _ _ _ _ _ (saved-begun c.args.kept.now.kept c.args.now c.rows.result.now c.args.kept.now.kept.others _ _ c.rows.ensures refl) c.in_ok-add.ensures.ok)
    c.in_err-say_rows.ensures.told)

pub returns-in_err-add-2-clause-told : goal.returns-in_err-add-2-clause-told
returns-in_err-add-2-clause-told g c = let p = err_from_is_err_and c.from_residual-in_err-add-2.result c.from_residual-in_err-add-2.ensures.1 in
    rw p.1 (cut p.0 _ _ _ _ _ _ _ _ _
    (more _ _ _ _ _ _ _ _ _
    (more _ _ _ _ _ _ _ _ _ (saved-begun c.args.kept.now.kept c.args.now c.rows.result.now c.args.kept.now.kept.others _ _ c.rows.ensures refl) c.in_ok-add.ensures.ok)
    c.in_ok-say_rows.ensures.told)
    c.in_err-add-2.ensures.front)

pub returns-in_err-say_commands-clause-told : goal.returns-in_err-say_commands-clause-told
returns-in_err-say_commands-clause-told g c = let p = err_from_is_err_and c.from_residual-in_err-say_commands.result c.from_residual-in_err-say_commands.ensures.1 in
    rw p.1 (cut p.0 _ _ _ _ _ _ _ _ _
    (more _ _ _ _ _ _ _ _ _
    (more _ _ _ _ _ _ _ _ _
    (more _ _ _ _ _ _ _ _ _ (saved-begun c.args.kept.now.kept c.args.now c.rows.result.now c.others.result.now _ _ c.rows.ensures c.others.ensures) c.in_ok-add.ensures.ok)
    c.in_ok-say_rows.ensures.told)
    c.in_ok-add-2.ensures.ok)
    c.in_err-say_commands.ensures.told)

pub returns-clause-told : goal.returns-clause-told
returns-clause-told g c =
    last c.add-3.result _ _ _ _ _ _ _ _
    (more _ _ _ _ _ _ _ _ _
    (more _ _ _ _ _ _ _ _ _
    (more _ _ _ _ _ _ _ _ _
    (more _ _ _ _ _ _ _ _ _ (saved-begun c.args.kept.now.kept c.args.now c.rows.result.now c.others.result.now _ _ c.rows.ensures c.others.ensures) c.in_ok-add.ensures.ok)
    c.in_ok-say_rows.ensures.told)
    c.in_ok-add-2.ensures.ok)
    c.in_ok-say_commands.ensures.told)
    (says c.add-3.result _ _ _ _ _ c.add-3.ensures.ok c.add-3.ensures.front)
