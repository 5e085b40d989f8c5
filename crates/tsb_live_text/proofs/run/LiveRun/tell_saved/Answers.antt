use Rattle.std.proofs.Common.{◌≡◌, ◌∙◌, ap, refl}
use Rattle.std.proofs.lemmas.Result.{err_from_is_err_and}
use Rattle.tsb_bench.specs.Held.{Held}
use Rattle.tsb_dialog.specs.Said.{with_feed}
use Rattle.tsb_dialog.proofs.SaidLemmas.{said-more}
use Rattle.tsb_live_text.specs.saved.Saved.{saved_text}
use Rattle.tsb_live_text.proofs.LiveLemmas.{cut-more, cut-same, said-same}
use Rattle.tsb_live_text.proofs.run.LiveRun.tell_saved.Goals as goal

pub returns-in_err-say_saved-clause-told : goal.returns-in_err-say_saved-clause-told
returns-in_err-say_saved-clause-told g c = let p = err_from_is_err_and c.from_residual-in_err-say_saved.result c.from_residual-in_err-say_saved.ensures.1 in
    let same : saved_text c.kept.result.now.kept c.now.result ≡ saved_text c.args.self.now.course.kept.kept c.args.self.now.course.bench.tick = (λ j. saved_text (c.kept.ensures j).kept ((c.now.ensures.now ∙ ap (λ (b : Held). b.tick) c.bench.ensures) j)) in
    rw p.1 (cut-same _ _ _ _ c.args.echo.now _ _ same (cut-more _ _ _ _ _ _ c.args.echo.now (with_feed (saved_text c.kept.result.now.kept c.now.result)) c.in_ok-add.ensures.ok c.in_err-say_saved.ensures.told))

pub returns-clause-told : goal.returns-clause-told
returns-clause-told g c =
    let same : saved_text c.kept.result.now.kept c.now.result ≡ saved_text c.args.self.now.course.kept.kept c.args.self.now.course.bench.tick = (λ j. saved_text (c.kept.ensures j).kept ((c.now.ensures.now ∙ ap (λ (b : Held). b.tick) c.bench.ensures) j)) in
    (refl, said-same _ _ _ _ c.args.echo.now _ _ same (said-more _ _ _ _ _ _ c.args.echo.now (with_feed (saved_text c.kept.result.now.kept c.now.result)) c.in_ok-add.ensures.ok c.in_ok-say_saved.ensures.told))
