use Rattle.std.proofs.Common.{◌∙◌, refl}
use Rattle.std.proofs.lemmas.Result.{err_from_is_err_and}
use Rattle.tsb_text.specs.declared.rows.Rows.TheVariants.{Held}
use Rattle.tsb_text.specs.Rows.{rows_in}
use Rattle.tsb_live_text.specs.Live.{setup}
use Rattle.tsb_live_text.proofs.LiveLemmas.{does-break, does-leave, obeys-so}
use Rattle.tsb_live_text.proofs.run.LiveRun.obey.Goals as goal

pub returns-in_err-refusal-clause-done : goal.returns-in_err-refusal-clause-done
returns-in_err-refusal-clause-done g c s stands = let p = err_from_is_err_and c.from_residual.result c.from_residual.ensures.1 in
    rw p.1 (does-break _ _ p.0 c.args.self.now s _ _ _ _ (obeys-so c.args.self.now s c.args.line.now c.deref.result.now c.args.command stands (c.deref.ensures.0 ∙ c.echo-echo.ensures))
    (c.in_err-refusal.ensures.done (setup s) (rows_in (Held s.row)) s.inputs stands.stands))

pub returns-clause-done : goal.returns-clause-done
returns-clause-done g c s stands =
    does-leave _ _ c.in_ok-refusal.refusal c.fault_by.result c.args.self.now _ s _ _ _ _ stands c.obey.ensures.mode refl refl refl
    (obeys-so c.args.self.now s c.args.line.now c.deref.result.now c.args.command stands (c.deref.ensures.0 ∙ c.echo-echo.ensures)) c.fault_by.ensures
    (c.in_ok-refusal.ensures.done (setup s) (rows_in (Held s.row)) s.inputs stands.stands)
