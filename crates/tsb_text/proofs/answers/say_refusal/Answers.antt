use Rattle.std.proofs.Common.{Err, Ok}
use Rattle.std.proofs.lemmas.Result.{err_from_is_err_and}
use Rattle.tsb_text.specs.Answers.{refused_line}
use Rattle.tsb_text.proofs.AnswerLemmas.{pair-said}
use Rattle.tsb_text.proofs.answers.say_refusal.Goals as goal

pub returns-in_err-say-clause-said : goal.returns-in_err-say-clause-said
returns-in_err-say-clause-said g c = let p = err_from_is_err_and c.from_residual-in_err-say.result c.from_residual-in_err-say.ensures.1 in
    rw p.1 (pair-said (Err p.0) _ _ _ _ _ _ c.args.echo.now c.refused_line.result.now (refused_line c.args.refusal.now) c.refused_line.ensures.line c.in_ok-add.ensures.ok tt c.in_err-say.ensures.fault)

pub returns-clause-said : goal.returns-clause-said
returns-clause-said g c = pair-said (Ok tt) _ _ _ _ _ _ c.args.echo.now c.refused_line.result.now (refused_line c.args.refusal.now) c.refused_line.ensures.line c.in_ok-add.ensures.ok c.in_ok-say.ensures.ok tt
