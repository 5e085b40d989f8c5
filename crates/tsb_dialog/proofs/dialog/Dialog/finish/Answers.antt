use Rattle.std.proofs.lemmas.Result.{err_from_is_err_and}
use Rattle.tsb_dialog.proofs.EndLemmas.{finished-fault, finished-sent}
use Rattle.tsb_dialog.specs.declared.dialog.TheConstants.{KEPT}
use Rattle.tsb_dialog.proofs.dialog.Dialog.finish.Goals as goal

pub returns-in_err-answer-clause-finished : goal.returns-in_err-answer-clause-finished
returns-in_err-answer-clause-finished g c from now bytes text here h = let p = err_from_is_err_and c.from_residual.result c.from_residual.ensures.1 in
    rw p.1 (finished-fault p.0 KEPT g.A.Answers.stands g.A.Answers.says from now bytes text c.args.self.now.number c.args.self.now.line c.last.result.now c.answer.new.self _ _ _ _
    c.last.ensures.line h (c.in_err-answer.ensures.answered now here))

pub returns-clause-finished : goal.returns-clause-finished
returns-clause-finished g c from now bytes text here h =
    finished-sent c.in_ok-answer.field-0 c.send.result KEPT g.A.Answers.stands g.A.Answers.says from now bytes text c.args.self.now.number c.args.self.now.line c.last.result.now c.answer.new.self _ _ _ _ _ _
    c.last.ensures.line h (c.in_ok-answer.ensures.answered now here) c.send.ensures.said c.send.ensures.ok
