use Rattle.std.proofs.lemmas.Result.{err_from_is_err_and}
use Rattle.tsb_text.proofs.ReplyLemmas.{bad-fault, done-fault, done-said, lines-fault, lines-said}
use Rattle.tsb_text.proofs.run.SessionRunAnswers.answer.Goals as goal

pub returns-in_err-say-in-Bad-clause-answered : goal.returns-in_err-say-in-Bad-clause-answered
returns-in_err-say-in-Bad-clause-answered g c stand here = let p = err_from_is_err_and c.from_residual.result c.from_residual.ensures.1 in
    rw p.1 (bad-fault stand c.args._number c.args.line.now c.reading_of.result _ _ _ _ c.reading_of.ensures c.in-Bad.is c.in_err-say-in-Bad.ensures.fault)

pub returns-in_err-obey-in-Do-clause-answered : goal.returns-in_err-obey-in-Do-clause-answered
returns-in_err-obey-in-Do-clause-answered g c stand here = let p = err_from_is_err_and c.from_residual-in_err-obey-in-Do.result c.from_residual-in_err-obey-in-Do.ensures.1 in
    rw p.1 (done-fault stand c.args._number c.args.line.now c.reading_of.result c.in-Do.command c.in_err-obey-in-Do.field-0.0 c.args.self.now.course c.obey.new.course _ _ _ _
    c.reading_of.ensures c.in-Do.is here.1 (c.in_err-obey-in-Do.ensures.done stand.given stand.given.log stand.inputs here.0))

pub returns-in_ok-obey-in-Do-clause-answered : goal.returns-in_ok-obey-in-Do-clause-answered
returns-in_ok-obey-in-Do-clause-answered g c stand here =
    done-said stand c.args._number c.args.line.now c.reading_of.result c.in-Do.command c.flow_after-flow.result c.args.self.now.course c.obey.new.course _ _ _ _ _
    c.reading_of.ensures c.in-Do.is c.flow_after-flow.ensures here.1 c.obey.ensures.mode (c.in_ok-obey-in-Do.ensures.done stand.given stand.given.log stand.inputs here.0)

pub returns-in_err-say-in-Lines-clause-answered : goal.returns-in_err-say-in-Lines-clause-answered
returns-in_err-say-in-Lines-clause-answered g c stand here = let p = err_from_is_err_and c.from_residual-in_err-say-in-Lines.result c.from_residual-in_err-say-in-Lines.ensures.1 in
    rw p.1 (lines-fault stand c.args._number c.args.line.now c.reading_of.result c.in-Lines.is_wide _ _ _ _ c.reading_of.ensures c.in-Lines.is c.in_err-say-in-Lines.ensures.fault)

pub returns-in_ok-say-in-Lines-clause-answered : goal.returns-in_ok-say-in-Lines-clause-answered
returns-in_ok-say-in-Lines-clause-answered g c stand here =
    lines-said stand c.args._number c.args.line.now c.reading_of.result c.in-Lines.is_wide c.args.self.now.course c.lay_lines.new.self _ _ _ _ c.reading_of.ensures c.in-Lines.is c.lay_lines.ensures here
    c.in_ok-say-in-Lines.ensures.ok
