use Rattle.std.proofs.Common.{refl}
use Rattle.std.proofs.lemmas.Result.{err_from_is_err_and}
use Rattle.tsb_live_text.proofs.LiveLemmas.{answered-fault, answered-ok}
use Rattle.tsb_live_text.proofs.run.LiveRunAnswers.answer.Goals as goal

pub returns-in_err-fault-clause-answered : goal.returns-in_err-fault-clause-answered
returns-in_err-fault-clause-answered g c s stands = let p = err_from_is_err_and c.from_residual.result c.from_residual.ensures.1 in
    rw p.1 (answered-fault p.0 c.live_reading_of-reading.result s c.args.number c.args.line.now c.read.new.self _ _ _ _ c.live_reading_of-reading.ensures (c.in_err-fault.ensures.done s stands))

pub returns-clause-answered : goal.returns-clause-answered
returns-clause-answered g c s stands =
    answered-ok c.flow_after.result c.live_reading_of-reading.result c.quits.result c.in_ok-fault.fault s c.args.number c.args.line.now c.args.self.now c.read.new.self _ _ _ _ _ stands c.live_reading_of-reading.ensures c.read.ensures.strict (c.in_ok-fault.ensures.done s stands)
    refl refl refl c.stop_at-self.ensures c.quits.ensures c.flow_after.ensures
