use Rattle.std.proofs.Common.{◌∙◌, arith}
use Rattle.std.proofs.lemmas.Result.{err_from_is_err_and}
use Rattle.tsb_text.proofs.EventLemmas.{events-cut, events-end, events-more, events-start}
use Rattle.tsb_text.proofs.events.say_events.Goals as goal

pub loop-event-init : goal.loop-event-init
loop-event-init g c = record { wrote = events-start c.args.events.now _ _; well = λ w. w }

pub loop-event-preserved : goal.loop-event-preserved
loop-event-preserved g c = record {
  wrote = events-more c.args.events.now c.loop-event.event-index _ c.as_bytes.result.now _ _ _ _ _ _ c.loop-event-test.true (c.as_bytes.ensures.bytes ∙ c.event_line.ensures) c.loop-event.invariant.wrote c.in_ok-say.ensures.ok;
  well = λ w. c.in_ok-say.ensures.blame (c.loop-event.invariant.well w);
}

pub returns-in_err-say-clause-said : goal.returns-in_err-say-clause-said
returns-in_err-say-clause-said g c = let p = err_from_is_err_and c.from_residual.result c.from_residual.ensures.1 in
    rw p.1 (events-cut c.args.events.now c.loop-event.event-index _ _ _ _ _ _ c.loop-event.invariant.wrote c.in_err-say.ensures.fault)

pub returns-in_err-say-clause-blame : goal.returns-in_err-say-clause-blame
returns-in_err-say-clause-blame g c well = let p = err_from_is_err_and c.from_residual.result c.from_residual.ensures.1 in
    rw p.1 (c.in_err-say.ensures.blame (c.loop-event.invariant.well well))

pub returns-clause-said : goal.returns-clause-said
returns-clause-said g c = events-end c.args.events.now c.loop-event.event-index _ _ _ _ (omega (arith, c.loop-event-test.false)) c.loop-event.invariant.wrote

pub returns-clause-blame : goal.returns-clause-blame
returns-clause-blame g c well = c.loop-event.invariant.well well
