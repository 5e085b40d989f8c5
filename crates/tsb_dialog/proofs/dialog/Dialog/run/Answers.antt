use Rattle.std.proofs.Common.{rules, take, sym, ◌∙◌}
use Rattle.tsb_dialog.proofs.RunLemmas.{going-start, going-more, going-same, ended-read, ended-end, ended-large, ended-fault, ended-over, ended-send, blames-sent, failed-after, well-after}
use Rattle.tsb_dialog.specs.declared.dialog.TheConstants.{KEPT}
use Rattle.tsb_dialog.proofs.dialog.Dialog.run.Goals as goal

pub loop-count-init : goal.loop-count-init
loop-count-init g c = record {
  going = λ from here. going-start KEPT c.args.limit g.A.Answers.stands g.A.Answers.says from c.args.answers.now c.args.self.now.line _ _ c.args.self.now.number c.args.self.now.pending
      c.requires.number c.requires.line c.requires.waits here;
  sent = c.requires.waits;
  flushed = c.requires.flushed;
  reads = c.requires.reads;
  well = c.requires.writes;
  number = search (rules, c.requires.number);
}

pub returns-in-Err-clause-ended : goal.returns-in-Err-clause-ended
returns-in-Err-clause-ended g c from here =
    ended-read KEPT c.args.limit g.A.Answers.stands g.A.Answers.says from c.loop-count.answers c.loop-count.self.number c.loop-count.self.line c.loop-count.left _ _ _ _ _ c.loop-count.self.pending
    (c.loop-count.invariant.going from here) c.loop-count.invariant.sent c.in-Err.ensures.bytes

pub returns-then-count-eq0-clause-ended : goal.returns-then-count-eq0-clause-ended
returns-then-count-eq0-clause-ended g c from here = rw c.as_dialog.ensures
    (ended-end c.finish.result KEPT c.args.limit g.A.Answers.stands g.A.Answers.says from c.loop-count.answers c.finish.new.answers c.loop-count.self.number c.loop-count.self.line c.loop-count.left _ _ _ _ _ _
    c.loop-count.self.pending c.finish.new.self.pending c.in-Ok.count c.read.new.room
    (c.loop-count.invariant.going from here) c.if-count-eq0.true c.in-Ok.ensures.bytes.0 (c.in-Ok.ensures.bytes.1 c.if-count-eq0.true (search rules)) c.finish.ensures.finished)

pub returns-then-left-count-clause-ended : goal.returns-then-left-count-clause-ended
returns-then-left-count-clause-ended g c from here =
    ended-large KEPT c.args.limit g.A.Answers.stands g.A.Answers.says from c.loop-count.answers c.loop-count.self.number c.loop-count.self.line c.loop-count.left _ _ _ _ _ c.loop-count.self.pending c.in-Ok.count c.max-most.result (take c.in-Ok.count c.read.new.room)
    (c.loop-count.invariant.going from here) c.loop-count.invariant.sent c.in-Ok.ensures.bytes.0 c.if-left-count.true c.in-Ok.ensures.bound.1 (search rules) (λ lt. search (rules, lt))

pub returns-in-Err-feed_all-clause-ended : goal.returns-in-Err-feed_all-clause-ended
returns-in-Err-feed_all-clause-ended g c from here =
    ended-fault c.in-Err-feed_all.field-0 KEPT c.args.limit g.A.Answers.stands g.A.Answers.says from c.loop-count.answers c.feed_all.new.answers c.loop-count.self.number c.feed_all.new.self.number c.loop-count.self.line c.feed_all.new.self.line c.loop-count.left _ _ _ _ _ _ c.loop-count.self.pending c.feed_all.new.self.pending
    c.in-Ok.count c.max-most.result (take c.in-Ok.count c.read.new.room) (c.loop-count.invariant.going from here) c.in-Ok.ensures.bytes.0 c.in-Ok.ensures.bound.1 c.if-left-count.false (search rules) (search rules) c.in-Err-feed_all.ensures.fed

pub returns-then-is_err-clause-ended : goal.returns-then-is_err-clause-ended
returns-then-is_err-clause-ended g c from here =
    ended-send _ c.in-Ok-feed_all.flow KEPT c.args.limit g.A.Answers.stands g.A.Answers.says from c.loop-count.answers c.feed_all.new.answers c.loop-count.self.number c.feed_all.new.self.number c.loop-count.self.line c.feed_all.new.self.line c.loop-count.left _ _ _ _ _ _ _ c.loop-count.self.pending c.feed_all.new.self.pending c.send-sent.new.self.pending
    c.in-Ok.count c.max-most.result (take c.in-Ok.count c.read.new.room) (c.loop-count.invariant.going from here) c.in-Ok.ensures.bytes.0 c.in-Ok.ensures.bound.1 c.if-left-count.false (search rules) (search rules) c.in-On.is c.in-Ok-feed_all.ensures.fed c.send-sent.ensures.said

pub loop-count-preserved : goal.loop-count-preserved
loop-count-preserved g c = record {
  going = λ from here.
      going-same KEPT c.args.limit g.A.Answers.stands g.A.Answers.says from c.feed_all.new.answers c.feed_all.new.self.number c.send-sent.new.self.number c.feed_all.new.self.line c.send-sent.new.self.line _ _ _ _ _ _
      c.send-sent.ensures.rest.1 c.send-sent.ensures.rest.0
      (going-more c.in-Ok-feed_all.flow KEPT c.args.limit g.A.Answers.stands g.A.Answers.says from c.loop-count.answers c.feed_all.new.answers c.loop-count.self.number c.feed_all.new.self.number c.loop-count.self.line c.feed_all.new.self.line c.loop-count.left _ _ _ _ _ _ _ c.loop-count.self.pending c.feed_all.new.self.pending c.send-sent.new.self.pending
      c.in-Ok.count (take c.in-Ok.count c.read.new.room) (c.loop-count.invariant.going from here) c.in-Ok.ensures.bytes.0 c.in-Ok.ensures.bound.1 c.if-left-count.false c.in-On.is c.in-Ok-feed_all.ensures.fed c.send-sent.ensures.said);
  sent = search (rules, c.send-sent.ensures.ok, c.is_err.ensures, c.if-is_err.false);
  flushed = search (rules, c.send-sent.ensures.flushed, c.is_err.ensures, c.if-is_err.false);
  reads = c.in-Ok.ensures.blame c.loop-count.invariant.reads;
  well = well-after c.send-sent.result _ (sym c.is_err.ensures.value ∙ c.if-is_err.false) (c.send-sent.ensures.blame (c.in-Ok-feed_all.ensures.blame c.loop-count.invariant.well));
  number = search (rules, c.send-sent.ensures.rest.1, c.in-Ok-feed_all.ensures.number, c.loop-count.invariant.number, c.in-Ok.ensures.bound.1, c.if-left-count.false);
}

pub returns-in-Over-clause-ended : goal.returns-in-Over-clause-ended
returns-in-Over-clause-ended g c from here = rw c.as_dialog-in-Over.ensures
    (ended-over c.send-sent.result c.in-Ok-feed_all.flow KEPT c.args.limit g.A.Answers.stands g.A.Answers.says from c.loop-count.answers c.feed_all.new.answers c.loop-count.self.number c.feed_all.new.self.number c.loop-count.self.line c.feed_all.new.self.line c.loop-count.left _ _ _ _ _ _ _ c.loop-count.self.pending c.feed_all.new.self.pending c.send-sent.new.self.pending
    c.in-Ok.count c.max-most.result (take c.in-Ok.count c.read.new.room) (c.loop-count.invariant.going from here) c.in-Ok.ensures.bytes.0 c.in-Ok.ensures.bound.1 c.if-left-count.false (search rules) (search rules) c.in-Over.is c.in-Ok-feed_all.ensures.fed c.send-sent.ensures.said c.send-sent.ensures.ok)

pub returns-in-Err-clause-blame : goal.returns-in-Err-clause-blame
returns-in-Err-clause-blame g c = (c.in-Err.ensures.blame c.loop-count.invariant.reads, c.loop-count.invariant.well, c.loop-count.invariant.flushed)

pub returns-then-count-eq0-clause-blame : goal.returns-then-count-eq0-clause-blame
returns-then-count-eq0-clause-blame g c = rw c.as_dialog.ensures
    (blames-sent c.finish.result _ _ _ (c.in-Ok.ensures.blame c.loop-count.invariant.reads) (c.finish.ensures.blame c.loop-count.invariant.well) c.finish.ensures.flushed)

pub returns-then-left-count-clause-blame : goal.returns-then-left-count-clause-blame
returns-then-left-count-clause-blame g c = (c.in-Ok.ensures.blame c.loop-count.invariant.reads, c.loop-count.invariant.well, c.loop-count.invariant.flushed)

pub returns-in-Err-feed_all-clause-blame : goal.returns-in-Err-feed_all-clause-blame
returns-in-Err-feed_all-clause-blame g c = (c.in-Ok.ensures.blame c.loop-count.invariant.reads, c.in-Err-feed_all.ensures.blame c.loop-count.invariant.well)

pub returns-then-is_err-clause-blame : goal.returns-then-is_err-clause-blame
returns-then-is_err-clause-blame g c = (
  c.in-Ok.ensures.blame c.loop-count.invariant.reads,
  failed-after c.send-sent.result _ (sym c.is_err.ensures.value ∙ c.if-is_err.true) (c.send-sent.ensures.blame (c.in-Ok-feed_all.ensures.blame c.loop-count.invariant.well)),
)

pub returns-in-Over-clause-blame : goal.returns-in-Over-clause-blame
returns-in-Over-clause-blame g c = rw c.as_dialog-in-Over.ensures
    (blames-sent c.send-sent.result _ _ _ (c.in-Ok.ensures.blame c.loop-count.invariant.reads) (c.send-sent.ensures.blame (c.in-Ok-feed_all.ensures.blame c.loop-count.invariant.well)) c.send-sent.ensures.flushed)
