use Rattle.std.proofs.Common.{rules, Err, ◌∙◌, ℕ, take, ap, sym}
use Rattle.tsb_field_streams.proofs.GoingLemmas.{ended-end, ended-fault, ended-large, ended-read, going-more, going-start}
use Rattle.tsb_field_streams.specs.declared.filter.Summary.{Summary}
use Rattle.tsb_field_streams.proofs.BlameLemmas.{blames-on, memory-on, reads-well}
use Rattle.tsb_field_streams.proofs.stream.Stream.run.Goals as goal

pub loop-count-init : goal.loop-count-init
loop-count-init g c = record { well = λ r w. (r, w); going = λ given f. going-start given c.args.self.now _ _ f }

pub returns-in-Err-clause-ended : goal.returns-in-Err-clause-ended
returns-in-Err-clause-ended g c =
    λ given f.
    ended-read given c.loop-count.self c.loop-count.left _ _ _ _ _ (c.loop-count.invariant.going given f) c.in-Err.ensures.bytes

pub returns-then-count-eq0-clause-ended : goal.returns-then-count-eq0-clause-ended
returns-then-count-eq0-clause-ended g c =
    λ given f.
    let k = c.loop-count.invariant.going given f in
    ended-end c.finish.result given c.loop-count.self c.loop-count.left (take c.in-Ok.count c.read_once.new.room) _ _ _ _ _ _ k c.in-Ok.ensures.bytes.0
    (ap (λ (n : ℕ). take n c.read_once.new.room) c.if-count-eq0.true) (c.in-Ok.ensures.bytes.1 c.if-count-eq0.true (search rules))
    (c.finish.ensures.finished given k.read _ k.follows)

pub returns-then-left-count-clause-ended : goal.returns-then-left-count-clause-ended
returns-then-left-count-clause-ended g c =
    λ given f.
    ended-large given c.loop-count.self c.loop-count.left c.in-Ok.count (take c.in-Ok.count c.read_once.new.room) _ _ _ _ _ (c.loop-count.invariant.going given f)
    c.in-Ok.ensures.bytes.0 (sym c.in-Ok.ensures.bound.1) c.if-left-count.true (search rules)

pub loop-count-preserved : goal.loop-count-preserved
loop-count-preserved g c = record {
  well = λ r w.
      let was = c.loop-count.invariant.well r w in
      (c.in-Ok.ensures.well ∙ was.0, (c.in-Ok-feed_all.ensures.blame was.1).1);
  going = λ given f.
      let k = c.loop-count.invariant.going given f in
      going-more given c.loop-count.self c.feed_all.new.self c.loop-count.left c.in-Ok.count (take c.in-Ok.count c.read_once.new.room) _ _ _ _ _ _ k c.in-Ok.ensures.bytes.0 (sym c.in-Ok.ensures.bound.1)
      c.if-left-count.false (c.in-Ok-feed_all.ensures.went given k.read _ k.follows);
}

pub returns-in-Err-feed_all-clause-ended : goal.returns-in-Err-feed_all-clause-ended
returns-in-Err-feed_all-clause-ended g c =
    λ given f.
    let k = c.loop-count.invariant.going given f in
    ended-fault c.in-Err-feed_all.fault given c.loop-count.self c.loop-count.left c.in-Ok.count (take c.in-Ok.count c.read_once.new.room) _ _ _ _ _ _ k c.in-Ok.ensures.bytes.0 (sym c.in-Ok.ensures.bound.1)
    c.if-left-count.false (c.in-Err-feed_all.ensures.went given k.read _ k.follows)

pub returns-in-Err-clause-blame : goal.returns-in-Err-clause-blame
returns-in-Err-clause-blame g c r w = (c.in-Err.ensures.blame, (c.loop-count.invariant.well r w).1)

pub returns-then-count-eq0-clause-blame : goal.returns-then-count-eq0-clause-blame
returns-then-count-eq0-clause-blame g c r w = reads-well c.finish.result _ _ (c.in-Ok.ensures.well ∙ (c.loop-count.invariant.well r w).0) (c.finish.ensures.blame (c.loop-count.invariant.well r w).1)

pub returns-then-left-count-clause-blame : goal.returns-then-left-count-clause-blame
returns-then-left-count-clause-blame g c r w = (c.in-Ok.ensures.well ∙ (c.loop-count.invariant.well r w).0, (c.loop-count.invariant.well r w).1)

pub returns-in-Err-feed_all-clause-blame : goal.returns-in-Err-feed_all-clause-blame
returns-in-Err-feed_all-clause-blame g c r w = reads-well {T = Summary} (Err c.in-Err-feed_all.fault) _ _ (c.in-Ok.ensures.well ∙ (c.loop-count.invariant.well r w).0)
    (blames-on (Unit {0}) Summary c.in-Err-feed_all.fault _ (c.in-Err-feed_all.ensures.blame (c.loop-count.invariant.well r w).1))

pub returns-in-Err-feed_all-clause-memory : goal.returns-in-Err-feed_all-clause-memory
returns-in-Err-feed_all-clause-memory g c = memory-on c.in-Err-feed_all.fault c.in-Err-feed_all.ensures.memory
