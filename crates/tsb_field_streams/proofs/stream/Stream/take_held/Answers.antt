use Rattle.std.proofs.Common.{◌≡◌, ◌<◌, length, refl, arith, Err}
use Rattle.tsb_field_streams.proofs.StreamLemmas.{all-taken, next-fault, next-taken, next-unwritten, none-taken, write-fault}
use Rattle.tsb_field_streams.proofs.BlameLemmas.{text-blames, text-memory}
use Rattle.tsb_field_streams.proofs.stream.Stream.take_held.Goals as goal

pub loop-init : goal.loop-init
loop-init g c = record {
  well = λ w. w;
  known = λ given bytes begun before k.
      none-taken given bytes before c.held_count-count.result 0 c.args.self.now.filter _ _ k (λ s at. c.held_count-count.ensures given s at) refl;
}

pub returns-in-Err-clause-gave : goal.returns-in-Err-clause-gave
returns-in-Err-clause-gave g c =
    λ given bytes begun before k.
    let here = c.loop.invariant.known given bytes begun before k in
    let count : c.held_count-count.result ≡ length before.held = here.1 in
    let lt : c.loop.counter < length before.held = omega (arith, count, c.loop-test.true) in
    next-fault given bytes before c.loop.counter c.loop.self.filter c.take_next.new.self c.in-Err.fault _ _ here.0 (c.in-Err.ensures.takes given here.0.stand here.0.stands) lt

pub returns-in-Err-write_rows-clause-gave : goal.returns-in-Err-write_rows-clause-gave
returns-in-Err-write_rows-clause-gave g c =
    λ given bytes begun before k.
    let here = c.loop.invariant.known given bytes begun before k in
    next-unwritten given bytes before c.loop.counter c.loop.self.filter c.take_next.new.self c.form.result c.in-Ok.rows c.in-Err-write_rows.fault _ _ _ here.0 c.form.ensures
    (c.in-Ok.ensures.takes given here.0.stand here.0.stands) c.write_rows.ensures.front
    (write-fault (Err c.in-Err-write_rows.fault) c.in-Err-write_rows.fault refl c.in-Err-write_rows.ensures.fault)

pub loop-preserved : goal.loop-preserved
loop-preserved g c = record {
  well = λ w. (c.in-Ok-write_rows.ensures.blame (c.loop.invariant.well w)).1;
  known = λ given bytes begun before k.
      let here = c.loop.invariant.known given bytes begun before k in (
        next-taken given bytes before c.loop.counter c.loop.self.filter c.take_next.new.self c.form.result c.in-Ok.rows _ _ _ here.0 c.form.ensures (c.in-Ok.ensures.takes given here.0.stand here.0.stands) c.in-Ok-write_rows.ensures.whole,
        here.1,
      );
}

pub returns-clause-gave : goal.returns-clause-gave
returns-clause-gave g c =
    λ given bytes begun before k.
    all-taken given bytes before c.held_count-count.result c.loop.counter c.loop.self.filter _ _ (c.loop.invariant.known given bytes begun before k)
    (omega arith)

pub returns-in-Err-clause-blame : goal.returns-in-Err-clause-blame
returns-in-Err-clause-blame g c well = text-blames (Unit {0}) c.in-Err.fault _ c.in-Err.ensures.own (c.loop.invariant.well well)

pub returns-in-Err-clause-memory : goal.returns-in-Err-clause-memory
returns-in-Err-clause-memory g c = text-memory c.in-Err.fault c.in-Err.ensures.own

pub returns-in-Err-write_rows-clause-blame : goal.returns-in-Err-write_rows-clause-blame
returns-in-Err-write_rows-clause-blame g c well = c.in-Err-write_rows.ensures.blame (c.loop.invariant.well well)

pub returns-clause-blame : goal.returns-clause-blame
returns-clause-blame g c well = (refl, c.loop.invariant.well well)
