use Rattle.std.proofs.Common.{Err, refl}
use Rattle.tsb_field_streams.proofs.StreamLemmas.{all-known, end-long, end-unwritten, end-whole, write-fault}
use Rattle.tsb_field_streams.specs.declared.filter.Summary.{Summary}
use Rattle.tsb_field_streams.proofs.BlameLemmas.{blames-on, memory-on, text-blames, text-memory}
use Rattle.tsb_field_streams.proofs.stream.Stream.end_log.Goals as goal

pub returns-in-Err-clause-finished : goal.returns-in-Err-clause-finished
returns-in-Err-clause-finished g c =
    λ given bytes begun before k.
    let known = all-known given bytes before c.args.self.now.filter _ _ k in
    let long = c.in-Err.ensures.whole given known.stand known.stands in
    end-long given bytes c.args.self.now.filter c.in-Err.fault _ _ known long.0 long.1

pub returns-in-Ok-write_last_rows-clause-finished : goal.returns-in-Ok-write_last_rows-clause-finished
returns-in-Ok-write_last_rows-clause-finished g c =
    λ given bytes begun before k.
    let known = all-known given bytes before c.args.self.now.filter _ _ k in
    end-whole given bytes c.args.self.now.filter c.form-form.result c.in-Ok.rest c.summary-summary.result _ _ _ known c.form-form.ensures (c.in-Ok.ensures.fits given known.stand known.stands) (c.in-Ok.ensures.whole given known.stand known.stands)
    c.in-Ok-write_last_rows.ensures.whole (c.summary-summary.ensures.stands given known.stand known.stands)

pub returns-in-Err-write_last_rows-clause-finished : goal.returns-in-Err-write_last_rows-clause-finished
returns-in-Err-write_last_rows-clause-finished g c =
    λ given bytes begun before k.
    let known = all-known given bytes before c.args.self.now.filter _ _ k in
    end-unwritten given bytes c.args.self.now.filter c.form-form.result c.in-Ok.rest c.in-Err-write_last_rows.fault _ _ _ known c.form-form.ensures (c.in-Ok.ensures.whole given known.stand known.stands) c.write_last_rows.ensures.front
    (write-fault (Err c.in-Err-write_last_rows.fault) c.in-Err-write_last_rows.fault refl c.in-Err-write_last_rows.ensures.fault)

pub returns-in-Err-clause-blame : goal.returns-in-Err-clause-blame
returns-in-Err-clause-blame g c well = text-blames Summary c.in-Err.fault _ c.in-Err.ensures.own well

pub returns-in-Err-clause-memory : goal.returns-in-Err-clause-memory
returns-in-Err-clause-memory g c = text-memory c.in-Err.fault c.in-Err.ensures.own

pub returns-in-Err-write_last_rows-clause-blame : goal.returns-in-Err-write_last_rows-clause-blame
returns-in-Err-write_last_rows-clause-blame g c well = blames-on (Unit {0}) Summary c.in-Err-write_last_rows.fault _ (c.in-Err-write_last_rows.ensures.blame well)

pub returns-in-Err-write_last_rows-clause-memory : goal.returns-in-Err-write_last_rows-clause-memory
returns-in-Err-write_last_rows-clause-memory g c = memory-on c.in-Err-write_last_rows.fault c.in-Err-write_last_rows.ensures.memory
