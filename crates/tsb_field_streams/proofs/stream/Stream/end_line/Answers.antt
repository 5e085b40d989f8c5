use Rattle.std.proofs.Common.{rules}
use Rattle.tsb_field_streams.proofs.StreamLemmas.{line-fault, line-went}
use Rattle.tsb_field_streams.proofs.BlameLemmas.{text-blames, text-memory}
use Rattle.tsb_field_streams.proofs.stream.Stream.end_line.Goals as goal

pub returns-in-Err-clause-went : goal.returns-in-Err-clause-went
returns-in-Err-clause-went g c =
    λ given bytes begun f.
    line-fault given bytes c.ended.result.now c.args.self.now c.take_line.new.self c.in-Err.fault _ _ f c.ended.ensures.line (c.in-Err.ensures.takes given f.stand f.stands)

pub returns-clause-went : goal.returns-clause-went
returns-clause-went g c =
    λ given bytes begun f.
    line-went c.write_rows.result given bytes c.ended.result.now c.args.self.now _ c.form.result c.in-Ok.rows _ _ _ f c.form.ensures
    c.ended.ensures.line (c.in-Ok.ensures.takes given f.stand f.stands)
    (search rules) (search rules) c.write_rows.ensures.whole c.write_rows.ensures.front c.write_rows.ensures.fault

pub returns-in-Err-clause-blame : goal.returns-in-Err-clause-blame
returns-in-Err-clause-blame g c well = text-blames (Unit {0}) c.in-Err.fault _ c.in-Err.ensures.own well

pub returns-in-Err-clause-memory : goal.returns-in-Err-clause-memory
returns-in-Err-clause-memory g c = text-memory c.in-Err.fault c.in-Err.ensures.own
