use Rattle.tsb_field_streams.proofs.StreamLemmas.{last-fault, last-taken, last-took}
use Rattle.tsb_field_streams.proofs.BlameLemmas.{text-blames, text-memory}
use Rattle.tsb_field_streams.proofs.stream.Stream.take_last.Goals as goal

pub returns-in-Ok-clause-took : goal.returns-in-Ok-clause-took
returns-in-Ok-clause-took g c =
    λ given bytes begun f.
    last-took c.write_rows.result given bytes c.args.self.now c.form.result c.in-Ok.rows c.take_line.new.self _ _ _
    (last-taken given bytes c.last.result.now c.args.self.now c.in-Ok.rows c.take_line.new.self _ _ f c.last.ensures.line (c.in-Ok.ensures.takes given f.stand f.stands))
    c.form.ensures c.write_rows.ensures.whole c.write_rows.ensures.front c.write_rows.ensures.fault

pub returns-in-Err-clause-took : goal.returns-in-Err-clause-took
returns-in-Err-clause-took g c =
    λ given bytes begun f.
    last-fault given bytes c.last.result.now c.args.self.now c.take_line.new.self c.in-Err.fault _ _ f c.last.ensures.line (c.in-Err.ensures.takes given f.stand f.stands)

pub returns-in-Err-clause-blame : goal.returns-in-Err-clause-blame
returns-in-Err-clause-blame g c well = text-blames (Unit {0}) c.in-Err.fault _ c.in-Err.ensures.own well

pub returns-in-Err-clause-memory : goal.returns-in-Err-clause-memory
returns-in-Err-clause-memory g c = text-memory c.in-Err.fault c.in-Err.ensures.own
