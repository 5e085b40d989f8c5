use Rattle.std.proofs.Common.{refl}
use Rattle.tsb_lines.specs.Seen.{seen}
use Rattle.tsb_program.specs.Devices.{Devices}
use Rattle.tsb_program.proofs.DeviceLemmas.{refusal-not, refusal-wrote}
use Rattle.tsb_program.proofs.streams.Streams.write_refusal.Goals as goal

pub returns-in-Ok : goal.returns-in-Ok
returns-in-Ok g c =
    let before : Devices = record {
      input = seen g.R.Read.remaining c.self.inside.input;
      output = seen g.W.Write.contents c.self.inside.output;
      errors = seen g.E.Write.contents c.self.inside.errors;
    } in
    let mid : Devices = record {
      input = seen g.R.Read.remaining c.self.inside.input;
      output = seen g.W.Write.contents c.write_line-written.new.writer;
      errors = seen g.E.Write.contents c.self.inside.errors;
    } in
    rw (← c.self.view_is) (refusal-wrote c.tell.result c.args.text.now before mid c.tell.new.self refl refl c.tell.ensures.status c.in-Ok.ensures.whole c.tell.ensures.line)

pub returns-in-Err : goal.returns-in-Err
returns-in-Err g c =
    let before : Devices = record {
      input = seen g.R.Read.remaining c.self.inside.input;
      output = seen g.W.Write.contents c.self.inside.output;
      errors = seen g.E.Write.contents c.self.inside.errors;
    } in
    let mid : Devices = record {
      input = seen g.R.Read.remaining c.self.inside.input;
      output = seen g.W.Write.contents c.write_line-written.new.writer;
      errors = seen g.E.Write.contents c.self.inside.errors;
    } in
    rw (← c.self.view_is) (refusal-not c.fail.result c.args.text.now before mid c.fail.new.self refl refl c.in-Err.ensures.blame c.write_line-written.ensures.front c.fail.ensures)
