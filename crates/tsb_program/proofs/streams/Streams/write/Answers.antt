use Rattle.std.proofs.Common.{refl}
use Rattle.tsb_lines.specs.Seen.{seen}
use Rattle.tsb_program.specs.Devices.{Devices}
use Rattle.tsb_program.specs.Statuses.{number}
use Rattle.tsb_program.proofs.DeviceLemmas.{wrote-not}
use Rattle.tsb_program.proofs.streams.Streams.write.Goals as goal

pub returns-in-Err : goal.returns-in-Err
returns-in-Err g c =
    let before : Devices = record {
      input = seen g.R.Read.remaining c.self.inside.input;
      output = seen g.W.Write.contents c.self.inside.output;
      errors = seen g.E.Write.contents c.self.inside.errors;
    } in
    let mid : Devices = record {
      input = seen g.R.Read.remaining c.self.inside.input;
      output = seen g.W.Write.contents c.write_line.new.writer;
      errors = seen g.E.Write.contents c.self.inside.errors;
    } in
    rw (← c.self.view_is) (wrote-not c.fail.result (number c.args.status) c.args.text.now before mid c.fail.new.self refl refl c.in-Err.ensures.blame c.write_line.ensures.front c.fail.ensures)
