use Rattle.std.proofs.Common.{Err, refl}
use Rattle.tsb_text.specs.tsb_objects.Checked.{checked_plan}
use Rattle.tsb_program.specs.Devices.{Devices}
use Rattle.tsb_program.specs.tsb_lines.Seen.{seen}
use Rattle.tsb_live.proofs.TalkLemmas.{talked}
use Rattle.tsb_live.proofs.run.talk.Goals as goal

pub returns-in-Err : goal.returns-in-Err
returns-in-Err g c =
    let before : Devices = record {
      input = seen g.R.Read.remaining c.streams.inside.input;
      output = seen g.W.Write.contents c.streams.inside.output;
      errors = seen g.E.Write.contents c.streams.inside.errors;
    } in
    let mid : Devices = record {
      input = seen g.R.Read.remaining c.live.new.reader;
      output = seen g.W.Write.contents c.live.new.writer;
      errors = seen g.E.Write.contents c.streams.inside.errors;
    } in
    rw (← c.streams.view_is) (talked (Err c.in-Err.fault) c.args.on_fault (checked_plan c.args.plan) c.tell_input_end.result before mid c.tell_input_end.new.self
    c.in-Err.ensures.ended c.in-Err.ensures.blame refl c.tell_input_end.ensures)
