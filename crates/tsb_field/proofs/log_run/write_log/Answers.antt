use Rattle.std.proofs.Common.{Bool, Option, ap, subst}
use Rattle.tsb_program.specs.Devices.{Devices}
use Rattle.tsb_program.specs.declared.failure.Failure.{Failure}
use Rattle.tsb_program.specs.tsb_lines.Seen.{Seen, seen}
use Rattle.tsb_words.specs.FieldWords.{seen_log}
use Rattle.tsb_field.specs.LogEnds.{TellsLogEnd}
use Rattle.tsb_field.proofs.EndLemmas.{ended-as, logged-by, passed-on}
use Rattle.tsb_field.proofs.log_run.write_log.Goals as goal

pub returns : goal.returns
returns g c =
    let wish = seen_log c.args.asked.now in
    let before : Devices = record { input = seen g.R.Read.remaining c.streams.inside.input; output = seen g.W.Write.contents c.streams.inside.output; errors = seen g.E.Write.contents c.streams.inside.errors } in
    let after : Devices = c.tell_end.new.streams in
    let left : Seen = seen g.R.Read.remaining c.log-ended.new.reader in
    let new : Seen = seen g.W.Write.contents c.pass_on.new.self in
    rw (← c.streams.view_is) (logged-by c.tell_end.result wish before after left new c.tell_end.ensures.0 (
      c.log-ended.result,
      seen g.W.Write.contents c.log-ended.new.writer,
      ended-as c.log-ended.result (record { from = wish.from; times = wish.manner.times; zone = wish.manner.zone; window = wish.manner.window }) wish.device _ wish.wires c.deref.result.now _ _ _ _ c.bytes_of-device.ensures c.deref.ensures.value c.log-ended.ensures.ended,
      c.pass_on.ensures.bytes,
      c.log-ended.ensures.blame,
      λ is. (ap (seen g.R.Read.remaining) (c.log-ended.ensures.memory is).0, ap (seen g.W.Write.contents) (c.log-ended.ensures.memory is).1),
      passed-on c.pass_on.result new c.pass_on.ensures.blame c.pass_on.ensures.flushed,
      subst (λ (failed : Option Failure). TellsLogEnd wish.manner c.log-ended.result failed new.failed c.tell_end.result before.errors after.errors) c.failed_device-failed.ensures
          (subst (λ (unwritten : Bool). TellsLogEnd wish.manner c.log-ended.result c.failed_device-failed.result unwritten c.tell_end.result before.errors after.errors) c.has_failed-unwritten.ensures
          c.tell_end.ensures.1),
    ))
