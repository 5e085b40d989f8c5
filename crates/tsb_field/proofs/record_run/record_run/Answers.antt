use Rattle.std.proofs.Common.{Ok, Err, refl}
use Rattle.tsb_program.specs.Devices.{Devices}
use Rattle.tsb_program.specs.tsb_lines.Seen.{Seen, seen}
use Rattle.tsb_text.specs.tsb_objects.Checked.{checked_plan}
use Rattle.tsb_field.specs.Ends.{options_of}
use Rattle.tsb_field.proofs.EndLemmas.{log-same, ran-so, writes-made}
use Rattle.tsb_field.proofs.record_run.record_run.Goals as goal

pub returns-in-Err : goal.returns-in-Err
returns-in-Err g c =
    let asked = c.args.asked.now in
    let before : Devices = record { input = seen g.R.Read.remaining c.streams.inside.input; output = seen g.W.Write.contents c.streams.inside.output; errors = seen g.E.Write.contents c.streams.inside.errors } in
    rw (← c.streams.view_is) (ran-so (Err c.in-Err.fault) c.tell_input_end.result asked.from asked.device.now (options_of asked.from asked.manner) c.options_of-options.result (checked_plan c.args.plan) c.args.rows.now before c.tell_input_end.new.self
    (seen g.R.Read.remaining c.record.new.reader) (seen g.E.Write.contents c.record.new.errors) c.options_of-options.ensures c.tell_input_end.ensures.0.0 c.in-Err.ensures.ended c.in-Err.ensures.blame
    (c.tell_input_end.ensures.0.1, c.tell_input_end.ensures.1))

pub returns-in-Ok-Stopped : goal.returns-in-Ok-Stopped
returns-in-Ok-Stopped g c =
    let asked = c.args.asked.now in
    let left : Seen = seen g.R.Read.remaining c.record.new.reader in
    let mid : Seen = seen g.E.Write.contents c.record.new.errors in
    let before : Devices = record { input = seen g.R.Read.remaining c.streams.inside.input; output = seen g.W.Write.contents c.streams.inside.output; errors = seen g.E.Write.contents c.streams.inside.errors } in
    let after : Devices = record { input = left; output = before.output; errors = mid } in
    rw (← c.streams.view_is) (ran-so (Ok c.in-Ok-Stopped.field-0) c.number.result asked.from asked.device.now (options_of asked.from asked.manner) c.options_of-options.result (checked_plan c.args.plan) c.args.rows.now before after
    left mid c.options_of-options.ensures refl c.in-Ok-Stopped.ensures.ended c.in-Ok-Stopped.ensures.blame (rw c.in-Ok-Stopped.field-0-is (c.number.ensures, refl, refl)))

pub returns-in-Ok-Events : goal.returns-in-Ok-Events
returns-in-Ok-Events g c =
    let asked = c.args.asked.now in
    let mid : Seen = seen g.E.Write.contents c.record.new.errors in
    let before : Devices = record { input = seen g.R.Read.remaining c.streams.inside.input; output = seen g.W.Write.contents c.streams.inside.output; errors = seen g.E.Write.contents c.streams.inside.errors } in
    let after : Devices = c.write_made.new.streams in
    rw (← c.streams.view_is) (ran-so (Ok c.in-Ok-Events.field-0) c.write_made.result asked.from asked.device.now (options_of asked.from asked.manner) c.options_of-options.result (checked_plan c.args.plan) c.args.rows.now before after
    (seen g.R.Read.remaining c.record.new.reader) mid c.options_of-options.ensures c.write_made.ensures.0 c.in-Ok-Events.ensures.ended c.in-Ok-Events.ensures.blame
    (rw c.in-Ok-Events.field-0-is (writes-made c.log_text-made.result c.write_made.result asked.from asked.device.now c.in-Ok-Events.events.items before.output after.output mid after.errors
    (log-same c.log_text-made.result asked.from asked.device.now c.as_bytes.result.now c.in-Ok-Events.events.items c.deref.result.now c.as_bytes.ensures.value c.deref.ensures.value c.log_text-made.ensures) c.write_made.ensures.1)))
