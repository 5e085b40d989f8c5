use Rattle.std.proofs.Common.{inl}
use Rattle.tsb_field_display.specs.Remaining.{changes_in}
use Rattle.tsb_field_display.specs.Merge.{session_events}
use Rattle.tsb_program.specs.Devices.{Devices}
use Rattle.tsb_program.specs.tsb_lines.Seen.{seen}
use Rattle.tsb_field.specs.Ends.{IsEvents}
use Rattle.tsb_field.proofs.EndLemmas.{log-same, not-read, told-read, writes-made}
use Rattle.tsb_field.proofs.events_run.write_events_of.Goals as goal

pub returns-in-Ok : goal.returns-in-Ok
returns-in-Ok g c =
    let before : Devices = record { input = seen g.R.Read.remaining c.streams.inside.input; output = seen g.W.Write.contents c.streams.inside.output; errors = seen g.E.Write.contents c.streams.inside.errors } in
    let after : Devices = c.write_made.new.streams in
    rw (← c.streams.view_is) (told-read c.args.asked.now.is_wide c.args.asked.now.from c.args.asked.now.device.now c.args.rows.now c.in-Ok.replay c.write_made.result before after (seen g.R.Read.remaining c.read_replay.new.reader) c.in-Ok.ensures (
      c.write_made.ensures.0,
      writes-made c.events_text-made.result c.write_made.result c.args.asked.now.from c.args.asked.now.device.now (session_events (changes_in c.in-Ok.replay) c.args.rows.now) before.output after.output before.errors after.errors
          (log-same c.events_text-made.result c.args.asked.now.from c.args.asked.now.device.now c.as_bytes.result.now (session_events (changes_in c.in-Ok.replay) c.args.rows.now) (session_events c.changes.result.now c.rows.result.now)
          c.as_bytes.ensures.value (λ j. session_events (c.changes.ensures j) (c.rows.ensures j)) c.events_text-made.ensures) c.write_made.ensures.1,
    ))

pub returns-in-Err : goal.returns-in-Err
returns-in-Err g c =
    let before : Devices = record { input = seen g.R.Read.remaining c.streams.inside.input; output = seen g.W.Write.contents c.streams.inside.output; errors = seen g.E.Write.contents c.streams.inside.errors } in
    rw (← c.streams.view_is)
    (inl (not-read c.args.asked.now.is_wide (IsEvents c.args.asked.now.from c.args.asked.now.device.now) c.in-Err.fault c.failure_by.result c.fail.result c.args.rows.now before c.fail.new.self (seen g.R.Read.remaining c.read_replay.new.reader)
    c.failure_by.ensures c.in-Err.ensures c.fail.ensures))
