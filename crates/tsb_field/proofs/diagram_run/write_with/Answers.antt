use Rattle.std.proofs.Common.{◌≡◌, subst}
use Rattle.tsb_field_diagram.specs.Given.{Session}
use Rattle.tsb_field_diagram.specs.Page.{diagram_text}
use Rattle.tsb_field_display.specs.Remaining.{changes_in, last_in}
use Rattle.tsb_program.specs.Devices.{Devices, ReadsNothing}
use Rattle.tsb_program.specs.tsb_lines.Seen.{Seen, seen}
use Rattle.tsb_field.specs.Ends.{Draws, IsDiagram, form_asked}
use Rattle.tsb_field.proofs.EndLemmas.{drawn-read, not-read, with_input}
use Rattle.tsb_field.proofs.diagram_run.write_with.Goals as goal

pub returns-in-Ok : goal.returns-in-Ok
returns-in-Ok g c =
    let form = form_asked c.args.asked.now in
    let left : Seen = seen g.R.Read.remaining c.read_replay.new.reader in
    let before : Devices = record { input = seen g.R.Read.remaining c.streams.inside.input; output = seen g.W.Write.contents c.streams.inside.output; errors = seen g.E.Write.contents c.streams.inside.errors } in
    let given : Session = record { changes = c.changes.result.now; last = c.last_tick.result; rows = c.rows.result.now; ends = c.args.ends.now } in
    let meant : Session = record { changes = changes_in c.in-Ok.replay; last = last_in c.in-Ok.replay; rows = c.args.rows.now; ends = c.args.ends.now } in
    let same : given ≡ meant = λ j. record { changes = c.changes.ensures j; last = c.last_tick.ensures j; rows = c.rows.ensures j; ends = c.args.ends.now } in
    rw (← c.streams.view_is) (drawn-read c.args.asked.now.is_wide form c.args.ends.now c.args.rows.now c.in-Ok.replay c.draw.result before c.draw.new.streams left c.in-Ok.ensures
    (subst (λ (s : Session). ReadsNothing (Draws (diagram_text form s) c.draw.result) (with_input before left) c.draw.new.streams) same c.draw.ensures))

pub returns-in-Err : goal.returns-in-Err
returns-in-Err g c =
    let before : Devices = record { input = seen g.R.Read.remaining c.streams.inside.input; output = seen g.W.Write.contents c.streams.inside.output; errors = seen g.E.Write.contents c.streams.inside.errors } in
    rw (← c.streams.view_is)
    (not-read c.args.asked.now.is_wide (IsDiagram (form_asked c.args.asked.now) c.args.ends.now) c.in-Err.fault c.failure_by.result c.fail.result c.args.rows.now before c.fail.new.self (seen g.R.Read.remaining c.read_replay.new.reader)
    c.failure_by.ensures c.in-Err.ensures c.fail.ensures)
