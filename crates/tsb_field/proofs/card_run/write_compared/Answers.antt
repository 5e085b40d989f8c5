use Rattle.std.proofs.Common.{inl, refl}
use Rattle.tsb_card.specs.Card.{permits}
use Rattle.tsb_card.specs.Lines.{others_text}
use Rattle.tsb_program.specs.Devices.{Devices}
use Rattle.tsb_program.specs.tsb_lines.Seen.{seen}
use Rattle.tsb_field.specs.CardEnds.{status_of}
use Rattle.tsb_field.proofs.EndLemmas.{answer-failed}
use Rattle.tsb_field.proofs.card_run.write_compared.Goals as goal

pub returns-in-Ok : goal.returns-in-Ok
returns-in-Ok g c = rw (← c.streams.view_is) (refl, inl (c.status_of.ensures, c.in-Ok.ensures.whole, c.in-Ok.ensures.well, refl))

pub returns-in-Err : goal.returns-in-Err
returns-in-Err g c =
    let before : Devices = record { input = seen g.R.Read.remaining c.streams.inside.input; output = seen g.W.Write.contents c.streams.inside.output; errors = seen g.E.Write.contents c.streams.inside.errors } in
    rw (← c.streams.view_is)
    (answer-failed c.fail.result (status_of (permits c.args.wanted.now) (permits c.args.found.now)) (others_text (permits c.args.wanted.now) (permits c.args.found.now)) before c.fail.new.self
    (seen g.W.Write.contents c.pass_others.new.output) c.in-Err.ensures.blame c.in-Err.ensures.front c.fail.ensures)
