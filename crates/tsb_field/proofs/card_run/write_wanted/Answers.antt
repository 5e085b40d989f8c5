use Rattle.std.proofs.Common.{inl, refl}
use Rattle.tsb_card.specs.Card.{permits}
use Rattle.tsb_card.specs.Lines.{card_text}
use Rattle.tsb_program.specs.Devices.{Devices}
use Rattle.tsb_program.specs.tsb_lines.Seen.{seen}
use Rattle.tsb_field.proofs.EndLemmas.{answer-failed}
use Rattle.tsb_field.proofs.card_run.write_wanted.Goals as goal

pub returns-in-Ok : goal.returns-in-Ok
returns-in-Ok g c = rw (← c.streams.view_is) (refl, inl (c.number.ensures, c.in-Ok.ensures.whole, c.in-Ok.ensures.well, refl))

pub returns-in-Err : goal.returns-in-Err
returns-in-Err g c =
    let before : Devices = record { input = seen g.R.Read.remaining c.streams.inside.input; output = seen g.W.Write.contents c.streams.inside.output; errors = seen g.E.Write.contents c.streams.inside.errors } in
    rw (← c.streams.view_is)
    (answer-failed c.fail.result 0 (card_text (permits c.args.card.now)) before c.fail.new.self (seen g.W.Write.contents c.write_passed.new.output) c.in-Err.ensures.blame c.in-Err.ensures.front c.fail.ensures)
