use Rattle.std.proofs.Common.{List, inl, inr, subst, ℕ}
use Rattle.tsb_card.specs.Card.{permits}
use Rattle.tsb_card.specs.Reading.{pairs_of}
use Rattle.tsb_program.specs.Devices.{ReadsNothing}
use Rattle.tsb_field.specs.CardEnds.{ReadCompared}
use Rattle.tsb_field.proofs.card_run.compare.Goals as goal

pub returns-in-Ok : goal.returns-in-Ok
returns-in-Ok g c =
    let compared = subst (λ (text : List ℕ). ReadsNothing (ReadCompared (permits c.args.wanted.now) (pairs_of text) c.compare_text.result) c.args.streams.now c.compare_text.new.streams) c.deref.ensures.value c.compare_text.ensures in
    (compared.0, inl (c.in-Ok.text.items, c.in-Ok.ensures.bytes, compared.1))

pub returns-in-Err : goal.returns-in-Err
returns-in-Err g c = (c.fail_file.ensures.0.0, inr (c.fail_file.ensures.0.1, (c.in-Err.fault, c.fail_file.ensures.1)))
