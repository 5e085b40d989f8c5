use Rattle.std.proofs.Common.{◌∙◌}
use Rattle.tsb_card.specs.Card.{permits}
use Rattle.tsb_field.proofs.EndLemmas.{card-compared, no-card-read}
use Rattle.tsb_field.proofs.card_run.compare_text.Goals as goal

pub returns-in-Ok : goal.returns-in-Ok
returns-in-Ok g c = card-compared (permits c.args.wanted.now) c.in-Ok.found c.args.text.now c.write_compared.result c.args.streams.now c.write_compared.new.streams c.in-Ok.ensures c.write_compared.ensures

pub returns-in-Err : goal.returns-in-Err
returns-in-Err g c =
    no-card-read (permits c.args.wanted.now) c.in-Err.fault c.args.text.now c.as_bytes.result.now c.tell.result c.args.streams.now c.tell.new.self c.in-Err.ensures c.tell.ensures.status
    (c.as_bytes.ensures.bytes ∙ c.fault_line.ensures) c.tell.ensures.line
