use Rattle.tsb_review_text.specs.Lines.{part}
use Rattle.tsb_review_text.proofs.LineLemmas.{part-on}
use Rattle.tsb_review_text.proofs.line.push_parts.Goals as goal

pub loop-byte-preserved : goal.loop-byte-preserved
loop-byte-preserved c =
    part-on (part c.args.numbers.now) c.args.end.now c.args.text.now c.loop-byte.byte-index c.loop-byte.line c.push_part.new.line _
    c.loop-byte-test.true c.push_part.ensures c.loop-byte.invariant
