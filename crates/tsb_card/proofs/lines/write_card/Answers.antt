use Rattle.std.proofs.Common.{arith, refl}
use Rattle.tsb_lines.specs.Seen.{seen}
use Rattle.tsb_card.specs.Card.{permits}
use Rattle.tsb_card.specs.Lines.{card_line, pairs_text, row_text}
use Rattle.tsb_card.proofs.WriteLemmas.{cut, done, next, start}
use Rattle.tsb_card.proofs.lines.write_card.Goals as goal

pub loop-lower-init : goal.loop-lower-init
unfolding pairs_text
loop-lower-init g c = start (seen g.W.Write.contents c.args.output.now) _ _ refl

pub loop-lower-preserved : goal.loop-lower-preserved
loop-lower-preserved g c =
    next (row_text (card_line (permits c.args.card.now))) (seen g.W.Write.contents c.args.output.now) (seen g.W.Write.contents c.loop-lower.output) (seen g.W.Write.contents c.write_row.new.output) _
    c.loop-lower.lower (omega arith) c.loop-lower.invariant c.in-Ok.ensures.whole c.in-Ok.ensures.well

pub returns-in-Err : goal.returns-in-Err
returns-in-Err g c =
    cut (row_text (card_line (permits c.args.card.now))) (seen g.W.Write.contents c.args.output.now) (seen g.W.Write.contents c.loop-lower.output) (seen g.W.Write.contents c.write_row.new.output) _
    c.loop-lower.lower 17 c.in-Err.fault (omega arith) c.loop-lower.invariant c.in-Err.ensures.front c.in-Err.ensures.blame

pub returns : goal.returns
returns g c = done (row_text (card_line (permits c.args.card.now))) (seen g.W.Write.contents c.args.output.now) (seen g.W.Write.contents c.loop-lower.output) _ c.loop-lower.lower 17 (omega arith) c.loop-lower.invariant
