use Rattle.std.proofs.Common.{◌-◌, flat_map}
use Rattle.tsb_types.specs.Lists.{run_from}
use Rattle.tsb_lines.specs.Seen.{seen}
use Rattle.tsb_card.specs.Card.{permits}
use Rattle.tsb_card.specs.Lines.{card_line, card_text, row_text}
use Rattle.tsb_lines.proofs.StreamLemmas.{Went}
use Rattle.tsb_card.proofs.lines.write_card.Given as goal

-- what has gone out, and what is left, are all
abbrev pub invariant-loop-lower : goal.invariant-loop-lower
invariant-loop-lower g l = Went (seen g.W.Write.contents l.fn.output) (seen g.W.Write.contents l.output) (card_text (permits l.card)) (flat_map (row_text (card_line (permits l.card))) (run_from l.lower (17 - l.lower)))
