use Rattle.std.proofs.Common.{◌-◌, flat_map}
use Rattle.tsb_types.specs.Lists.{run_from}
use Rattle.tsb_lines.specs.Seen.{seen}
use Rattle.tsb_card.specs.Card.{permits}
use Rattle.tsb_card.specs.Lines.{card_line, row_text}
use Rattle.tsb_lines.proofs.StreamLemmas.{Went}
use Rattle.tsb_card.proofs.lines.write_row.Given as goal

-- what has gone out, and what is left, are all
abbrev pub invariant-loop-higher : goal.invariant-loop-higher
invariant-loop-higher g l = Went (seen g.W.Write.contents l.fn.output) (seen g.W.Write.contents l.output) (row_text (card_line (permits l.card)) l.lower) (flat_map (card_line (permits l.card) l.lower) (run_from l.higher (17 - l.higher)))
