use Rattle.std.proofs.Common.{◌-◌, flat_map}
use Rattle.tsb_types.specs.Lists.{run_from}
use Rattle.tsb_lines.specs.Seen.{seen}
use Rattle.tsb_card.specs.Card.{permits}
use Rattle.tsb_card.specs.Lines.{other_line, row_text}
use Rattle.tsb_lines.proofs.StreamLemmas.{Went}
use Rattle.tsb_card.proofs.lines.write_other_row.Given as goal

-- what has gone out, and what is left, are all
abbrev pub invariant-loop-higher : goal.invariant-loop-higher
invariant-loop-higher g l = Went (seen g.W.Write.contents l.fn.output) (seen g.W.Write.contents l.output) (row_text (other_line (permits l.wanted) (permits l.found)) l.lower) (flat_map (other_line (permits l.wanted) (permits l.found) l.lower) (run_from l.higher (17 - l.higher)))
