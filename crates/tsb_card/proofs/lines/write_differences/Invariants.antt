use Rattle.std.proofs.Common.{◌-◌, flat_map}
use Rattle.tsb_types.specs.Lists.{run_from}
use Rattle.tsb_lines.specs.Seen.{seen}
use Rattle.tsb_card.specs.Card.{permits}
use Rattle.tsb_card.specs.Lines.{other_line, others_text, row_text}
use Rattle.tsb_lines.proofs.StreamLemmas.{Went}
use Rattle.tsb_card.proofs.lines.write_differences.Given as goal

-- what has gone out, and what is left, are all
abbrev pub invariant-loop-lower : goal.invariant-loop-lower
invariant-loop-lower g l = Went (seen g.W.Write.contents l.fn.output) (seen g.W.Write.contents l.output) (others_text (permits l.wanted) (permits l.found)) (flat_map (row_text (other_line (permits l.wanted) (permits l.found))) (run_from l.lower (17 - l.lower)))
