use Rattle.tsb_command_text.proofs.LawLemmas.{long-lines, first-bytes}
use Rattle.tsb_command_text.proofs.laws.long_lines_are_bad.Goals as goal

pub returns-clause-bad : goal.returns-clause-bad
returns-clause-bad c = long-lines

pub returns-clause-first : goal.returns-clause-first
returns-clause-first c = first-bytes
