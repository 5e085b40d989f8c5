use Rattle.tsb_field_display.proofs.LineLemmas.{are-read, displays-read}
use Rattle.tsb_field_display.proofs.laws.display_lines_are_read.Goals as goal

pub returns-clause-read : goal.returns-clause-read
returns-clause-read c = are-read

pub returns-clause-displays : goal.returns-clause-displays
returns-clause-displays c = displays-read
