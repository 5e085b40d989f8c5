use Rattle.std.proofs.Common.{rules}
use Rattle.tsb_text.proofs.run.flow_after.Goals as goal

pub returns-in-Quit : goal.returns-in-Quit
returns-in-Quit c = search rules fits 100
