use Rattle.std.proofs.Common.{rules}
use Rattle.tsb_plan_text.proofs.notes.read_texts.Goals as goal

pub loop-name-preserved : goal.loop-name-preserved
loop-name-preserved c = search rules fits 100
