use Rattle.std.proofs.Common.{rules}
use Rattle.tsb_plan_notes.proofs.near.meets.Goals as goal

pub returns : goal.returns
returns c = search rules fits 100
