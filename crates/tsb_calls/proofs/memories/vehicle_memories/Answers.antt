use Rattle.std.proofs.Common.{arith}
use Rattle.std.proofs.lemmas.Grind.{common_steps}
use Rattle.tsb_calls.specs.Memories.{vehicle_memory}
use Rattle.tsb_calls.proofs.memories.vehicle_memories.Goals as goal

pub returns : goal.returns
unfolding vehicle_memory
returns c = grind (arith, common_steps)
