use Rattle.std.proofs.Common.{arith}
use Rattle.std.proofs.lemmas.Grind.{common_steps}
use Rattle.tsb_objects.proofs.checked.Checked.renew.Goals as goal

pub renew-requires-3 : goal.renew-requires-3
renew-requires-3 c = grind (arith, common_steps)
