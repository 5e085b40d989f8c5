use Rattle.std.proofs.Math.Path.{fun_ext}
use Rattle.tsb_types.proofs.event.begun.Goals as goal

pub returns : goal.returns
returns c = fun_ext c.difference.ensures
