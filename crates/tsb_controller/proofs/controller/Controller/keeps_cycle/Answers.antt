use Rattle.std.proofs.Common.{rules}
use Rattle.tsb_controller.proofs.controller.Controller.keeps_cycle.Goals as goal

pub returns : goal.returns
returns c = search rules fits 300
