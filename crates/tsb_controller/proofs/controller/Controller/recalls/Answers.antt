use Rattle.std.proofs.Common.{rules}
use Rattle.tsb_controller.proofs.controller.Controller.recalls.Goals as goal

pub returns : goal.returns
returns c = search rules fits 300
