use Rattle.std.proofs.Common.{rules}
use Rattle.tsb_controller.proofs.controller.Controller.force_off_in.Goals as goal

pub returns : goal.returns
returns c = search rules fits 100
