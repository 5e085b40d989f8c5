use Rattle.tsb_controller.proofs.controller.Controller.omitted_arrows.Goals as goal

pub returns : goal.returns
returns c now b o = c.omitted.ensures o
