use Rattle.std.proofs.Common.{arith, rules}
use Rattle.std.proofs.lemmas.List.{drop_min, take_rest}
use Rattle.tsb_plan_notes.proofs.near.behind.Goals as goal

pub returns : goal.returns
returns c = grind (arith, rules, c.min.ensures, drop_min c.args.count c.args.text.now, take_rest c.args.text.now c.min.result)
