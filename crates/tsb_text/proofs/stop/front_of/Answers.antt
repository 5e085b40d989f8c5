use Rattle.std.proofs.Common.{rules}
use Rattle.std.proofs.lemmas.List.{take_min}
use Rattle.tsb_text.proofs.stop.front_of.Goals as goal

pub returns-clause-front : goal.returns-clause-front
returns-clause-front c = search (rules, take_min)
