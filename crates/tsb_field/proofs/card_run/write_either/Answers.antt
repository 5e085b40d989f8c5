use Rattle.tsb_field.proofs.card_run.write_either.Goals as goal

pub returns-in-Some : goal.returns-in-Some
returns-in-Some g c = rw c.in-Some.is c.compare.ensures
