use Rattle.tsb_words.proofs.wrong.line.push_unknown.Goals as goal

pub returns : goal.returns
returns c = c.push_of.ensures
