use Rattle.tsb_words.proofs.wrong.line.push_bare.Goals as goal

pub returns : goal.returns
returns c = c.push_lack.ensures
