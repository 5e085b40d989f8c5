use Rattle.tsb_lines.proofs.LawLemmas.{spaces, at-space, at-end}
use Rattle.tsb_lines.proofs.laws.words_stand_between_spaces.Goals as goal

pub returns-clause-front : goal.returns-clause-front
returns-clause-front c = spaces

pub returns-clause-first : goal.returns-clause-first
returns-clause-first c = at-space

pub returns-clause-alone : goal.returns-clause-alone
returns-clause-alone c = at-end
