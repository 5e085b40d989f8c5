use Rattle.tsb_lines.proofs.LineLemmas.{feedless-more}
use Rattle.tsb_lines.proofs.kept.KeptLine.push.Goals as goal

pub invariant_of-self : goal.invariant_of-self
invariant_of-self g c = rw c.push.ensures.items (feedless-more _ _ c.self.invariant c.requires)

pub returns-then-not-is_full-clause-one : goal.returns-then-not-is_full-clause-one
returns-then-not-is_full-clause-one g c = rw (← c.self.view_is) (feedless-more _ _ c.self.invariant c.requires)

pub returns-else-not-is_full-clause-one : goal.returns-else-not-is_full-clause-one
returns-else-not-is_full-clause-one g c = rw (← c.self.view_is) (feedless-more _ _ c.self.invariant c.requires)
