use Rattle.std.proofs.Common.{◌∙◌, sym}
use Rattle.tsb_plan.proofs.NameLemmas.{named_exact, named_none}
use Rattle.tsb_plan.proofs.object.Object.named.Goals as goal

pub returns-clause-exact : goal.returns-clause-exact
returns-clause-exact c = λ o. rw c.first_named.ensures (named_exact c.args.version c.args.name.now o)

pub returns-clause-none : goal.returns-clause-none
returns-clause-none c = λ e. named_none c.args.version c.args.name.now (sym c.first_named.ensures ∙ e)
