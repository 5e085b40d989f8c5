use Rattle.tsb_laws.proofs.versions.PutLemmas.{puts_make_narrow_plans, puts_make_wide_plans, two_is_wide, quad_is_wide}
use Rattle.tsb_laws.proofs.versions.values_make_both_plans.Goals as goal

pub returns-clause-narrow : goal.returns-clause-narrow
returns-clause-narrow c = puts_make_narrow_plans

pub returns-clause-wide : goal.returns-clause-wide
returns-clause-wide c = puts_make_wide_plans

pub returns-clause-two : goal.returns-clause-two
returns-clause-two c = two_is_wide

pub returns-clause-quad : goal.returns-clause-quad
returns-clause-quad c = quad_is_wide
