use Rattle.std.proofs.Common.{◌∙◌, ap, is_some}
use Rattle.tsb_objects.specs.tsb_types.Lists.{run_from}
use Rattle.tsb_objects.specs.tsb_types.Sets.{has}
use Rattle.tsb_objects.proofs.tsb_types.FirstLemmas.{first-any, first-same}
use Rattle.tsb_heads.proofs.sets.has_some.Goals as goal

pub returns : goal.returns
returns c = λ test same.
    c.is_some.ensures ∙ ap is_some (c.first.ensures.found ∙ first-same (has c.args.set) test (run_from 1 16) same) ∙ first-any test (run_from 1 16)
