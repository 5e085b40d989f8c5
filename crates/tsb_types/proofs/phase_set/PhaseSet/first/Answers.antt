use Rattle.std.proofs.Common.{Some, sym, ◌∙◌, ap, arith, refl}
use Rattle.tsb_types.specs.Lists.{run_from}
use Rattle.tsb_types.specs.Sets.{has}
use Rattle.tsb_types.proofs.FirstLemmas.{first-none, first-run_from}
use Rattle.tsb_types.proofs.phase_set.PhaseSet.first.Goals as goal

pub returns-in-Some-clause-found : goal.returns-in-Some-clause-found
returns-in-Some-clause-found c =
    let found = c.in-Some.ensures in
    ap Some c.of.ensures
    ∙ sym (first-run_from (has c.args.self) 1 16 c.in-Some.number (omega (arith, found.from_one)) (omega (arith, found.within)) found.had found.least)

pub returns-in-None-clause-found : goal.returns-in-None-clause-found
returns-in-None-clause-found c = sym (first-none (has c.args.self) (run_from 1 16) (c.in-None.ensures.none refl))
