use Rattle.std.proofs.Common.{sym, ◌∙◌, arith, rules}
use Rattle.std.proofs.lemmas.List.{ext_get_or}
use Rattle.tsb_types.specs.Lists.{run_from}
use Rattle.tsb_types.proofs.RunLemmas.{length-run_from, get_or-run_from}
use Rattle.tsb_types.proofs.numbers.Number.first.Goals as goal

pub returns : goal.returns
returns g c =
    ext_get_or 0 c.loop-k.all (run_from 1 g.row.N) (c.loop-k.invariant.full ∙ sym (length-run_from 1 g.row.N))
    (λ j below. c.loop-k.invariant.placed j (omega arith) ∙ sym (get_or-run_from 1 g.row.N j (omega arith)))

pub loop-k-preserved : goal.loop-k-preserved
loop-k-preserved g c = search rules fits 100
