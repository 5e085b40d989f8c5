use Rattle.std.proofs.Common.{◌∙◌, ap}
use Rattle.tsb_bench.specs.Cabinet.{rows_of}
use Rattle.tsb_bench.specs.Held.{Held, state_of}
use Rattle.tsb_bench.proofs.InputLemmas.{beside}
use Rattle.tsb_bench.proofs.bench.Bench.omitted_arrows.Goals as goal

pub returns : goal.returns
returns c o =
    c.omitted_arrows.ensures c.self.inside.tick (beside (rows_of c.self.inside.cabinet)) o
    ∙ ap (λ (h : Held). (state_of h).omitted o) c.self.view_is
