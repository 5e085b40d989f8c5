use Rattle.std.proofs.Common.{◌∙◌, ap}
use Rattle.tsb_step.specs.Signs.{stage}
use Rattle.tsb_bench.specs.Cabinet.{rows_of}
use Rattle.tsb_bench.specs.Held.{Held, state_of}
use Rattle.tsb_bench.proofs.InputLemmas.{beside}
use Rattle.tsb_bench.proofs.bench.Bench.stage.Goals as goal

pub returns : goal.returns
returns c = c.stage.ensures c.self.inside.tick (beside (rows_of c.self.inside.cabinet)) ∙ ap (λ (h : Held). stage (state_of h)) c.self.view_is
