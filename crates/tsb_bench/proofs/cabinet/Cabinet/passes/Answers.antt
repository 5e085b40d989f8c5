use Rattle.tsb_step.specs.declared.inputs.Input.{Input}
use Rattle.std.proofs.Common.{subst, sym}
use Rattle.tsb_bench.specs.Cabinet.{rows_of, Passes}
use Rattle.tsb_bench.proofs.PassingLemmas.{passes-here}
use Rattle.tsb_bench.proofs.cabinet.Cabinet.passes.Goals as goal

pub returns-in-Tick-clause-passes : goal.returns-in-Tick-clause-passes
returns-in-Tick-clause-passes c on =
    subst (λ (i : Input). Passes i c.args.tick (rows_of c.args.self.now)) (sym c.in-Tick.is)
    (passes-here c.args.tick c.args.self.now c.in-Tick.row c.requires (c.covers.ensures.ahead on) (c.covers.ensures.same on))
