use Rattle.std.proofs.Common.{refl, sym, subst, arith}
use Rattle.tsb_objects.specs.Checked.{checked_plan}
use Rattle.tsb_plan.specs.PlanOf.{plan_of}
use Rattle.tsb_controller.specs.Rows.{AreBy}
use Rattle.tsb_bench.specs.Cabinet.{rows_of}
use Rattle.tsb_bench.proofs.InputLemmas.{beside, clock-most}
use Rattle.tsb_bench.proofs.cabinet.Cabinet.status.Goals as goal

pub status-requires-clause-by : goal.status-requires-clause-by
status-requires-clause-by c = subst (λ n. AreBy n (rows_of c.args.self.now).layers) (sym c.clock.ensures) c.requires.by.layers

pub status-requires-clause-clock : goal.status-requires-clause-clock
status-requires-clause-clock c =
    let most = clock-most c.args.tick (rows_of c.args.self.now) c.requires.by in
    omega (arith, most, c.clock.ensures, c.requires.limit)

pub returns : goal.returns
unfolding checked_plan plan_of
returns c = c.status.ensures (beside (rows_of c.args.self.now)) (record {
  plan_is = refl;
  clock_is = sym c.clock.ensures;
  trips = sym c.is_tripped.ensures;
  owner_is = sym c.owner.ensures;
  desk_is = sym c.state.ensures;
})
