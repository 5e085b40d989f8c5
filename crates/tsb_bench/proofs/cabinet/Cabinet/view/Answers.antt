use Rattle.std.proofs.Common.{refl, sym}
use Rattle.tsb_objects.specs.Checked.{checked_plan}
use Rattle.tsb_plan.specs.PlanOf.{plan_of}
use Rattle.tsb_step.specs.Cells.{clock_at}
use Rattle.tsb_step.specs.Events.{view}
use Rattle.tsb_step.specs.MonitorCells.{trip_in}
use Rattle.tsb_bench.specs.Cabinet.{rows_of}
use Rattle.tsb_bench.proofs.InputLemmas.{beside}
use Rattle.tsb_bench.proofs.cabinet.Cabinet.view.Goals as goal

pub view-requires-clause-overlaps_by : goal.view-requires-clause-overlaps_by
view-requires-clause-overlaps_by c = let known = c.requires.by in (clock_at known.0 (trip_in (rows_of c.args.self.now).monitor), known.1.layers.overlaps)

pub returns-clause-sees : goal.returns-clause-sees
unfolding checked_plan plan_of
returns-clause-sees c = c.view.ensures (beside (rows_of c.args.self.now)) refl (sym c.is_tripped-tripped.ensures) (sym c.clock.ensures)

pub returns-clause-flashes : goal.returns-clause-flashes
unfolding view
returns-clause-flashes c = (returns-clause-sees c).flashes
