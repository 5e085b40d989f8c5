use Rattle.tsb_laws.proofs.way_back.ToldLemmas.{of-a-run, cells-tell, equal-cells, has-rows}
use Rattle.tsb_step.specs.Runs.{replay}
use Rattle.tsb_laws.proofs.way_back.cells_tell_the_state.Goals as goal

pub returns-clause-told : goal.returns-clause-told
returns-clause-told c plan is r = cells-tell (replay plan is) (of-a-run plan is r)

pub returns-clause-equal : goal.returns-clause-equal
returns-clause-equal c = equal-cells

pub returns-clause-rows : goal.returns-clause-rows
returns-clause-rows c = has-rows
