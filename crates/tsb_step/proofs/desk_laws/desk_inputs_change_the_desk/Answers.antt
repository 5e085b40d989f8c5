use Rattle.tsb_step.proofs.DeskLemmas.{change_the_desk_alone, leave_the_desk}
use Rattle.tsb_step.proofs.desk_laws.desk_inputs_change_the_desk.Goals as goal

pub returns-clause-alone : goal.returns-clause-alone
returns-clause-alone c = change_the_desk_alone

pub returns-clause-others : goal.returns-clause-others
returns-clause-others c = leave_the_desk
