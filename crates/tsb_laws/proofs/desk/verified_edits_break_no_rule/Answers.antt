use Rattle.tsb_step.proofs.GoodLemmas.{good_run}
use Rattle.tsb_laws.proofs.desk.verified_edits_break_no_rule.Goals as goal

pub returns-clause-right : goal.returns-clause-right
returns-clause-right c plan is ok taken done = (good_run plan is ok taken).done done

pub returns-clause-fit : goal.returns-clause-fit
returns-clause-fit c plan is ok taken = (good_run plan is ok taken).fit
