use Rattle.tsb_field_log.proofs.PushedLemmas.{rows-step, rows-end, rows-whole, rows-front}
use Rattle.tsb_field_log.proofs.laws.rows_add_up.Goals as goal

pub returns-clause-step : goal.returns-clause-step
returns-clause-step c = rows-step

pub returns-clause-end : goal.returns-clause-end
returns-clause-end c = rows-end

pub returns-clause-whole : goal.returns-clause-whole
returns-clause-whole c = rows-whole

pub returns-clause-front : goal.returns-clause-front
returns-clause-front c = rows-front
