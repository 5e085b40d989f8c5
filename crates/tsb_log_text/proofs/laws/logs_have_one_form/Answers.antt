use Rattle.tsb_log_text.proofs.ListLemmas.{have-one-form, two-forms}
use Rattle.tsb_log_text.proofs.laws.logs_have_one_form.Goals as goal

pub returns-clause-apart : goal.returns-clause-apart
returns-clause-apart c = two-forms

pub returns-clause-one : goal.returns-clause-one
returns-clause-one c = have-one-form
