use Rattle.tsb_laws.proofs.one_text.SavedLemmas.{saved-session}
use Rattle.tsb_laws.proofs.one_text.saved_runs_are_sessions.Goals as goal

pub returns : goal.returns
returns c = saved-session
