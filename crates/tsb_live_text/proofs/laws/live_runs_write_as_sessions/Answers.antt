use Rattle.tsb_live_text.proofs.LawLemmas.{answered-as, rows-as, runs-as}
use Rattle.tsb_live_text.proofs.laws.live_runs_write_as_sessions.Goals as goal

pub returns : goal.returns
returns c = record { commands = answered-as; rows = rows-as; runs = runs-as }
