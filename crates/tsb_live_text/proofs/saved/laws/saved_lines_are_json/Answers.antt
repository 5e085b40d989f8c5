use Rattle.tsb_live_text.proofs.saved.LogLemmas.{saved-are-json}
use Rattle.tsb_live_text.proofs.saved.laws.saved_lines_are_json.Goals as goal

pub returns : goal.returns
returns c = saved-are-json
