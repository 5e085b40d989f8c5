use Rattle.tsb_status_text.proofs.DeskLemmas.{desks_apart, their_json}
use Rattle.tsb_status_text.proofs.laws.lines_tell_desks.Goals as goal

pub returns : goal.returns
returns c = record { json = their_json; apart = desks_apart }
