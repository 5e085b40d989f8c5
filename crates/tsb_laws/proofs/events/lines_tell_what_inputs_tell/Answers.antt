use Rattle.tsb_laws.proofs.events.RunLemmas.{lines-read, tell-the-same}
use Rattle.tsb_laws.proofs.events.lines_tell_what_inputs_tell.Goals as goal

pub returns : goal.returns
returns c = record { read = lines-read; same = tell-the-same }
