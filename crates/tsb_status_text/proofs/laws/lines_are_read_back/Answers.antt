use Rattle.tsb_status_text.proofs.ReadLemmas.{read_back, told_apart}
use Rattle.tsb_status_text.proofs.laws.lines_are_read_back.Goals as goal

pub returns : goal.returns
returns c = record { reads = read_back c.versions_say_the_same.ensures.apart; apart = told_apart c.versions_say_the_same.ensures.apart }
