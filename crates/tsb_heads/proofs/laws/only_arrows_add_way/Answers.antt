use Rattle.tsb_heads.proofs.MonitorLemmas.{only_arrows_add_way}
use Rattle.tsb_heads.proofs.laws.only_arrows_add_way.Goals as goal

pub returns : goal.returns
returns c = only_arrows_add_way
