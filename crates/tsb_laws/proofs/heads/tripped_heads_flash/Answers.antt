use Rattle.tsb_laws.proofs.heads.TripLemmas.{heads_flash}
use Rattle.tsb_laws.proofs.heads.tripped_heads_flash.Goals as goal

pub returns : goal.returns
returns c = heads_flash
