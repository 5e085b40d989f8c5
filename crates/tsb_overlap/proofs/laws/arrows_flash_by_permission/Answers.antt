use Rattle.tsb_overlap.proofs.LawLemmas.{flashes-by_permission}
use Rattle.tsb_overlap.proofs.laws.arrows_flash_by_permission.Goals as goal

pub returns : goal.returns
returns c = flashes-by_permission
