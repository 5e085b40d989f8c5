use Rattle.std.proofs.Math.Path.{fun_ext}
use Rattle.tsb_types.proofs.EventLemmas.{told_detectors-by}
use Rattle.tsb_events.proofs.tell.tell_detectors_begun.Goals as goal

pub returns-clause-told : goal.returns-clause-told
returns-clause-told c = told_detectors-by _ _ _ _ _ _ c.tell_detectors.ensures.told (fun_ext c.difference.ensures)
