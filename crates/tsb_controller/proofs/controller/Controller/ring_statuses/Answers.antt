use Rattle.std.proofs.Common.{[], ◌∷◌, ap₂}
use Rattle.tsb_status.specs.declared.status.RingStatus.{RingStatus}
use Rattle.tsb_controller.proofs.controller.Controller.ring_statuses.Goals as goal

pub returns : goal.returns
returns c = ap₂ (λ (x y : RingStatus). x ∷ y ∷ []) c.ring_status.ensures c.ring_status-2.ensures
