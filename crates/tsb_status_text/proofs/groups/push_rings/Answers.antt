use Rattle.std.proofs.Common.{arith, ap}
use Rattle.tsb_lines.proofs.RoomLemmas.{at-most, then}
use Rattle.tsb_status_text.proofs.RoomLemmas.{part, text-as}
use Rattle.tsb_status_text.specs.StatusText.{rings_text, ring_text}
use Rattle.std.proofs.lemmas.List.{get_or_default}
use Rattle.tsb_status.specs.declared.status.RingStatus.{RingStatus}
use Rattle.tsb_status.specs.Plain.{resting, ring_status_of}
use Rattle.tsb_status_text.proofs.groups.push_rings.Goals as goal

pub returns : goal.returns
unfolding rings_text
returns c =
    at-most (omega arith)
    (then (part c.push.ensures.line)
    (then (text-as (ap (λ (r : RingStatus). ring_text (ring_status_of r)) (get_or_default c.args.rings.now 0 _ resting (omega (arith, c.type_inv.rings)))) c.push_ring.ensures)
    (then (part c.push-2.ensures.line)
    (then (text-as (ap (λ (r : RingStatus). ring_text (ring_status_of r)) (get_or_default c.args.rings.now 1 _ resting (omega (arith, c.type_inv.rings)))) c.push_ring-2.ensures)
    (part c.push-3.ensures.line)))))
