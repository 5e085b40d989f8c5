use Rattle.std.proofs.Common.{arith, codes}
use Rattle.tsb_lines.proofs.RoomLemmas.{at-most, then}
use Rattle.tsb_status_text.proofs.RoomLemmas.{named-as, part}
use Rattle.tsb_status_text.specs.StatusText.{ring_text}
use Rattle.tsb_status_text.proofs.rings.push_ring.Goals as goal

pub returns : goal.returns
unfolding ring_text
returns c =
    at-most (omega (arith, c.part_name.ensures.short))
    (then (named-as (codes "{\"ringStatus\":") c.part_name.ensures.name c.push_named.ensures)
    (then c.push_phase.ensures
    (then c.push_phase-2.ensures
    (then c.push_optional.ensures
    (then c.push_optional-2.ensures
    (then c.push_optional-3.ensures
    (then c.push_optional-4.ensures
    (then c.push_optional-5.ensures
    (then c.push_optional-6.ensures
    (then c.push_optional-7.ensures
    (then c.push_optional-8.ensures
    (then c.push_optional-9.ensures
    (part c.push.ensures.line)))))))))))))
