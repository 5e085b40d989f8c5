use Rattle.std.proofs.Common.{◌∙◌, arith, codes}
use Rattle.tsb_status_text.specs.StatusText.{status_text}
use Rattle.tsb_lines.proofs.RoomLemmas.{then}
use Rattle.tsb_status_text.proofs.RoomLemmas.{named-as, part, whole}
use Rattle.tsb_status_text.proofs.AlikeLemmas.{text-same}
use Rattle.tsb_status_text.proofs.groups.status_line.Goals as goal

pub returns-clause-line : goal.returns-clause-line
unfolding status_text
returns-clause-line c =
    whole c.new-line.ensures (omega (arith, c.push_number.ensures.short, c.push_byte.ensures.short, c.free_name.ensures.short, c.flash_name.ensures.short))
    (then (part c.push.ensures.line)
    (then (part c.push_number.ensures.line)
    (then (part c.push-2.ensures.line)
    (then c.push_phases.ensures
    (then (part c.push-3.ensures.line)
    (then c.push_overlaps.ensures
    (then (part c.push-4.ensures.line)
    (then c.push_detectors.ensures
    (then (part c.push-5.ensures.line)
    (then c.push_preempts.ensures
    (then (part c.push-6.ensures.line)
    (then c.push_byte.ensures.line
    (then (named-as (codes ",\"localFreeStatus\":") c.free_name.ensures.name c.push_named.ensures)
    (then c.push_optional.ensures
    (then c.push_optional-2.ensures
    (then (named-as (codes ",\"unitFlashStatus\":") c.flash_name.ensures.name c.push_named-2.ensures)
    (then (part c.push-7.ensures.line)
    (then c.push_desk.ensures
    (then (part c.push-8.ensures.line)
    (then c.push_rings.ensures
    (then (part c.push-9.ensures.line)
    (then c.push_waits.ensures
    c.push_end.ensures))))))))))))))))))))))

pub returns-clause-alike : goal.returns-clause-alike
returns-clause-alike c = λ s same. returns-clause-line c ∙ text-same _ s same
