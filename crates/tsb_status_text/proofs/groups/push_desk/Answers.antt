use Rattle.std.proofs.Common.{arith, codes}
use Rattle.tsb_lines.proofs.RoomLemmas.{at-most, then}
use Rattle.tsb_status_text.proofs.RoomLemmas.{named-as, part}
use Rattle.tsb_status_text.specs.StatusText.{desk_text}
use Rattle.tsb_status_text.proofs.groups.push_desk.Goals as goal

pub returns : goal.returns
unfolding desk_text
returns c =
    at-most (omega (arith, c.desk_name.ensures.short))
    (then (part c.push.ensures.line)
    (then c.push_owner.ensures
    (then (named-as (codes ",\"state\":") c.desk_name.ensures.name c.push_named.ensures)
    (part c.push-2.ensures.line))))
