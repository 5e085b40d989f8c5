use Rattle.std.proofs.Common.{arith, ap, length, codes, ℕ, List}
use Rattle.tsb_lines.proofs.RoomLemmas.{at-most, then}
use Rattle.tsb_status_text.proofs.RoomLemmas.{named-as, part}
use Rattle.tsb_status_text.specs.StatusText.{wait_text}
use Rattle.tsb_status_text.proofs.waits.push_wait.Goals as goal

pub returns : goal.returns
unfolding wait_text
returns c =
    at-most (omega (arith, c.wait_name.ensures.short, ap (λ (ts : List ℕ). length ts) c.wait_name.ensures.name))
    (then (part c.push.ensures.line)
    (then c.push_byte.ensures.line
    (then (named-as (codes ",\"for\":") c.wait_name.ensures.name c.push_named.ensures)
    c.push_members.ensures)))
