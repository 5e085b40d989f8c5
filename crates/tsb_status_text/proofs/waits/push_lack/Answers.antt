use Rattle.std.proofs.Common.{◌≡◌, ◌∙◌, Some, None, arith, codes, sym}
use Rattle.tsb_status_text.specs.StatusText.{lack_time}
use Rattle.tsb_lines.proofs.RoomLemmas.{at-most, then}
use Rattle.tsb_status_text.proofs.RoomLemmas.{named-as, part}
use Rattle.tsb_status_text.proofs.waits.push_lack.Goals as goal

pub returns-in-None : goal.returns-in-None
returns-in-None c =
    let none : lack_time c.args.lack.now ≡ None = sym c.lack_time.ensures ∙ c.in-None.is in
    rw none (at-most (omega (arith, c.lack_name.ensures.short)) (then (named-as (codes ",\"lack\":") c.lack_name.ensures.name c.push_named.ensures) (part c.push.ensures.line)))

pub returns-in-Some : goal.returns-in-Some
returns-in-Some c =
    let some : lack_time c.args.lack.now ≡ Some c.in-Some.left = sym c.lack_time.ensures ∙ c.in-Some.is in
    rw some (at-most (omega (arith, c.lack_name.ensures.short)) (then (named-as (codes ",\"lack\":") c.lack_name.ensures.name c.push_named.ensures) c.push_left.ensures))
