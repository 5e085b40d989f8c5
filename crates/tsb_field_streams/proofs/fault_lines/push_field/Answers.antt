use Rattle.std.proofs.Common.{◌≤◌, ◌∙◌, ℕ, List, arith, length, refl, subst, sym}
use Rattle.tsb_lines.proofs.RoomLemmas.{at-most, then}
use Rattle.tsb_field_streams.proofs.RoomLemmas.{part}
use Rattle.tsb_field_streams.proofs.fault_lines.push_field.Goals as goal

pub returns : goal.returns
returns c =
    at-most (omega arith) (then (part {most = 9} c.column_name.ensures.text c.column_name.ensures.short c.push.ensures.line) (then (part {most = 3} refl (omega arith) c.push-2.ensures.line) (then (part {most = 40} (c.deref.ensures.0 ∙ c.shown.ensures.text) (subst (λ (t : List ℕ). length t ≤ 40) (sym c.deref.ensures.0) c.shown.ensures.short) c.push-3.ensures.line) (part {most = 1} refl (omega arith) c.push-4.ensures.line))))
