use Rattle.std.proofs.Common.{◌≤◌, ◌∙◌, ℕ, List, length, subst, sym}
use Rattle.tsb_field_streams.proofs.RoomLemmas.{part}
use Rattle.tsb_field_streams.proofs.fault_lines.push_column.Goals as goal

pub returns : goal.returns
returns c =
    part (c.as_bytes.ensures.value ∙ c.format.ensures.text) (subst (λ (t : List ℕ). length t ≤ 40) (sym c.as_bytes.ensures.value) c.format.ensures.short) c.push.ensures.line
