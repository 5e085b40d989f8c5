use Rattle.std.proofs.Common.{◌∙◌, ◌-◌, ℕ, List, ap, length, take}
use Rattle.tsb_live_text.proofs.saved.SavedLemmas.{row-said}
use Rattle.tsb_live_text.proofs.saved.say_row.Goals as goal

pub returns-clause-told : goal.returns-clause-told
returns-clause-told g c =
    row-said c.say_line.result c.args.form c.args.row c.line_in-line.result c.split_at.result.0.now c.saturating_sub.result _ _ _ _ c.line_in-line.ensures
    (c.saturating_sub.ensures ∙ ap (λ (bs : List ℕ). length bs - 1) c.as_bytes-bytes.ensures.bytes)
    (c.split_at.ensures.front ∙ ap (take c.saturating_sub.result) c.as_bytes-bytes.ensures.bytes) c.say_line.ensures.told
