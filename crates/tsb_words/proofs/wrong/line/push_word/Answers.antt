use Rattle.std.proofs.Common.{◌≤◌, ◌∙◌, ℕ, List, length, subst, sym}
use Rattle.tsb_words.proofs.RoomLemmas.{part}
use Rattle.tsb_words.proofs.wrong.line.push_word.Goals as goal

pub returns : goal.returns
returns c = part (c.deref.ensures.0 ∙ c.shown.ensures.text) (subst (λ (t : List ℕ). length t ≤ 40) (sym c.deref.ensures.0) c.shown.ensures.short) c.push.ensures.line
