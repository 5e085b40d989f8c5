use Rattle.std.proofs.Common.{◌∙◌, ℕ, ap, take}
use Rattle.std.proofs.lemmas.List.{take_min}
use Rattle.tsb_words.proofs.near.shown.Goals as goal

pub returns-clause-text : goal.returns-clause-text
returns-clause-text c = ap (λ (n : ℕ). take n c.args.right.now) c.min.ensures ∙ take_min 40 c.args.right.now
