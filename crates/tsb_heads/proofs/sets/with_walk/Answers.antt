use Rattle.std.proofs.Common.{◌≡◌, ℕ, ◌*◌, nat_lt, nat_le, ◌∙◌, arith}
use Rattle.std.proofs.lemmas.Bool.Decides.{nat_tests}
use Rattle.tsb_heads.proofs.sets.with_walk.Goals as goal

some-tenths : (n : ℕ) → nat_le 1 n ≡ nat_lt 0 (10 * n)
some-tenths n = grind (arith, nat_tests)

pub returns : goal.returns
returns c = λ p. c.with_walk.ensures p ∙ some-tenths _
