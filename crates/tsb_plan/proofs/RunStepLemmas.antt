-- A run of numbers is its first and the rest, and empty past its end.
use Rattle.std.proofs.Common.{◌≡◌, ℕ, suc, ◌+◌, ◌-◌, ◌<◌, ◌≤◌, [], ◌∷◌, refl, arith}
use Rattle.tsb_types.specs.Lists.{run_from}

pub run-first : (a b : ℕ) → a ≤ b → run_from a (b + 1 - a) ≡ a ∷ run_from (a + 1) (b + 1 - (a + 1))
unfolding run_from
run-first a b below =
    let e : b + 1 - a ≡ suc (b + 1 - (a + 1)) = omega arith in
    rw e refl

pub run-none : (a b : ℕ) → b < a → run_from a (b + 1 - a) ≡ []
unfolding run_from
run-none a b above =
    let e : b + 1 - a ≡ 0 = omega arith in
    rw e refl
