-- Tests of the numbers of a run, one after another.
use Rattle.std.proofs.Common.{◌≡◌, ℕ, ◌+◌, ◌<◌, ◌≤◌, Bool, ap, arith, ◌∙◌, inl, inr}
use Rattle.std.proofs.lemmas.Bool.{cases_eq}

-- what a test says of each number so far, and of this one
pub so_far : (test : ℕ → Bool) (said : Bool) (a k : ℕ) → ((c : ℕ) → a ≤ c → c < k → test c ≡ said) → test k ≡ said → (c : ℕ) → a ≤ c → c < k + 1 → test c ≡ said
so_far test said a k each here c from below = elim (cases_eq c k) [
  | inl same ↦ ap test same ∙ here
  | inr apart ↦ each c from (omega (arith, below, apart))
]
