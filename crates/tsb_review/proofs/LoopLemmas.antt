-- Loops over a run of numbers that look for one that passes a test.
use Rattle.std.proofs.Common.{◌≡◌, ◌∙◌, ℕ, ◌+◌, ◌-◌, ◌<◌, ◌≤◌, Bool, true, false, ◌||◌, if◌then◌else◌, List, [], ◌∷◌, Some, None, refl, ap}
use Rattle.std.specs.List.{list_any}
use Rattle.tsb_types.specs.Lists.{first, run_from}
use Rattle.tsb_plan.proofs.RunStepLemmas.{run-first, run-none}

-- ## Whether one passes

-- the first does not: one of the rest has to
pub any-more : (f : ℕ → Bool) (a b : ℕ) → a ≤ b → f a ≡ false → list_any f (run_from a (b + 1 - a)) ≡ list_any f (run_from (a + 1) (b + 1 - (a + 1)))
any-more f a b below off =
    ap (λ (ns : List ℕ). list_any f ns) (run-first a b below) ∙ ap (λ (x : Bool). x || list_any f (run_from (a + 1) (b + 1 - (a + 1)))) off

-- it does
pub any-found : (f : ℕ → Bool) (a b : ℕ) → a ≤ b → f a ≡ true → list_any f (run_from a (b + 1 - a)) ≡ true
any-found f a b below on =
    ap (λ (ns : List ℕ). list_any f ns) (run-first a b below) ∙ ap (λ (x : Bool). x || list_any f (run_from (a + 1) (b + 1 - (a + 1)))) on

-- nothing is left
pub any-end : (f : ℕ → Bool) (a b : ℕ) → b < a → list_any f (run_from a (b + 1 - a)) ≡ false
any-end f a b over = ap (λ (ns : List ℕ). list_any f ns) (run-none a b over)

-- none of a list passes where none at all does
pub any-none : (f : ℕ → Bool) → ((n : ℕ) → f n ≡ false) → (ns : List ℕ) → list_any f ns ≡ false
any-none f never [] = refl
any-none f never (n ∷ ns) = ap (λ (x : Bool). x || list_any f ns) (never n) ∙ any-none f never ns

-- ## The first that passes

pub first-more : (f : ℕ → Bool) (a b : ℕ) → a ≤ b → f a ≡ false → first f (run_from a (b + 1 - a)) ≡ first f (run_from (a + 1) (b + 1 - (a + 1)))
first-more f a b below off =
    ap (λ (ns : List ℕ). first f ns) (run-first a b below) ∙ ap (λ (x : Bool). if x then Some a else first f (run_from (a + 1) (b + 1 - (a + 1)))) off

pub first-found : (f : ℕ → Bool) (a b : ℕ) → a ≤ b → f a ≡ true → first f (run_from a (b + 1 - a)) ≡ Some a
first-found f a b below on =
    ap (λ (ns : List ℕ). first f ns) (run-first a b below) ∙ ap (λ (x : Bool). if x then Some a else first f (run_from (a + 1) (b + 1 - (a + 1)))) on

pub first-end : (f : ℕ → Bool) (a b : ℕ) → b < a → first f (run_from a (b + 1 - a)) ≡ None
first-end f a b over = ap (λ (ns : List ℕ). first f ns) (run-none a b over)
