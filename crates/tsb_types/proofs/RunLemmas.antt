-- Runs of numbers.
use Rattle.std.proofs.Common.{zero, suc, ◌≡◌, ℕ, ◌+◌, ◌<◌, ◌==◌, List, [], ◌∷◌, length, get_or, map, refl, arith, ap, ap₂, ◌∙◌, Bool, ◌||◌, true, false, ◌≤◌, inl, inr, ◌-◌, sum_by, sym, ◌++◌, flat_map}
use Rattle.std.specs.List.{list_all, list_any}
use Rattle.std.proofs.lemmas.Bool.{cases_eq, eq-eqb, or_left, or_right}
use Rattle.std.proofs.lemmas.List.Sums.{sum_by-cons}
use Rattle.tsb_types.specs.Lists.{run_from, among}

pub length-run_from : (a n : ℕ) → length (run_from a n) ≡ n
unfolding run_from
length-run_from a zero = refl
length-run_from a (suc n) = ap suc (length-run_from (a + 1) n)

pub get_or-run_from : (a n j : ℕ) → j < n → get_or (run_from a n) j 0 ≡ a + j
unfolding run_from
get_or-run_from a zero j below = absurd (omega arith)
get_or-run_from a (suc n) zero below = omega arith
get_or-run_from a (suc n) (suc j) below = get_or-run_from (a + 1) n j (omega arith) ∙ (let e : a + 1 + j ≡ a + suc j = omega arith in e)

-- a list that has f of each number of a run, one after the other
pub map-run_from : (f : ℕ → ℕ) (a n : ℕ) (xs : List ℕ) → length xs ≡ n → ((k : ℕ) → k < n → get_or xs k 0 ≡ f (a + k)) → xs ≡ map f (run_from a n)
unfolding run_from
map-run_from f a zero [] full each = refl
map-run_from f a zero (x ∷ xs) full each = absurd (omega arith)
map-run_from f a (suc n) [] full each = absurd (omega arith)
map-run_from f a (suc n) (x ∷ xs) full each =
    let here : x ≡ f a = each 0 (omega arith) ∙ ap f (let e : a + 0 ≡ a = omega arith in e) in
    let rest : xs ≡ map f (run_from (a + 1) n) =
    map-run_from f (a + 1) n xs (omega arith) (λ k below. each (suc k) (omega arith) ∙ ap f (let e : a + suc k ≡ a + 1 + k = omega arith in e)) in
    ap (λ (y : ℕ). y ∷ xs) here ∙ ap (λ (ys : List ℕ). f a ∷ ys) rest

-- a test that each number of a run passes, and one that some number does not
pub all-run_from : (test : ℕ → Bool) (a n : ℕ) → ((k : ℕ) → a ≤ k → k < a + n → test k ≡ true) → list_all test (run_from a n) ≡ true
unfolding run_from
all-run_from test a zero each = refl
all-run_from test a (suc n) each =
    rw (each a (omega arith) (omega arith)) (all-run_from test (a + 1) n (λ k from below. each k (omega arith) (omega arith)))

later_fails : (test : ℕ → Bool) (x : ℕ) (xs : List ℕ) → list_all test xs ≡ false → list_all test (x ∷ xs) ≡ false
later_fails test x xs fails = go (test x) refl
  where
    go : (b : Bool) → test x ≡ b → list_all test (x ∷ xs) ≡ false
    go false e = rw e refl
    go true e = rw e fails

pub not_all-run_from : (test : ℕ → Bool) (a n k : ℕ) → a ≤ k → k < a + n → test k ≡ false → list_all test (run_from a n) ≡ false
unfolding run_from
not_all-run_from test a zero k from below fails = absurd (omega arith)
not_all-run_from test a (suc n) k from below fails =
    elim (cases_eq a k) [
      | inl same ↦ rw (ap test same ∙ fails) refl
      | inr other ↦ later_fails test a (run_from (a + 1) n) (not_all-run_from test (a + 1) n k (omega arith) (omega arith) fails)
    ]

-- the sum over a run is that of its first and the rest
pub sum-run_from : (f : ℕ → ℕ) (a b : ℕ) → a ≤ b → f a + sum_by f (run_from (a + 1) (b + 1 - (a + 1))) ≡ sum_by f (run_from a (b + 1 - a))
unfolding run_from
sum-run_from f a b below =
    let e : b + 1 - a ≡ suc (b + 1 - (a + 1)) = omega arith in
    rw e (sym (sum_by-cons f a (run_from (a + 1) (b + 1 - (a + 1)))))

pub sum-run_end : (f : ℕ → ℕ) (a b : ℕ) → b < a → sum_by f (run_from a (b + 1 - a)) ≡ 0
unfolding run_from
sum-run_end f a b above =
    let e : b + 1 - a ≡ 0 = omega arith in
    rw e refl

-- two functions that agree on a run have the same list of it
pub map-same : (f g : ℕ → ℕ) (a n : ℕ) → ((k : ℕ) → a ≤ k → k < a + n → f k ≡ g k) → map f (run_from a n) ≡ map g (run_from a n)
unfolding run_from
map-same f g a zero same = refl
map-same f g a (suc n) same =
    let rest : map f (run_from (a + 1) n) ≡ map g (run_from (a + 1) n) = map-same f g (a + 1) n (λ k from below. same k (omega arith) (omega arith)) in
    ap (λ (y : ℕ). y ∷ map f (run_from (a + 1) n)) (same a (omega arith) (omega arith)) ∙ ap (λ (ys : List ℕ). g a ∷ ys) rest

-- what a function gives for each number of a run
pub at-run : (f : ℕ → ℕ) (a n k : ℕ) → k < n → get_or (map f (run_from a n)) k 0 ≡ f (a + k)
unfolding run_from
at-run f a zero k below = absurd (omega arith)
at-run f a (suc n) zero below = let e : a ≡ a + 0 = omega arith in ap f e
at-run f a (suc n) (suc k) below = at-run f (a + 1) n k (omega arith) ∙ ap f (let e : a + 1 + k ≡ a + suc k = omega arith in e)

-- a number within a run is one of it
pub among-run : (p a n : ℕ) → a ≤ p → p < a + n → among p (run_from a n) ≡ true
unfolding run_from
among-run p a zero from below = absurd (omega arith)
among-run p a (suc n) from below =
    elim (cases_eq a p) [
      | inl same ↦ (let here : (a == p) ≡ true = eq-eqb a p same in rw here refl)
      | inr apart ↦ (let later : among p (run_from (a + 1) n) ≡ true = among-run p (a + 1) n (omega arith) (omega arith) in or_right (a == p) _ later)
    ]

-- a test that some number of a run passes, and one that none does
pub any-at : (test : ℕ → Bool) (a n k : ℕ) → a ≤ k → k < a + n → test k ≡ true → list_any test (run_from a n) ≡ true
unfolding run_from
any-at test a zero k from below on = absurd (omega (arith, from, below))
any-at test a (suc n) k from below on =
    elim (cases_eq a k) [
      | inl same ↦ or_left (test a) (list_any test (run_from (a + 1) n)) (ap test same ∙ on)
      | inr other ↦ or_right (test a) (list_any test (run_from (a + 1) n)) (any-at test (a + 1) n k (omega (arith, from, other)) (omega (arith, below)) on)
    ]

pub any-never : (test : ℕ → Bool) (a n : ℕ) → ((k : ℕ) → a ≤ k → k < a + n → test k ≡ false) → list_any test (run_from a n) ≡ false
unfolding run_from
any-never test a zero never = refl
any-never test a (suc n) never =
    ap₂ (λ (x y : Bool). x || y) (never a (omega arith) (omega arith))
    (any-never test (a + 1) n (λ k from below. never k (omega (arith, from)) (omega (arith, below))))

-- a list of f of each number of a run begins with that of its first, and has nothing past its end
pub flat-run_from : (f : ℕ → List ℕ) (k end : ℕ) → k < end → flat_map f (run_from k (end - k)) ≡ f k ++ flat_map f (run_from (k + 1) (end - (k + 1)))
unfolding run_from
flat-run_from f k end below =
    let e : end - k ≡ suc (end - (k + 1)) = omega (arith, below) in
    ap (λ (n : ℕ). flat_map f (run_from k n)) e

pub flat-run_past : (f : ℕ → List ℕ) (k end : ℕ) → end ≤ k → flat_map f (run_from k (end - k)) ≡ []
unfolding run_from
flat-run_past f k end over =
    let e : end - k ≡ zero = omega (arith, over) in
    ap (λ (n : ℕ). flat_map f (run_from k n)) e
