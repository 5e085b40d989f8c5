-- A run of numbers says no more of a test than its first part, where the test says nothing beyond that.
use Rattle.std.proofs.Common.{zero, suc, ◌≡◌, ℕ, ◌+◌, ◌≤◌, Bool, true, false, if◌then◌else◌, Some, None, count_by, cond, refl, arith, sym, ap, ◌∙◌}
use Rattle.std.proofs.lemmas.List.Sums.{sum_by-cons}
use Rattle.std.specs.List.{list_all, list_any}
use Rattle.tsb_step.specs.tsb_types.Lists.{first, run_from}

first-none : (test : ℕ → Bool) (a n : ℕ) → ((k : ℕ) → a ≤ k → test k ≡ false) → first test (run_from a n) ≡ None
unfolding run_from
first-none test a zero never = refl
first-none test a (suc n) never = rw (never a (omega arith)) (first-none test (a + 1) n (λ k from. never k (omega (arith, from))))

pub first-longer : (test : ℕ → Bool) (a n m : ℕ) → n ≤ m → ((k : ℕ) → a + n ≤ k → test k ≡ false) → first test (run_from a m) ≡ first test (run_from a n)
unfolding run_from
first-longer test a zero m few never = first-none test a m (λ k from. never k (omega (arith, from)))
first-longer test a (suc n) zero few never = absurd (omega (arith, few))
first-longer test a (suc n) (suc m) few never =
    go (test a) (first-longer test (a + 1) n m (omega (arith, few)) (λ k from. never k (omega (arith, from))))
  where
    go : (b : Bool) → first test (run_from (a + 1) m) ≡ first test (run_from (a + 1) n) →
        (if b then Some a else first test (run_from (a + 1) m)) ≡ (if b then Some a else first test (run_from (a + 1) n))
    go true e = refl
    go false e = e

-- 1 where a number passes
abbrev one : (ℕ → Bool) → ℕ → ℕ
one test n = cond (test n) 1 0

count-none : (test : ℕ → Bool) (a n : ℕ) → ((k : ℕ) → a ≤ k → test k ≡ false) → count_by test (run_from a n) ≡ 0
unfolding run_from
count-none test a zero never = refl
count-none test a (suc n) never =
    let rest : count_by test (run_from (a + 1) n) ≡ 0 = count-none test (a + 1) n (λ k from. never k (omega (arith, from))) in
    sum_by-cons (one test) a (run_from (a + 1) n) ∙ ap (λ (k : ℕ). one test a + k) rest ∙ ap (λ (b : Bool). cond b 1 0 + 0) (never a (omega arith))

pub count-longer : (test : ℕ → Bool) (a n m : ℕ) → n ≤ m → ((k : ℕ) → a + n ≤ k → test k ≡ false) → count_by test (run_from a m) ≡ count_by test (run_from a n)
unfolding run_from
count-longer test a zero m few never = count-none test a m (λ k from. never k (omega (arith, from)))
count-longer test a (suc n) zero few never = absurd (omega (arith, few))
count-longer test a (suc n) (suc m) few never =
    let rest : count_by test (run_from (a + 1) m) ≡ count_by test (run_from (a + 1) n) =
    count-longer test (a + 1) n m (omega (arith, few)) (λ k from. never k (omega (arith, from))) in
    sum_by-cons (one test) a (run_from (a + 1) m) ∙ ap (λ (k : ℕ). one test a + k) rest ∙ sym (sum_by-cons (one test) a (run_from (a + 1) n))

all-true : (test : ℕ → Bool) (a n : ℕ) → ((k : ℕ) → a ≤ k → test k ≡ true) → list_all test (run_from a n) ≡ true
unfolding run_from
all-true test a zero each = refl
all-true test a (suc n) each = rw (each a (omega arith)) (all-true test (a + 1) n (λ k from. each k (omega (arith, from))))

pub all-longer : (test : ℕ → Bool) (a n m : ℕ) → n ≤ m → ((k : ℕ) → a + n ≤ k → test k ≡ true) → list_all test (run_from a m) ≡ list_all test (run_from a n)
unfolding run_from
all-longer test a zero m few each = all-true test a m (λ k from. each k (omega (arith, from)))
all-longer test a (suc n) zero few each = absurd (omega (arith, few))
all-longer test a (suc n) (suc m) few each =
    let rest : list_all test (run_from (a + 1) m) ≡ list_all test (run_from (a + 1) n) =
    all-longer test (a + 1) n m (omega (arith, few)) (λ k from. each k (omega (arith, from))) in
    rw rest refl

any-false : (test : ℕ → Bool) (a n : ℕ) → ((k : ℕ) → a ≤ k → test k ≡ false) → list_any test (run_from a n) ≡ false
unfolding run_from
any-false test a zero never = refl
any-false test a (suc n) never = rw (never a (omega arith)) (any-false test (a + 1) n (λ k from. never k (omega (arith, from))))

pub any-longer : (test : ℕ → Bool) (a n m : ℕ) → n ≤ m → ((k : ℕ) → a + n ≤ k → test k ≡ false) → list_any test (run_from a m) ≡ list_any test (run_from a n)
unfolding run_from
any-longer test a zero m few never = any-false test a m (λ k from. never k (omega (arith, from)))
any-longer test a (suc n) zero few never = absurd (omega (arith, few))
any-longer test a (suc n) (suc m) few never =
    let rest : list_any test (run_from (a + 1) m) ≡ list_any test (run_from (a + 1) n) =
    any-longer test (a + 1) n m (omega (arith, few)) (λ k from. never k (omega (arith, from))) in
    rw rest refl
