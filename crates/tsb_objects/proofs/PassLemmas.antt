-- What some of a run passes.
use Rattle.std.proofs.Common.{zero, suc, ◌≡◌, ◌≢◌, ℕ, ◌+◌, ◌<◌, ◌≤◌, ◌||◌, Bool, true, false, if◌then◌else◌, Some, is_some, refl, arith, sym, ◌∙◌, inl, inr, subst}
use Rattle.std.proofs.lemmas.Bool.{cases_eq}
use Rattle.tsb_types.specs.Lists.{first, some_passes, run_from}

pub pass-one : (test : ℕ → Bool) (a n d : ℕ) → test d ≡ true → a ≤ d → d < a + n → some_passes test (run_from a n) ≡ true
unfolding run_from
pass-one test a zero d is from below = absurd (omega arith)
pass-one test a (suc n) d is from below =
    elim (cases_eq a d) [
      | inl same ↦ here same
      | inr other ↦ later (test a) (pass-one test (a + 1) n d is (omega arith) (omega arith))
    ]
  where
    here : a ≡ d → is_some (if test a then Some a else first test (run_from (a + 1) n)) ≡ true
    here same = rw (same, is) refl

    later : (b : Bool) → some_passes test (run_from (a + 1) n) ≡ true → is_some (if b then Some a else first test (run_from (a + 1) n)) ≡ true
    later true e = refl
    later false e = e

pub pass-none : (test : ℕ → Bool) (a n : ℕ) → ((d : ℕ) → a ≤ d → d < a + n → test d ≡ false) → some_passes test (run_from a n) ≡ false
unfolding run_from
pass-none test a zero never = refl
pass-none test a (suc n) never = rw (never a (omega arith) (omega arith)) (pass-none test (a + 1) n (λ d from below. never d (omega (arith, from)) (omega (arith, below))))

-- tests that pass the same of a run
pub pass-same : (test other : ℕ → Bool) (a n : ℕ) → ((d : ℕ) → a ≤ d → d < a + n → test d ≡ other d) → some_passes test (run_from a n) ≡ some_passes other (run_from a n)
unfolding run_from
pass-same test other a zero same = refl
pass-same test other a (suc n) same =
    rw (same a (omega arith) (omega arith))
    (go (other a) (pass-same test other (a + 1) n (λ d from below. same d (omega (arith, from)) (omega (arith, below)))))
  where
    go : (b : Bool) → some_passes test (run_from (a + 1) n) ≡ some_passes other (run_from (a + 1) n) →
        is_some (if b then Some a else first test (run_from (a + 1) n)) ≡ is_some (if b then Some a else first other (run_from (a + 1) n))
    go true e = refl
    go false e = e

pub or-false : (b : Bool) → b ≡ (b || false)
or-false true = refl
or-false false = refl

or-true : (b : Bool) → true ≡ (b || true)
or-true true = refl
or-true false = refl

-- a test that passes what another passes, and perhaps one number more
pub pass-more : (test other : ℕ → Bool) (a n d : ℕ) (more : Bool) → a ≤ d → d < a + n → other d ≡ (test d || more) →
    ((e : ℕ) → e ≢ d → other e ≡ test e) → some_passes other (run_from a n) ≡ (some_passes test (run_from a n) || more)
pass-more test other a n d true from below here there =
    pass-one other a n d (here ∙ sym (or-true (test d))) from below ∙ or-true (some_passes test (run_from a n))
pass-more test other a n d false from below here there =
    pass-same other test a n (λ e low high.
    elim (cases_eq e d) [
      | inl same ↦ subst (λ (m : ℕ). other m ≡ test m) (sym same) (here ∙ sym (or-false (test d)))
      | inr apart ↦ there e apart
    ])
    ∙ or-false (some_passes test (run_from a n))

-- a run in two parts
pub pass-parts : (test : ℕ → Bool) (a m n : ℕ) →
    some_passes test (run_from a (m + n)) ≡ (some_passes test (run_from a m) || some_passes test (run_from (a + m) n))
unfolding run_from
pass-parts test a zero n =
    let e : a + 0 ≡ a = omega arith in
    let f : 0 + n ≡ n = omega arith in
    rw (e, f) refl
pass-parts test a (suc m) n =
    let e : a + suc m ≡ a + 1 + m = omega arith in
    let f : suc m + n ≡ suc (m + n) = omega arith in
    rw (e, f) (go (test a) (pass-parts test (a + 1) m n))
  where
    go : (b : Bool) → some_passes test (run_from (a + 1) (m + n)) ≡ (some_passes test (run_from (a + 1) m) || some_passes test (run_from (a + 1 + m) n)) →
        is_some (if b then Some a else first test (run_from (a + 1) (m + n)))
        ≡ (is_some (if b then Some a else first test (run_from (a + 1) m)) || some_passes test (run_from (a + 1 + m) n))
    go true e = refl
    go false e = e

-- a run that begins b later
pub pass-later : (test : ℕ → Bool) (a b n : ℕ) → some_passes test (run_from (b + a) n) ≡ some_passes (λ k. test (b + k)) (run_from a n)
unfolding run_from
pass-later test a b zero = refl
pass-later test a b (suc n) =
    let e : b + a + 1 ≡ b + (a + 1) = omega arith in
    rw e (go (test (b + a)) (pass-later test (a + 1) b n))
  where
    go : (t : Bool) → some_passes test (run_from (b + (a + 1)) n) ≡ some_passes (λ k. test (b + k)) (run_from (a + 1) n) →
        is_some (if t then Some (b + a) else first test (run_from (b + (a + 1)) n))
        ≡ is_some (if t then Some a else first (λ k. test (b + k)) (run_from (a + 1) n))
    go true e = refl
    go false e = e
