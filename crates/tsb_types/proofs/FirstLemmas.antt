-- The first of a list that passes a test.
use Rattle.std.proofs.Common.{zero, suc, ◌≡◌, ℕ, ◌+◌, ◌<◌, ◌≤◌, Bool, true, false, if◌then◌else◌, ◌||◌, List, [], ◌∷◌, Some, None, is_some, refl, sym, ◌∙◌, ap, arith, inl, inr}
use Rattle.std.specs.List.{list_any}
use Rattle.std.proofs.Math.Path.{fun_ext}
use Rattle.std.proofs.lemmas.Bool.{cases_eq}
use Rattle.tsb_types.specs.Lists.{first, run_from}

-- there is none where none passes
pub first-none : (test : ℕ → Bool) (ps : List ℕ) → ((p : ℕ) → test p ≡ false) → first test ps ≡ None
first-none test [] never = refl
first-none test (p ∷ ps) never = rw (never p) (first-none test ps never)

-- it passes
pub first-passes : (test : ℕ → Bool) (ps : List ℕ) (p : ℕ) → first test ps ≡ Some p → test p ≡ true
first-passes test [] p e = cc
first-passes test (q ∷ qs) p e = go (test q) refl e (λ (f : first test qs ≡ Some p). first-passes test qs p f)
  where
    go : (b : Bool) → test q ≡ b → (if b then Some q else first test qs) ≡ Some p → (first test qs ≡ Some p → test p ≡ true) → test p ≡ true
    go true here f later = let same : q ≡ p = cc in ap test (sym same) ∙ here
    go false here f later = later f

-- two tests that say the same find the same
pub first-same : (f g : ℕ → Bool) (ps : List ℕ) → ((p : ℕ) → f p ≡ g p) → first f ps ≡ first g ps
first-same f g ps same = ap (λ (test : ℕ → Bool). first test ps) (fun_ext same)

-- there is one exactly where some passes
pub first-any : (test : ℕ → Bool) (ps : List ℕ) → is_some (first test ps) ≡ list_any test ps
first-any test [] = refl
first-any test (p ∷ ps) = go (test p) (first-any test ps)
  where
    go : (b : Bool) → is_some (first test ps) ≡ list_any test ps → is_some (if b then Some p else first test ps) ≡ (b || list_any test ps)
    go true later = refl
    go false later = later

-- ## The first of a run of numbers

-- it is one of the run
pub first-within : (test : ℕ → Bool) (a n p : ℕ) → first test (run_from a n) ≡ Some p → (a ≤ p) × (p < a + n)
unfolding run_from
first-within test a zero p e = absurd (cc)
first-within test a (suc n) p e = go (test a) e (λ (f : first test (run_from (a + 1) n) ≡ Some p). first-within test (a + 1) n p f)
  where
    go : (b : Bool) → (if b then Some a else first test (run_from (a + 1) n)) ≡ Some p →
        (first test (run_from (a + 1) n) ≡ Some p → (a + 1 ≤ p) × (p < a + 1 + n)) → (a ≤ p) × (p < a + suc n)
    go true f later = let same : a ≡ p = cc in (omega arith, omega arith)
    go false f later = let there : (a + 1 ≤ p) × (p < a + 1 + n) = later f in (omega (arith, there.0), omega (arith, there.1))

-- the least that passes is found
pub first-run_from : (test : ℕ → Bool) (a n p : ℕ) → a ≤ p → p < a + n → test p ≡ true → ((q : ℕ) → q < p → test q ≡ false) →
    first test (run_from a n) ≡ Some p
unfolding run_from
first-run_from test a zero p from within had least = absurd (omega (arith, from, within))
first-run_from test a (suc n) p from within had least =
    elim (cases_eq a p) [
      | inl same ↦ rw (ap test same ∙ had) (ap Some same)
      | inr other ↦ rw (least a (omega (arith, from, other))) (first-run_from test (a + 1) n p (omega (arith, from, other)) (omega (arith, within)) had least)
    ]
