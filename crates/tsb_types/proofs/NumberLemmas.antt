-- The numbers of a set, the least first.
use Rattle.std.proofs.Common.{◌≡◌, ◌≢◌, ◌∙◌, ℕ, ◌+◌, ◌<◌, ◌≤◌, Bool, true, false, zero, suc, List, [], ◌∷◌, length, filter, if◌then◌else◌, refl, sym, ap, arith, inl, inr}
use Rattle.std.proofs.lemmas.Bool.{cases_eq}
use Rattle.std.proofs.lemmas.List.Sums.{length-filter, count_by-le-length}
use Rattle.tsb_types.specs.Lists.{run_from}
use Rattle.tsb_types.proofs.RunLemmas.{length-run_from}
use Rattle.tsb_types.specs.Events.{numbers_with, detectors_with}
use Rattle.tsb_types.specs.declared.limits.TheConstants.{VEHICLE_DETECTORS}

-- two tests that agree on a run pass the same of it
pub filter-same : (f g : ℕ → Bool) (a n : ℕ) → ((k : ℕ) → a ≤ k → f k ≡ g k) → filter f (run_from a n) ≡ filter g (run_from a n)
unfolding run_from
filter-same f g a zero same = refl
filter-same f g a (suc n) same =
    rw (same a (omega arith)) (ap (λ (ks : List ℕ). if g a then a ∷ ks else ks) (filter-same f g (a + 1) n (λ k from. same k (omega (arith, from)))))

-- none of a run passes
pub filter-none : (f : ℕ → Bool) (a n : ℕ) → ((k : ℕ) → a ≤ k → k < a + n → f k ≡ false) → filter f (run_from a n) ≡ []
unfolding run_from
filter-none f a zero none = refl
filter-none f a (suc n) none =
    rw (none a (omega arith) (omega arith)) (filter-none f (a + 1) n (λ k from below. none k (omega (arith, from)) (omega (arith, below))))

-- the least comes first, and then those without it
pub filter-least : (f g : ℕ → Bool) (a n least : ℕ) → a ≤ least → least < a + n → f least ≡ true → g least ≡ false →
    ((k : ℕ) → k < least → f k ≡ false) → ((k : ℕ) → k ≢ least → g k ≡ f k) →
    filter f (run_from a n) ≡ least ∷ filter g (run_from a n)
unfolding run_from
filter-least f g a zero least from within had taken below others = absurd (omega (arith, from, within))
filter-least f g a (suc n) least from within had taken below others =
    elim (cases_eq a least) [
      | inl same ↦
          rw (ap f same ∙ had, ap g same ∙ taken)
          (ap (λ (k : ℕ). k ∷ filter f (run_from (a + 1) n)) same
          ∙ ap (λ (ks : List ℕ). least ∷ ks) (filter-same f g (a + 1) n (λ k above. sym (others k (omega (arith, above, same))))))
      | inr other ↦
          let first : f a ≡ false = below a (omega (arith, from, other)) in
          rw (first, others a other ∙ first) (filter-least f g (a + 1) n least (omega (arith, from, other)) (omega (arith, within)) had taken below others)
    ]

few : (f : ℕ → Bool) (n : ℕ) → length (filter f (run_from 1 n)) ≤ n
few f n =
    let e : length (filter f (run_from 1 n)) ≤ length (run_from 1 n) = rw (length-filter f (run_from 1 n)) (count_by-le-length f (run_from 1 n)) in
    let s : length (run_from 1 n) ≡ n = length-run_from 1 n in
    omega (arith, e, s)

pub few-numbers : (f : ℕ → Bool) → length (numbers_with f) ≤ 16
few-numbers f = few f 16

pub few-detectors : (f : ℕ → Bool) → length (detectors_with f) ≤ VEHICLE_DETECTORS
few-detectors f = few f VEHICLE_DETECTORS

-- the least of a set comes first, and then those of the set without it
pub numbers-least : (s t : ℕ → Bool) (n : ℕ) → 1 ≤ n → n ≤ 16 → s n ≡ true → t n ≡ false → ((k : ℕ) → k < n → s k ≡ false) →
    ((k : ℕ) → k ≢ n → t k ≡ s k) → numbers_with s ≡ n ∷ numbers_with t
numbers-least s t n from within had taken below others = filter-least s t 1 16 n from (omega (arith, within)) had taken below others

pub detectors-least : (s t : ℕ → Bool) (n : ℕ) → 1 ≤ n → n ≤ VEHICLE_DETECTORS → s n ≡ true → t n ≡ false → ((k : ℕ) → k < n → s k ≡ false) →
    ((k : ℕ) → k ≢ n → t k ≡ s k) → detectors_with s ≡ n ∷ detectors_with t
detectors-least s t n from within had taken below others =
    filter-least s t 1 VEHICLE_DETECTORS n from (omega (arith, within)) had taken below others
