-- Functions that agree on phases 1 to 16: clipped they are one, and over the phases of a plan they give the same.
use Rattle.std.proofs.Common.{zero, suc, ◌≡◌, ℕ, ◌+◌, ◌<◌, ◌≤◌, Bool, true, refl, arith, ap₂, sum_by, inl, inr}
use Rattle.std.proofs.Math.Path.{fun_ext}
use Rattle.std.proofs.lemmas.Bool.{cases_Bool}
use Rattle.std.proofs.lemmas.Bool.Decides.{nat_tests}
use Rattle.std.proofs.lemmas.List.Sums.{sum_by-cons}
use Rattle.std.specs.List.{list_all, list_any}
use Rattle.tsb_types.specs.Lists.{first, run_from}
use Rattle.tsb_types.specs.Sets.{is_phase}
use Rattle.tsb_types.specs.Clip.{Agree, clipped, within}

-- ## Phases 1 to 16

pub record IsAmong (p : ℕ) : Type 0 where
  pub from : 1 ≤ p
  pub to : p ≤ 16

pub among_16 : (p : ℕ) → is_phase p ≡ true → IsAmong p
among_16 p e = record { from = grind (arith, nat_tests, e); to = grind (arith, nat_tests, e) }

pub is_phase_from : (p : ℕ) → 1 ≤ p → p ≤ 16 → is_phase p ≡ true
is_phase_from p from to = grind (arith, nat_tests)

-- ## Clipped

-- a clipped function is as it was of phases 1 to 16
pub clipped-agrees : (f : ℕ → Bool) → Agree (clipped f) f
clipped-agrees f p from to = rw (is_phase_from p from to) refl

pub within-agrees : {A : Type 0} (other : A) (f : ℕ → A) → Agree (within other f) f
within-agrees other f p from to = rw (is_phase_from p from to) refl

pub clipped-same : (f g : ℕ → Bool) → Agree f g → clipped f ≡ clipped g
clipped-same f g same = fun_ext (λ p. at p)
  where
    at : (p : ℕ) → clipped f p ≡ clipped g p
    at p = elim (cases_Bool (is_phase p)) [
      | inl on ↦ (let here : f p ≡ g p = same p (among_16 p on).from (among_16 p on).to in rw here refl)
      | inr out ↦ rw out refl
    ]

pub within-same : {A : Type 0} (other : A) (f g : ℕ → A) → Agree f g → within other f ≡ within other g
within-same other f g same = fun_ext (λ p. at p)
  where
    at : (p : ℕ) → within other f p ≡ within other g p
    at p = elim (cases_Bool (is_phase p)) [
      | inl on ↦ (let here : f p ≡ g p = same p (among_16 p on).from (among_16 p on).to in rw here refl)
      | inr out ↦ rw out refl
    ]

-- ## Over all phases of a plan that has 16 at most

pub first-agree : (n : ℕ) (f g : ℕ → Bool) → n ≤ 16 → Agree f g → first f (run_from 1 n) ≡ first g (run_from 1 n)
unfolding run_from
first-agree n f g most same = go 1 n (λ p from to. same p from (omega arith))
  where
    go : (a n : ℕ) → ((p : ℕ) → a ≤ p → p < a + n → f p ≡ g p) → first f (run_from a n) ≡ first g (run_from a n)
    go a zero here = refl
    go a (suc n) here =
        let same_at : f a ≡ g a = here a (omega arith) (omega arith) in
        rw (same_at, go (a + 1) n (λ p from to. here p (omega arith) (omega arith))) refl

pub any-agree : (n : ℕ) (f g : ℕ → Bool) → n ≤ 16 → Agree f g → list_any f (run_from 1 n) ≡ list_any g (run_from 1 n)
unfolding run_from
any-agree n f g most same = go 1 n (λ p from to. same p from (omega arith))
  where
    go : (a n : ℕ) → ((p : ℕ) → a ≤ p → p < a + n → f p ≡ g p) → list_any f (run_from a n) ≡ list_any g (run_from a n)
    go a zero here = refl
    go a (suc n) here =
        let same_at : f a ≡ g a = here a (omega arith) (omega arith) in
        rw (same_at, go (a + 1) n (λ p from to. here p (omega arith) (omega arith))) refl

pub sum-agree : (n : ℕ) (f g : ℕ → ℕ) → n ≤ 16 → Agree f g → sum_by f (run_from 1 n) ≡ sum_by g (run_from 1 n)
unfolding run_from
sum-agree n f g most same = go 1 n (λ p from to. same p from (omega arith))
  where
    go : (a n : ℕ) → ((p : ℕ) → a ≤ p → p < a + n → f p ≡ g p) → sum_by f (run_from a n) ≡ sum_by g (run_from a n)
    go a zero here = refl
    go a (suc n) here =
        rw (sum_by-cons f a (run_from (a + 1) n), sum_by-cons g a (run_from (a + 1) n))
        (ap₂ (λ (x y : ℕ). x + y) (here a (omega arith) (omega arith)) (go (a + 1) n (λ p from to. here p (omega arith) (omega arith))))

pub all-agree : (n : ℕ) (f g : ℕ → Bool) → n ≤ 16 → Agree f g → list_all f (run_from 1 n) ≡ list_all g (run_from 1 n)
unfolding run_from
all-agree n f g most same = go 1 n (λ p from to. same p from (omega arith))
  where
    go : (a n : ℕ) → ((p : ℕ) → a ≤ p → p < a + n → f p ≡ g p) → list_all f (run_from a n) ≡ list_all g (run_from a n)
    go a zero here = refl
    go a (suc n) here =
        let same_at : f a ≡ g a = here a (omega arith) (omega arith) in
        rw (same_at, go (a + 1) n (λ p from to. here p (omega arith) (omega arith))) refl
