-- Phases 1 to 8 among phases 1 to 16, and lists with zeros after them.
use Rattle.std.proofs.Common.{◌≡◌, ℕ, ◌+◌, ◌==◌, nat_le, nat_lt, Bool, true, false, ◌&&◌, List, [], ◌∷◌, ◌++◌, Option, Some, None, refl, arith, sym, ◌∙◌, ap, inl, inr, sum_by}
use Rattle.std.specs.List.{list_all, list_any}
use Rattle.std.proofs.lemmas.Bool.{eqb-true, cases_Bool, and_parts}
use Rattle.std.proofs.lemmas.List.Sums.{sum_by-cons}
use Rattle.tsb_step.specs.tsb_types.Lists.{first, run_from, after, up_to, later, not_later}

-- ## Phases 1 to 8 among phases 1 to 16

abbrev pub is_narrow : ℕ → Bool
is_narrow p = nat_le 1 p && nat_le p 8

-- a test that is the same on phases 1 to 8
abbrev pub IsSameOnNarrow : {A : Type 0} → (ℕ → A) → (ℕ → A) → Type 0
IsSameOnNarrow same test = (p : ℕ) → is_narrow p ≡ true → same p ≡ test p

abbrev pub is_beyond : ℕ → Bool
is_beyond p = nat_lt 8 p && nat_le p 16

-- and has one value on phases 9 to 16
abbrev pub IsBeyondNarrow : {A : Type 0} → (ℕ → A) → A → Type 0
IsBeyondNarrow same a = (p : ℕ) → is_beyond p ≡ true → same p ≡ a

pub first-phases : (same test : ℕ → Bool) → IsSameOnNarrow same test → IsBeyondNarrow same false →
    first same (run_from 1 16) ≡ first test (run_from 1 8)
unfolding run_from
first-phases same test within beyond =
    rw (
      within 1 refl,
      within 2 refl,
      within 3 refl,
      within 4 refl,
      within 5 refl,
      within 6 refl,
      within 7 refl,
      within 8 refl,
      beyond 9 refl,
      beyond 10 refl,
      beyond 11 refl,
      beyond 12 refl,
      beyond 13 refl,
      beyond 14 refl,
      beyond 15 refl,
      beyond 16 refl,
    ) refl

pub any-phases : (same test : ℕ → Bool) → IsSameOnNarrow same test → IsBeyondNarrow same false →
    list_any same (run_from 1 16) ≡ list_any test (run_from 1 8)
unfolding run_from
any-phases same test within beyond =
    rw (
      within 1 refl,
      within 2 refl,
      within 3 refl,
      within 4 refl,
      within 5 refl,
      within 6 refl,
      within 7 refl,
      within 8 refl,
      beyond 9 refl,
      beyond 10 refl,
      beyond 11 refl,
      beyond 12 refl,
      beyond 13 refl,
      beyond 14 refl,
      beyond 15 refl,
      beyond 16 refl,
    ) refl

pub all-phases : (same test : ℕ → Bool) → IsSameOnNarrow same test → IsBeyondNarrow same true →
    list_all same (run_from 1 16) ≡ list_all test (run_from 1 8)
unfolding run_from
all-phases same test within beyond =
    rw (
      within 1 refl,
      within 2 refl,
      within 3 refl,
      within 4 refl,
      within 5 refl,
      within 6 refl,
      within 7 refl,
      within 8 refl,
      beyond 9 refl,
      beyond 10 refl,
      beyond 11 refl,
      beyond 12 refl,
      beyond 13 refl,
      beyond 14 refl,
      beyond 15 refl,
      beyond 16 refl,
    ) refl

pub sum-phases : (same test : ℕ → ℕ) → IsSameOnNarrow same test → IsBeyondNarrow same 0 →
    sum_by same (run_from 1 16) ≡ sum_by test (run_from 1 8)
unfolding run_from
sum-phases same test within beyond =
    rw (
      within 1 refl,
      within 2 refl,
      within 3 refl,
      within 4 refl,
      within 5 refl,
      within 6 refl,
      within 7 refl,
      within 8 refl,
      beyond 9 refl,
      beyond 10 refl,
      beyond 11 refl,
      beyond 12 refl,
      beyond 13 refl,
      beyond 14 refl,
      beyond 15 refl,
      beyond 16 refl,
    ) (omega arith)

-- ## Zeros after a list

-- nothing but zeros
abbrev pub all_zero : List ℕ → Bool
all_zero zs = list_all (λ p. p == 0) zs

-- of the first of zeros and of the others
pub zero-cons : (z : ℕ) (zs : List ℕ) → all_zero (z ∷ zs) ≡ true → (z ≡ 0) × (all_zero zs ≡ true)
zero-cons z zs all = let both : ((z == 0) ≡ true) × (all_zero zs ≡ true) = and_parts (z == 0) (all_zero zs) all in (eqb-true z 0 both.0, both.1)

pub first-zeros : (test : ℕ → Bool) (zs : List ℕ) → test 0 ≡ false → all_zero zs ≡ true → first test zs ≡ None
first-zeros test [] none all = refl
first-zeros test (z ∷ zs) none all =
    let both : (z ≡ 0) × (all_zero zs ≡ true) = zero-cons z zs all in
    rw (both.0, none) (first-zeros test zs none both.1)

pub first-behind : (test : ℕ → Bool) (ps zs : List ℕ) → test 0 ≡ false → all_zero zs ≡ true → first test (ps ++ zs) ≡ first test ps
first-behind test [] zs none all = first-zeros test zs none all
first-behind test (p ∷ ps) zs none all = rw (first-behind test ps zs none all) refl

-- what comes after a number in zeros is zeros
pub after-zeros : (last : ℕ) (zs : List ℕ) → all_zero zs ≡ true → all_zero (after last zs) ≡ true
after-zeros last [] all = refl
after-zeros last (z ∷ zs) all =
    let both : (z ≡ 0) × (all_zero zs ≡ true) = zero-cons z zs all in
    elim (cases_Bool (z == last)) [
      | inl e ↦ rw e both.1
      | inr e ↦ rw e (after-zeros last zs both.1)
    ]

pub up_to-zeros : (last : ℕ) (zs : List ℕ) → all_zero zs ≡ true → all_zero (up_to last zs) ≡ true
up_to-zeros last [] all = refl
up_to-zeros last (z ∷ zs) all =
    let both : (z ≡ 0) × (all_zero zs ≡ true) = zero-cons z zs all in
    elim (cases_Bool (z == last)) [
      | inl e ↦ rw (e, both.0) refl
      | inr e ↦ rw (e, both.0, up_to-zeros last zs both.1) refl
    ]

pub first-after : (test : ℕ → Bool) (last : ℕ) (ps zs : List ℕ) → test 0 ≡ false → all_zero zs ≡ true →
    first test (after last (ps ++ zs)) ≡ first test (after last ps)
first-after test last [] zs none all = first-zeros test (after last zs) none (after-zeros last zs all)
first-after test last (p ∷ ps) zs none all =
    elim (cases_Bool (p == last)) [
      | inl e ↦ rw e (first-behind test ps zs none all)
      | inr e ↦ rw e (first-after test last ps zs none all)
    ]

pub first-up_to : (test : ℕ → Bool) (last : ℕ) (ps zs : List ℕ) → test 0 ≡ false → all_zero zs ≡ true →
    first test (up_to last (ps ++ zs)) ≡ first test (up_to last ps)
first-up_to test last [] zs none all = first-zeros test (up_to last zs) none (up_to-zeros last zs all)
first-up_to test last (p ∷ ps) zs none all =
    elim (cases_Bool (p == last)) [
      | inl e ↦ rw e refl
      | inr e ↦ rw (e, first-up_to test last ps zs none all) refl
    ]

pub first-later : (test : ℕ → Bool) (last : Option ℕ) (ps zs : List ℕ) → test 0 ≡ false → all_zero zs ≡ true →
    first test (later last (ps ++ zs)) ≡ first test (later last ps)
first-later test None ps zs none all = first-behind test ps zs none all
first-later test (Some p) ps zs none all = first-after test p ps zs none all

pub first-not_later : (test : ℕ → Bool) (last : Option ℕ) (ps zs : List ℕ) → test 0 ≡ false → all_zero zs ≡ true →
    first test (not_later last (ps ++ zs)) ≡ first test (not_later last ps)
first-not_later test None ps zs none all = refl
first-not_later test (Some p) ps zs none all = first-up_to test p ps zs none all

-- ## Sums

pub sum-zeros : (f : ℕ → ℕ) (zs : List ℕ) → f 0 ≡ 0 → all_zero zs ≡ true → sum_by f zs ≡ 0
sum-zeros f [] none all = refl
sum-zeros f (z ∷ zs) none all =
    let both : (z ≡ 0) × (all_zero zs ≡ true) = zero-cons z zs all in
    rw (sum_by-cons f z zs, both.0, none, sum-zeros f zs none both.1) refl

pub sum-up_to : (f : ℕ → ℕ) (last : ℕ) (ps zs : List ℕ) → f 0 ≡ 0 → all_zero zs ≡ true →
    sum_by f (up_to last (ps ++ zs)) ≡ sum_by f (up_to last ps)
sum-up_to f last [] zs none all = sum-zeros f (up_to last zs) none (up_to-zeros last zs all)
sum-up_to f last (p ∷ ps) zs none all =
    elim (cases_Bool (p == last)) [
      | inl e ↦ rw e refl
      | inr e ↦ rw e (sum_by-cons f p (up_to last (ps ++ zs)) ∙ ap (λ n. f p + n) (sum-up_to f last ps zs none all) ∙ sym (sum_by-cons f p (up_to last ps)))
    ]

-- ## All and any

pub all-behind : (test : ℕ → Bool) (ps zs : List ℕ) → test 0 ≡ true → all_zero zs ≡ true → list_all test (ps ++ zs) ≡ list_all test ps
all-behind test [] [] passes all = refl
all-behind test [] (z ∷ zs) passes all =
    let both : (z ≡ 0) × (all_zero zs ≡ true) = zero-cons z zs all in
    rw (both.0, passes) (all-behind test [] zs passes both.1)
all-behind test (p ∷ ps) zs passes all = rw (all-behind test ps zs passes all) refl
