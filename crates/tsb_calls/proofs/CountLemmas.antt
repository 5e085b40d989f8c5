-- Counts of the actuations, detector by detector.
use Rattle.std.proofs.Common.{zero, suc, ◌≡◌, ◌≢◌, ℕ, ◌+◌, ◌<◌, ◌≤◌, ◌&&◌, not, Bool, true, false, if◌then◌else◌, count_by, refl, arith, sym, ◌∙◌, ap, ap₂, inl, inr}
use Rattle.std.proofs.lemmas.Bool.{cases_eq}
use Rattle.std.proofs.lemmas.List.Sums.{sum_by-cons}
use Rattle.tsb_objects.specs.tsb_types.Lists.{run_from}
use Rattle.tsb_objects.specs.tsb_types.declared.limits.TheConstants.{VEHICLE_DETECTORS}
use Rattle.tsb_objects.specs.tsb_plan.PlanOf.{plan_of}
use Rattle.tsb_objects.specs.declared.checked.Checked.{Checked}
use Rattle.tsb_objects.specs.Checked.{checked_plan}
use Rattle.tsb_calls.specs.Layer.{counted_to}

-- a checked plan has all vehicle detectors
pub all-detectors : (plan : Checked) → (checked_plan plan).counts.vehicle_detectors ≡ VEHICLE_DETECTORS
unfolding checked_plan plan_of
all-detectors plan = refl

abbrev one : (ℕ → Bool) → ℕ → ℕ
one test d = if test d then 1 else 0

count-cons : (test : ℕ → Bool) (a n : ℕ) → count_by test (run_from a (suc n)) ≡ one test a + count_by test (run_from (a + 1) n)
unfolding run_from
count-cons test a n = sum_by-cons (one test) a (run_from (a + 1) n)

-- tests that pass the same of a run
pub count-same : (test other : ℕ → Bool) (a n : ℕ) → ((d : ℕ) → a ≤ d → d < a + n → test d ≡ other d) → count_by test (run_from a n) ≡ count_by other (run_from a n)
unfolding run_from
count-same test other a zero same = refl
count-same test other a (suc n) same =
    count-cons test a n
    ∙ ap₂ (λ (x y : ℕ). x + y) (ap (λ (b : Bool). if b then 1 else 0) (same a (omega arith) (omega arith))) (count-same test other (a + 1) n (λ d from below. same d (omega (arith, from)) (omega (arith, below))))
    ∙ sym (count-cons other a n)

pub count-none : (test : ℕ → Bool) (a n : ℕ) → ((d : ℕ) → test d ≡ false) → count_by test (run_from a n) ≡ 0
unfolding run_from
count-none test a zero none = refl
count-none test a (suc n) none =
    count-cons test a n
    ∙ ap₂ (λ (x y : ℕ). x + y) (ap (λ (b : Bool). if b then 1 else 0) (none a)) (count-none test (a + 1) n none)

-- a test that passes one more
pub count-more : (test more : ℕ → Bool) (k a n : ℕ) → a ≤ k → k < a + n → test k ≡ false → ((d : ℕ) → d ≢ k → more d ≡ test d) →
    count_by more (run_from a n) ≡ count_by test (run_from a n) + (if more k then 1 else 0)
count-more test more k a zero from below was others = absurd (omega (arith, from, below))
count-more test more k a (suc n) from below was others =
    elim (cases_eq a k) [
      | inl same ↦ here same
      | inr other ↦ later other (count-more test more k (a + 1) n (omega (arith, from, other)) (omega (arith, below)) was others)
    ]
  where
    here : a ≡ k → count_by more (run_from a (suc n)) ≡ count_by test (run_from a (suc n)) + (if more k then 1 else 0)
    here same =
        let head : one test a ≡ 0 = ap (λ (b : Bool). if b then 1 else 0) (ap test same ∙ was) in
        let first : one more a ≡ one more k = ap (one more) same in
        let tail : count_by more (run_from (a + 1) n) ≡ count_by test (run_from (a + 1) n) =
        count-same more test (a + 1) n (λ d low high. others d (λ e. absurd (omega (arith, low, e, same)))) in
        let e = count-cons more a n in
        let f = count-cons test a n in
        omega (arith, e, f, head, first, tail)

    later : a ≢ k → count_by more (run_from (a + 1) n) ≡ count_by test (run_from (a + 1) n) + (if more k then 1 else 0) → count_by more (run_from a (suc n)) ≡ count_by test (run_from a (suc n)) + (if more k then 1 else 0)
    later other tail =
        let head : one more a ≡ one test a = ap (λ (b : Bool). if b then 1 else 0) (others a other) in
        let e = count-cons more a n in
        let f = count-cons test a n in
        omega (arith, e, f, head, tail)

-- a count that grows twice
pub counted-twice : (green : Bool) (count more again : ℕ) → counted_to green (counted_to green count more) again ≡ counted_to green count (more + again)
counted-twice true count more again = refl
counted-twice false count more again = omega arith

pub counted-none : (green : Bool) (count : ℕ) → count ≤ 255 → count ≡ counted_to green count 0
counted-none true count small = refl
counted-none false count small = omega (arith, small)

pub counted-small : (green : Bool) (count more : ℕ) → count ≤ 255 → counted_to green count more ≤ 255
counted-small true count more small = small
counted-small false count more small = omega arith

and-never : (a b : Bool) → (a && (b && false)) ≡ false
and-never true true = refl
and-never true false = refl
and-never false b = refl

and-always : (a b : Bool) → (a && (b && true)) ≡ (a && b)
and-always true true = refl
and-always true false = refl
and-always false b = refl

and-not : (a b : Bool) → (a && (b && not b)) ≡ false
and-not true true = refl
and-not true false = refl
and-not false b = refl

and-whole : (a : Bool) → (a && (true && true)) ≡ a
and-whole true = refl
and-whole false = refl

-- those that pass and are taken out of a set, of which some are left
abbrev pub taken : (ℕ → Bool) → (ℕ → Bool) → (ℕ → Bool) → ℕ → Bool
taken test all left d = test d && (all d && not (left d))

pub count-taken : (n : ℕ) (test all left now : ℕ → Bool) (k : ℕ) → 1 ≤ k → k ≤ n → all k ≡ true → left k ≡ true → now k ≡ false →
    ((d : ℕ) → d ≢ k → now d ≡ left d) →
    count_by (taken test all left) (run_from 1 n) + (if test k then 1 else 0) ≡ count_by (taken test all now) (run_from 1 n)
count-taken n test all left now k from within had was gone others =
    let same : one (taken test all now) k ≡ one test k = ap (λ (b : Bool). if b then 1 else 0) last in
    let e = count-more (taken test all left) (taken test all now) k 1 n from (omega (arith, within)) before rest in
    omega (arith, e, same)
  where
    before : taken test all left k ≡ false
    before = rw was (and-never (test k) (all k))

    last : taken test all now k ≡ test k
    last = rw (gone, had) (and-whole (test k))

    rest : (d : ℕ) → d ≢ k → taken test all now d ≡ taken test all left d
    rest d other = ap (λ (b : Bool). test d && (all d && not b)) (others d other)

pub count-all : (n : ℕ) (test all left : ℕ → Bool) → ((d : ℕ) → left d ≡ false) →
    count_by (taken test all left) (run_from 1 n) ≡ count_by (λ d. test d && all d) (run_from 1 n)
count-all n test all left gone =
    count-same (taken test all left) (λ d. test d && all d) 1 n (λ d from below. rw (gone d) (and-always (test d) (all d)))

pub count-begun : (n : ℕ) (test all : ℕ → Bool) → count_by (taken test all all) (run_from 1 n) ≡ 0
count-begun n test all = count-none (taken test all all) 1 n (λ d. and-not (test d) (all d))
