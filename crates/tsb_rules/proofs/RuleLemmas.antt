-- What the rules' tests say where they are passed.
use Rattle.std.proofs.Common.{zero, suc, ◌≡◌, ◌≢◌, ℕ, ◌+◌, ◌-◌, ◌<◌, ◌≤◌, ◌==◌, nat_le, Bool, true, false, not, ◌&&◌, ◌||◌, List, [], ◌∷◌, length, get_or, drop, Option, Some, None, refl, arith, sym, ◌∙◌, ap, inl, inr}
use Rattle.std.specs.List.{list_all, list_any}
use Rattle.std.proofs.lemmas.Bool.{and_parts, cases_eq, ne_eqb}
use Rattle.std.proofs.lemmas.Bool.Decides.{nat_tests}
use Rattle.tsb_rules.specs.declared.rules.Rule.{Rule}
use Rattle.tsb_types.specs.Lists.{run_from}
use Rattle.tsb_types.specs.Sets.{names}
use Rattle.tsb_rules.specs.SequenceRules.{is_zeros, zeros_last}
use Rattle.tsb_plan.proofs.RunStepLemmas.{run-first, run-none}
use Rattle.tsb_types.proofs.RunLemmas.{all-run_from}
use Rattle.tsb_types.proofs.SetLemmas.{names-zero}
use Rattle.tsb_rules.specs.Rules.{unless, or_rule}

-- a test that holds under a condition, where the condition holds
pub under : (a b : Bool) → (not a || b) ≡ true → a ≡ true → b ≡ true
under true b e on = e
under false b e on = cc

pub unless-met : (b : Bool) (r : Rule) (next : Option Rule) → unless b r next ≡ None → (b ≡ true) × (next ≡ None)
unless-met true r next e = (refl, e)
unless-met false r next e = cc

pub or_rule-none : (a b : Option Rule) → or_rule a b ≡ None → (a ≡ None) × (b ≡ None)
or_rule-none None b e = (refl, e)
or_rule-none (Some r) b e = cc

-- a test that each number of a run passes is passed by one of them
pub at-run_from : (test : ℕ → Bool) (a n k : ℕ) → list_all test (run_from a n) ≡ true → a ≤ k → k < a + n → test k ≡ true
unfolding run_from
at-run_from test a zero k e from below = absurd (omega arith)
at-run_from test a (suc n) k e from below =
    let parts : (test a ≡ true) × (list_all test (run_from (a + 1) n) ≡ true) = and_parts (test a) _ e in
    elim (cases_eq a k) [
      | inl same ↦ ap test (sym same) ∙ parts.0
      | inr other ↦ at-run_from test (a + 1) n k parts.1 (omega arith) (omega arith)
    ]

-- one of a run that passes a test
pub record Passes (test : ℕ → Bool) (a n : ℕ) : Type 0 where
  pub one : ℕ
  pub from : a ≤ one
  pub below : one < a + n
  pub passes : test one ≡ true

pub some-run_from : (test : ℕ → Bool) (a n : ℕ) → list_any test (run_from a n) ≡ true → Passes test a n
unfolding run_from
some-run_from test a zero e = cc
some-run_from test a (suc n) e = go (test a) refl e (λ (f : list_any test (run_from (a + 1) n) ≡ true). some-run_from test (a + 1) n f)
  where
    go : (b : Bool) → test a ≡ b → (b || list_any test (run_from (a + 1) n)) ≡ true → (list_any test (run_from (a + 1) n) ≡ true → Passes test (a + 1) n) → Passes test a (suc n)
    go true here e later = record { one = a; from = omega arith; below = omega arith; passes = here }
    go false here e later =
        let rest : Passes test (a + 1) n = later e in
        let from : a + 1 ≤ rest.one = rest.from in
        let below : rest.one < a + 1 + n = rest.below in
        record { one = rest.one; from = omega arith; below = omega arith; passes = rest.passes }

-- a test that each of a list passes is passed by each that is among it
pub at-among : (test : ℕ → Bool) (p : ℕ) (ps : List ℕ) → list_all test ps ≡ true → list_any (λ q. q == p) ps ≡ true → test p ≡ true
at-among test p [] all some = cc
at-among test p (q ∷ qs) all some =
    let parts : (test q ≡ true) × (list_all test qs ≡ true) = and_parts (test q) _ all in
    go parts.0 (q == p) refl some (λ (f : list_any (λ x. x == p) qs ≡ true). at-among test p qs parts.1 f)
  where
    go : test q ≡ true → (b : Bool) → (q == p) ≡ b → (b || list_any (λ x. x == p) qs) ≡ true → (list_any (λ x. x == p) qs ≡ true → test p ≡ true) → test p ≡ true
    go at true here e later = let same : q ≡ p = grind (arith, nat_tests, here) in ap test (sym same) ∙ at
    go at false here e later = later e

-- a test of those that a list names is passed where it names none
pub named_none : (test : ℕ → Bool) (n : ℕ) → list_all (λ q. not (names 0 q) || test q) (run_from 1 n) ≡ true
named_none test n = all-run_from (λ q. not (names 0 q) || test q) 1 n (λ k from below. rw (names-zero k) refl)

or-true : (b : Bool) → (b || true) ≡ true
or-true true = refl
or-true false = refl

-- no number is below 0
pub none-below : (f : ℕ → ℕ) (ps : List ℕ) → list_all (λ q. q == 0 || nat_le 0 (f q)) ps ≡ true
none-below f [] = refl
none-below f (q ∷ qs) =
    let low : nat_le 0 (f q) ≡ true = grind (arith, nat_tests) in
    rw (low, or-true (q == 0)) (none-below f qs)

-- where there are only zeros, there are only zeros after each
zeros-then : (ps : List ℕ) → (is_zeros ps && zeros_last ps) ≡ is_zeros ps
zeros-then [] = refl
zeros-then (q ∷ qs) = join (q == 0) (is_zeros qs) (zeros_last qs) (zeros-then qs)
  where
    join : (b z l : Bool) → (z && l) ≡ z → ((b && z) && ((not b || z) && l)) ≡ (b && z)
    join true true l e = e
    join true false l e = refl
    join false z l e = refl

-- from a zero on, zeros stand last where only zeros come after it
pub zeros-at : (ps : List ℕ) (k : ℕ) → k < length ps → get_or ps k 0 ≡ 0 → zeros_last (drop k ps) ≡ is_zeros (drop (k + 1) ps)
zeros-at [] k below none = absurd (omega arith)
zeros-at (p ∷ ps) zero below none = rw none (zeros-then ps)
zeros-at (p ∷ ps) (suc k) below none =
    let later : suc k + 1 ≡ suc (k + 1) = omega arith in
    rw later (zeros-at ps k (omega (arith, below)) none)

pub or-on : (a b : Bool) → b ≡ true → (a || b) ≡ true
or-on a b e = ap (λ (t : Bool). a || t) e ∙ or-true a

-- a test of a number that is used, where it is 0 and where it is not
pub unless-used : (n : ℕ) (b : Bool) → n ≡ 0 → (n == 0 || b) ≡ true
unless-used n b e = ap (λ (m : ℕ). m == 0 || b) e

pub where-used : (n : ℕ) (b : Bool) → n ≢ 0 → (n == 0 || b) ≡ b
where-used n b e = ap (λ (t : Bool). t || b) (ne_eqb n 0 e)

-- a run that is tested number by number: what a passed test leaves, a failed one, and the end
pub all-on : (f : ℕ → Bool) (a b : ℕ) → a ≤ b → f a ≡ true → list_all f (run_from (a + 1) (b + 1 - (a + 1))) ≡ list_all f (run_from a (b + 1 - a))
all-on f a b below on =
    sym (ap (λ (ks : List ℕ). list_all f ks) (run-first a b below) ∙ ap (λ (t : Bool). t && list_all f (run_from (a + 1) (b + 1 - (a + 1)))) on)

pub all-off : (f : ℕ → Bool) (a b : ℕ) → a ≤ b → f a ≡ false → list_all f (run_from a (b + 1 - a)) ≡ false
all-off f a b below off =
    ap (λ (ks : List ℕ). list_all f ks) (run-first a b below) ∙ ap (λ (t : Bool). t && list_all f (run_from (a + 1) (b + 1 - (a + 1)))) off

pub all-end : (f : ℕ → Bool) (a b : ℕ) → b < a → list_all f (run_from a (b + 1 - a)) ≡ true
all-end f a b above = ap (λ (ks : List ℕ). list_all f ks) (run-none a b above)
