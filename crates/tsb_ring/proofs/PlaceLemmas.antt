-- The places of a sequence: in a plan that breaks no rule there are only zeros after a zero, so that who looks for a
-- phase stops there.
use Rattle.std.proofs.Common.{◌≡◌, ℕ, zero, suc, ◌<◌, ◌≤◌, ◌==◌, Bool, true, false, not, ◌||◌, List, [], ◌∷◌, length, get_or, take, drop, None, refl, ap, ◌∙◌, arith, inl, inr}
use Rattle.std.proofs.lemmas.Bool.{and_parts, cases_Bool, cases_eq, eq-eqb}
use Rattle.std.proofs.Math.Bool.{or-true}
use Rattle.tsb_objects.specs.tsb_rules.Rules.{first_broken}
use Rattle.tsb_objects.specs.tsb_rules.SequenceRules.{is_zeros, zeros_last, is_ordered, sequence_is_ordered, is_blank, lists_only, lists_each, lists_once, rises}
use Rattle.tsb_objects.proofs.tsb_rules.ConsistentLemmas.{MeetsRings, meets_rings}
use Rattle.tsb_objects.specs.tsb_plan.Plan.{Plan, sequence}
use Rattle.tsb_types.specs.Lists.{first}

-- ## Zeros

blank-zeros : (ps : List ℕ) → is_zeros ps ≡ true → zeros_last ps ≡ true
blank-zeros [] h = refl
blank-zeros (p ∷ ps) h =
    let rest = (and_parts (p == 0) (is_zeros ps) h).1 in
    rw (rest, blank-zeros ps rest, or-true (not (p == 0))) refl

zeros-first : (f : ℕ → Bool) → f 0 ≡ false → (ps : List ℕ) → is_zeros ps ≡ true → first f ps ≡ None
zeros-first f none_0 [] h = refl
zeros-first f none_0 (p ∷ ps) h =
    let parts = and_parts (p == 0) (is_zeros ps) h in
    let same : p ≡ 0 = omega (arith, eqb p parts.0) in
    rw (ap f same ∙ none_0) (zeros-first f none_0 ps parts.1)
  where
    eqb : (p : ℕ) → (p == 0) ≡ true → p ≡ 0
    eqb p e = grind (arith, e)

-- from a zero on there is no phase
pub zero-none : (f : ℕ → Bool) → f 0 ≡ false → (ps : List ℕ) (k : ℕ) → k < length ps → get_or ps k 0 ≡ 0 → zeros_last ps ≡ true → first f (drop k ps) ≡ None
zero-none f none_0 [] k below here h = absurd (omega (arith, below))
zero-none f none_0 (p ∷ ps) zero below here h =
    let parts = and_parts (not (p == 0) || is_zeros ps) (zeros_last ps) h in
    let on : (p == 0) ≡ true = eq-eqb p 0 here in
    rw (ap f here ∙ none_0) (zeros-first f none_0 ps (rw on at parts.0))
zero-none f none_0 (p ∷ ps) (suc k) below here h =
    zero-none f none_0 ps k (omega (arith, below)) here (and_parts (not (p == 0) || is_zeros ps) (zeros_last ps) h).1

-- parts of a list
pub zeros_drop : (k : ℕ) (ps : List ℕ) → zeros_last ps ≡ true → zeros_last (drop k ps) ≡ true
zeros_drop zero ps h = h
zeros_drop (suc k) [] h = refl
zeros_drop (suc k) (p ∷ ps) h = zeros_drop k ps (and_parts (not (p == 0) || is_zeros ps) (zeros_last ps) h).1

zeros-take : (k : ℕ) (ps : List ℕ) → is_zeros ps ≡ true → is_zeros (take k ps) ≡ true
zeros-take zero ps h = refl
zeros-take (suc k) [] h = refl
zeros-take (suc k) (p ∷ ps) h =
    let parts = and_parts (p == 0) (is_zeros ps) h in
    rw (parts.0, zeros-take k ps parts.1) refl

pub or_kept : (a b c : Bool) → (b ≡ true → c ≡ true) → (a || b) ≡ true → (a || c) ≡ true
or_kept true b c keep h = refl
or_kept false b c keep h = keep h

pub zeros_take : (k : ℕ) (ps : List ℕ) → zeros_last ps ≡ true → zeros_last (take k ps) ≡ true
zeros_take zero ps h = refl
zeros_take (suc k) [] h = refl
zeros_take (suc k) (p ∷ ps) h =
    let parts = and_parts (not (p == 0) || is_zeros ps) (zeros_last ps) h in
    rw (or_kept (not (p == 0)) (is_zeros ps) (is_zeros (take k ps)) (zeros-take k ps) parts.0, zeros_take k ps parts.1) refl

-- ## Sequences

ordered-zeros : (plan : Plan) (r : ℕ) (ps : List ℕ) → is_ordered plan r ps ≡ true → zeros_last ps ≡ true
ordered-zeros plan r ps h =
    let each = (and_parts (lists_only plan r ps) _ h).1 in
    let once = (and_parts (lists_each plan r ps) _ each).1 in
    let rise = (and_parts (lists_once ps) _ once).1 in
    (and_parts (rises plan ps) (zeros_last ps) rise).1

-- what a sequence that is blank or ordered has for a ring
of_both : (plan : Plan) (s r : ℕ) → 1 ≤ r → r ≤ 2 → (is_blank plan s || sequence_is_ordered plan s) ≡ true → zeros_last (sequence plan s r) ≡ true
of_both plan s r from to h =
    elim (cases_Bool (is_blank plan s)) [
      | inl blank ↦ (let parts = and_parts (is_zeros (sequence plan s 1)) (is_zeros (sequence plan s 2)) blank in
          ring (blank-zeros (sequence plan s 1) parts.0) (blank-zeros (sequence plan s 2) parts.1))
      | inr other ↦ (let parts = and_parts (is_ordered plan 1 (sequence plan s 1)) (is_ordered plan 2 (sequence plan s 2)) (rw other at h) in
          ring (ordered-zeros plan 1 (sequence plan s 1) parts.0) (ordered-zeros plan 2 (sequence plan s 2) parts.1))
    ]
  where
    ring : zeros_last (sequence plan s 1) ≡ true → zeros_last (sequence plan s 2) ≡ true → zeros_last (sequence plan s r) ≡ true
    ring one two =
        elim (cases_eq r 1) [
          | inl e ↦ ap (λ n. zeros_last (sequence plan s n)) e ∙ one
          | inr n ↦ (let e : r ≡ 2 = omega (arith, from, to, n) in ap (λ n. zeros_last (sequence plan s n)) e ∙ two)
        ]

pub sequence-zeros : (plan : Plan) → first_broken plan ≡ None → (s r : ℕ) → 1 ≤ s → s ≤ 4 → 1 ≤ r → r ≤ 2 → zeros_last (sequence plan s r) ≡ true
sequence-zeros plan none s r from to ring_from ring_to = of_both plan s r ring_from ring_to (go (meets_rings plan none))
  where
    go : MeetsRings plan → (is_blank plan s || sequence_is_ordered plan s) ≡ true
    go met =
        let test : ℕ → Bool = λ x. is_blank plan x || sequence_is_ordered plan x in
        let two = and_parts (test 2) _ met.k7 in
        let three = and_parts (test 3) _ two.1 in
        let four = and_parts (test 4) _ three.1 in
        elim (cases_eq s 1) [
          | inl e ↦ ap test e ∙ rw met.k6 (or-true (is_blank plan 1))
          | inr n1 ↦ elim (cases_eq s 2) [
            | inl e ↦ ap test e ∙ two.0
            | inr n2 ↦ elim (cases_eq s 3) [
              | inl e ↦ ap test e ∙ three.0
              | inr n3 ↦ (let e : s ≡ 4 = omega (arith, from, to, n1, n2, n3) in ap test e ∙ four.0)
            ]
          ]
        ]
