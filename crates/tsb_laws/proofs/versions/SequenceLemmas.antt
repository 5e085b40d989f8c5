-- Sequences of the wide plan meet the rules where those of the narrow one do.
use Rattle.std.proofs.Common.{◌≡◌, ℕ, ◌≤◌, ◌==◌, nat_le, Bool, false, not, ◌&&◌, ◌||◌, List, [], ◌∷◌, ◌++◌, refl, arith, ◌∙◌, ap, ap₂, inl, inr}
use Rattle.std.specs.List.{list_all, list_any}
use Rattle.std.proofs.Math.Path.{fun_ext}
use Rattle.std.proofs.lemmas.Bool.{cases_Bool}
use Rattle.std.proofs.lemmas.Bool.Decides.{nat_tests}
use Rattle.tsb_step.specs.tsb_types.Lists.{among}
use Rattle.tsb_step.specs.tsb_plan.Plan.{Plan, is_enabled, ring_of, side_of, sequence}
use Rattle.tsb_step.specs.tsb_rules.SequenceRules.{each_phase, lists_only, lists_each, lists_once, rises, is_zeros, zeros_last, is_ordered, sequence_is_ordered, is_blank, first_sequence_is_ordered, other_sequences_are_ordered}
use Rattle.tsb_laws.specs.Widened.{IsNarrow, widened}
use Rattle.tsb_laws.proofs.versions.ListLemmas.{IsSameOnNarrow, all-behind}
use Rattle.tsb_laws.proofs.versions.PlanLemmas.{all-same, narrow-bounds, beyond-narrow, not-enabled, zeros, sequence-same}

pub each_phase-same : (plan : Plan) (same test : ℕ → Bool) → IsNarrow plan → IsSameOnNarrow same test →
    each_phase (widened plan) same ≡ each_phase plan test
each_phase-same plan same test narrow within =
    all-same plan (λ p. not (is_enabled plan p) || same p) (λ p. not (is_enabled plan p) || test p) narrow
    (λ p in_it. rw (within p in_it) refl)
    (λ p out. rw (not-enabled plan p narrow (beyond-narrow p out)) refl)

-- ## What is listed

any-behind : (test : ℕ → Bool) (ps : List ℕ) → test 0 ≡ false → list_any test (ps ++ zeros) ≡ list_any test ps
any-behind test [] none = rw none refl
any-behind test (p ∷ ps) none = rw (any-behind test ps none) refl

among-same : (p : ℕ) (ps : List ℕ) → (p == 0) ≡ false → among p (ps ++ zeros) ≡ among p ps
among-same p ps other = any-behind (λ q. q == p) ps (grind (arith, nat_tests, other))

lists_only-same : (plan : Plan) (r : ℕ) (ps : List ℕ) → lists_only (widened plan) r (ps ++ zeros) ≡ lists_only plan r ps
lists_only-same plan r ps = all-behind (λ p. p == 0 || (is_enabled plan p && ring_of plan p == r)) ps zeros refl refl

lists_each-same : (plan : Plan) (r : ℕ) (ps : List ℕ) → IsNarrow plan → lists_each (widened plan) r (ps ++ zeros) ≡ lists_each plan r ps
lists_each-same plan r ps narrow =
    each_phase-same plan (λ p. not (ring_of plan p == r) || among p (ps ++ zeros)) (λ p. not (ring_of plan p == r) || among p ps) narrow
    (λ p in_it. rw (among-same p ps (some p (narrow-bounds p in_it).0)) refl)
  where
    some : (p : ℕ) → 1 ≤ p → (p == 0) ≡ false
    some p from = grind (arith, nat_tests)

lists_once-same : (ps : List ℕ) → lists_once (ps ++ zeros) ≡ lists_once ps
lists_once-same [] = refl
lists_once-same (p ∷ ps) =
    elim (cases_Bool (p == 0)) [
      | inl e ↦ rw e (lists_once-same ps)
      | inr e ↦ rw (e, among-same p ps e, lists_once-same ps) refl
    ]

rises-same : (plan : Plan) (ps : List ℕ) → rises (widened plan) (ps ++ zeros) ≡ rises plan ps
rises-same plan [] = refl
rises-same plan (p ∷ ps) =
    rw (rises-same plan ps, all-behind (λ q. q == 0 || nat_le (side_of plan p) (side_of plan q)) ps zeros refl refl) refl

is_zeros-same : (ps : List ℕ) → is_zeros (ps ++ zeros) ≡ is_zeros ps
is_zeros-same ps = all-behind (λ p. p == 0) ps zeros refl refl

zeros_last-same : (ps : List ℕ) → zeros_last (ps ++ zeros) ≡ zeros_last ps
zeros_last-same [] = refl
zeros_last-same (p ∷ ps) = rw (zeros_last-same ps, is_zeros-same ps) refl

is_ordered-same : (plan : Plan) (r : ℕ) (ps : List ℕ) → IsNarrow plan → is_ordered (widened plan) r (ps ++ zeros) ≡ is_ordered plan r ps
is_ordered-same plan r ps narrow =
    rw (lists_only-same plan r ps, lists_each-same plan r ps narrow, lists_once-same ps, rises-same plan ps, zeros_last-same ps) refl

-- ## The rules

ordered-same : (plan : Plan) (s : ℕ) → IsNarrow plan → sequence_is_ordered (widened plan) s ≡ sequence_is_ordered plan s
ordered-same plan s narrow =
    ap₂ (λ a b. a && b)
    (ap (is_ordered (widened plan) 1) (sequence-same plan s 1 narrow) ∙ is_ordered-same plan 1 (sequence plan s 1) narrow)
    (ap (is_ordered (widened plan) 2) (sequence-same plan s 2 narrow) ∙ is_ordered-same plan 2 (sequence plan s 2) narrow)

pub is_blank-same : (plan : Plan) (s : ℕ) → IsNarrow plan → is_blank (widened plan) s ≡ is_blank plan s
is_blank-same plan s narrow =
    ap₂ (λ a b. a && b)
    (ap is_zeros (sequence-same plan s 1 narrow) ∙ is_zeros-same (sequence plan s 1))
    (ap is_zeros (sequence-same plan s 2 narrow) ∙ is_zeros-same (sequence plan s 2))

pub first_sequence-same : (plan : Plan) → IsNarrow plan → first_sequence_is_ordered (widened plan) ≡ first_sequence_is_ordered plan
first_sequence-same plan narrow = ordered-same plan 1 narrow

pub other_sequences-same : (plan : Plan) → IsNarrow plan → other_sequences_are_ordered (widened plan) ≡ other_sequences_are_ordered plan
other_sequences-same plan narrow =
    ap (λ (test : ℕ → Bool). list_all test (2 ∷ 3 ∷ 4 ∷ []))
    (fun_ext (λ s. ap₂ (λ a b. a || b) (is_blank-same plan s narrow) (ordered-same plan s narrow)))
