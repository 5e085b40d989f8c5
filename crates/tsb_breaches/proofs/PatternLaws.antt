-- Rules K17 to K19 and K23 are met exactly where none of the ways to break them is anywhere; K18 and K19 where K17 is
-- met.
use Rattle.std.proofs.Common.{◌≡◌, ◌∙◌, ℕ, ◌<◌, ◌≤◌, ◌==◌, nat_le, nat_lt, Bool, true, false, not, ◌&&◌, ◌||◌, if◌then◌else◌, Option, Some, None, refl, ap}
use Rattle.std.proofs.Math.Bool.{not-not}
use Rattle.std.specs.List.{list_all}
use Rattle.std.proofs.lemmas.Bool.{and_parts}
use Rattle.tsb_plan.specs.declared.object.Object.{Object}
use Rattle.tsb_plan.specs.Parts.{is_used, cycle, offset, permissive_time, split_of, sequence_of, split_time, is_omitted}
use Rattle.tsb_plan.specs.Plan.{Plan, is_enabled}
use Rattle.tsb_rules.specs.PatternRules.{fills, holds_phase, holds_phases, is_whole, names_split, patterns_are_whole, permissive_times_end, rings_agree, some_and, splits_fill_cycles, splits_hold_phases}
use Rattle.tsb_rules.specs.SequenceRules.{is_blank}
use Rattle.tsb_rules.proofs.RuleLemmas.{under}
use Rattle.tsb_types.specs.Lists.{run_from}
use Rattle.tsb_breaches.specs.declared.fault.RuleFault.TheVariants.{K17Offset, K17Split, K17Sequence, K17Blank, K18, K19Rings, K19Cycle, K23}
use Rattle.tsb_breaches.specs.Breaches.{of_split, of_table}
use Rattle.tsb_breaches.specs.Laws.{of_values}
use Rattle.tsb_breaches.specs.Patterns.{has_blank_sequence, has_late_offset, has_no_sequence, has_no_split, has_two_sums, is_too_short, least_split, permits_always, sides_time}
use Rattle.tsb_breaches.proofs.AllLemmas.{all-same, and-both, both-are, not-at-most, not-below}
use Rattle.tsb_breaches.proofs.NoneLemmas.{none_at, none_up_to, none-pattern, none-pattern_phase, none-pattern_side}
use Rattle.tsb_breaches.proofs.PhaseLaws.{one-under}
use Rattle.tsb_breaches.proofs.PreemptLaws.{at-16}
use Rattle.tsb_breaches.proofs.SequenceLaws.{same-run}

-- ## K17

whole : (u l s : Bool) (test : ℕ → Bool) (blank : ℕ → Bool) (o : Option ℕ) (c : Bool) → not l ≡ c →
    (not (u && l) && (not (u && not s) && (not (u && not (some_and test o)) && not (u && some_and (λ n. test n && blank n) o))))
    ≡ (not u || (c && (s && some_and (λ n. test n && not (blank n)) o)))
whole false l s test blank o c is = refl
whole true l s test blank o c is = and-both is (and-both (not-not s) (names o))
  where
    split : (t b : Bool) → (not (not t) && not (t && b)) ≡ (t && not b)
    split true b = refl
    split false b = refl

    names : (o : Option ℕ) → (not (not (some_and test o)) && not (some_and (λ n. test n && blank n) o)) ≡ some_and (λ n. test n && not (blank n)) o
    names None = refl
    names (Some n) = split (test n) (blank n)

pub met-17 : (v : Object → ℕ → ℕ) →
    (none_at (of_values v) K17Offset && (none_at (of_values v) K17Split && (none_at (of_values v) K17Sequence && none_at (of_values v) K17Blank))) ≡ patterns_are_whole (of_values v)
met-17 v =
    let plan : Plan = of_values v in
    let a : ℕ → Bool = λ n. not (has_late_offset plan n) in
    let b : ℕ → Bool = λ n. not (has_no_split plan n) in
    let c : ℕ → Bool = λ n. not (has_no_sequence plan n) in
    let d : ℕ → Bool = λ n. not (has_blank_sequence plan n) in
    let all : (ℕ → Bool) → Bool = λ f. list_all f (run_from 1 16) in
    and-both (none-pattern plan K17Offset) (and-both (none-pattern plan K17Split) (and-both (none-pattern plan K17Sequence) (none-pattern plan K17Blank)))
    ∙ ap (λ x. all a && (all b && x)) (both-are c d (λ n. c n && d n) (λ n. refl) (run_from 1 16))
    ∙ ap (λ x. all a && x) (both-are b (λ n. c n && d n) (λ n. b n && (c n && d n)) (λ n. refl) (run_from 1 16))
    ∙ both-are a (λ n. b n && (c n && d n)) (λ n. not (is_used plan n) || is_whole plan n)
    (λ n. whole (is_used plan n) (nat_le (cycle plan n) (offset plan n)) (names_split plan n) (λ s. nat_le s 4) (is_blank plan) (sequence_of plan n) (nat_lt (offset plan n) (cycle plan n))
    (not-at-most (offset plan n) (cycle plan n))) (run_from 1 16)

-- ## Of a pattern that is whole

-- there is a number
pub record IsNamed (o : Option ℕ) : Type 0 where
  pub number : ℕ
  pub is : o ≡ Some number

pub named-by : (test : ℕ → Bool) (o : Option ℕ) → some_and test o ≡ true → IsNamed o
named-by test None e = cc
named-by test (Some n) e = record { number = n; is = refl }

pub names-table : (plan : Plan) → patterns_are_whole plan ≡ true → (n : ℕ) → 1 ≤ n → n < 17 → is_used plan n ≡ true → IsNamed (split_of plan n)
names-table plan met n from to used =
    let parts = and_parts (nat_lt (offset plan n) (cycle plan n)) _ (under (is_used plan n) (is_whole plan n) (at-16 (λ x. not (is_used plan x) || is_whole plan x) met n from to) used) in
    let both = and_parts (names_split plan n) _ parts.1 in
    named-by (λ t. nat_le t 8) (split_of plan n) both.0

pub names-listing : (plan : Plan) → patterns_are_whole plan ≡ true → (n : ℕ) → 1 ≤ n → n < 17 → is_used plan n ≡ true → IsNamed (sequence_of plan n)
names-listing plan met n from to used =
    let parts = and_parts (nat_lt (offset plan n) (cycle plan n)) _ (under (is_used plan n) (is_whole plan n) (at-16 (λ x. not (is_used plan x) || is_whole plan x) met n from to) used) in
    let both = and_parts (names_split plan n) _ parts.1 in
    named-by (λ s. nat_le s 4 && not (is_blank plan s)) (sequence_of plan n) both.1

-- ## K18

none-false : none_up_to 16 (λ p. false) ≡ true
unfolding run_from
none-false = refl

none-false-4 : none_up_to 4 (λ p. false) ≡ true
unfolding run_from
none-false-4 = refl

short : (e o : Bool) (a b : ℕ) → not (e && (not o && nat_lt a b)) ≡ (not e || (o || nat_le b a))
short false o a b = refl
short true true a b = refl
short true false a b = not-below a b

holds-at : (v : Object → ℕ → ℕ) (u : Bool) (o : Option ℕ) → (u ≡ true → IsNamed o) →
    none_up_to 16 (λ p. some_and (of_split (of_values v) K18 p) (if u then o else None)) ≡ (not u || some_and (holds_phases (of_values v)) o)
holds-at v false o named = none-false
holds-at v true None named = let n : IsNamed None = named refl in absurd (gone n.number n.is)
  where
    gone : (m : ℕ) → None ≡ Some m → ⊥
    gone m e = cc
holds-at v true (Some t) named =
    let plan : Plan = of_values v in
    all-same (λ p. not (is_too_short plan t p)) (λ p. not (is_enabled plan p) || holds_phase plan t p)
    (λ p. short (is_enabled plan p) (is_omitted plan t p) (split_time plan t p) (least_split plan p)) (run_from 1 16)

pub met-18 : (v : Object → ℕ → ℕ) → patterns_are_whole (of_values v) ≡ true → none_at (of_values v) K18 ≡ splits_hold_phases (of_values v)
met-18 v met =
    let plan : Plan = of_values v in
    none-pattern_phase plan K18
    ∙ same-run (λ n. none_up_to 16 (λ p. some_and (of_split plan K18 p) (if is_used plan n then split_of plan n else None)))
    (λ n. not (is_used plan n) || some_and (holds_phases plan) (split_of plan n)) 1 16
    (λ n from to. holds-at v (is_used plan n) (split_of plan n) (names-table plan met n from to))

-- ## K19

fills-at : (v : Object → ℕ → ℕ) (n : ℕ) (u : Bool) (o : Option ℕ) → (u ≡ true → IsNamed o) →
    (none_up_to 4 (λ d. some_and (λ t. has_two_sums (of_values v) t d) (if u then o else None)) && not (some_and (of_table (of_values v) K19Cycle n) (if u then o else None)))
    ≡ (not u || some_and (fills (of_values v) n) o)
fills-at v n false o named = ap (λ b. b && true) none-false-4
fills-at v n true None named = let m : IsNamed None = named refl in absurd (gone m.number m.is)
  where
    gone : (m : ℕ) → None ≡ Some m → ⊥
    gone m e = cc
fills-at v n true (Some t) named =
    let plan : Plan = of_values v in
    and-both (all-same (λ d. not (has_two_sums plan t d)) (rings_agree plan t) (λ d. not-not (rings_agree plan t d)) (run_from 1 4)) (not-not (sides_time plan t == cycle plan n))

pub met-19 : (v : Object → ℕ → ℕ) → patterns_are_whole (of_values v) ≡ true → (none_at (of_values v) K19Rings && none_at (of_values v) K19Cycle) ≡ splits_fill_cycles (of_values v)
met-19 v met =
    let plan : Plan = of_values v in
    and-both (none-pattern_side plan K19Rings) (none-pattern plan K19Cycle)
    ∙ both-are (λ n. none_up_to 4 (λ d. some_and (λ t. has_two_sums plan t d) (if is_used plan n then split_of plan n else None)))
    (λ n. not (some_and (of_table plan K19Cycle n) (if is_used plan n then split_of plan n else None)))
    (λ n. none_up_to 4 (λ d. some_and (λ t. has_two_sums plan t d) (if is_used plan n then split_of plan n else None)) && not (some_and (of_table plan K19Cycle n) (if is_used plan n then split_of plan n else None)))
    (λ n. refl) (run_from 1 16)
    ∙ same-run (λ n. none_up_to 4 (λ d. some_and (λ t. has_two_sums plan t d) (if is_used plan n then split_of plan n else None)) && not (some_and (of_table plan K19Cycle n) (if is_used plan n then split_of plan n else None)))
    (λ n. not (is_used plan n) || some_and (fills plan n) (split_of plan n)) 1 16
    (λ n from to. fills-at v n (is_used plan n) (split_of plan n) (names-table plan met n from to))

-- ## K23

pub met-23 : (v : Object → ℕ → ℕ) → none_at (of_values v) K23 ≡ permissive_times_end (of_values v)
met-23 v =
    let plan : Plan = of_values v in
    none-pattern plan K23
    ∙ all-same (λ n. not (permits_always plan n)) (λ n. not (is_used plan n) || nat_lt (permissive_time plan n) (cycle plan n))
    (λ n. one-under (is_used plan n) (nat_le (cycle plan n) (permissive_time plan n)) (nat_lt (permissive_time plan n) (cycle plan n))
    (not-at-most (permissive_time plan n) (cycle plan n))) (run_from 1 16)
