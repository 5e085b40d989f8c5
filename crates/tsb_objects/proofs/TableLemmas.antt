-- What tables of a plan are read from: values at numbers from 1 on.
use Rattle.std.proofs.Common.{◌≡◌, ℕ, zero, suc, ◌≢◌, ◌⊎◌, ◌+◌, ◌<◌, ◌≤◌, ◌==◌, max, nat_le, not, true, false, List, refl, None, arith, sym, subst, ◌∙◌, inl, inr}
use Rattle.std.proofs.lemmas.Bool.{cases_lt, eq-eqb}
use Rattle.std.proofs.lemmas.Bool.Decides.{nat_tests, eqb_tells, same_from_decides}
use Rattle.tsb_plan.specs.declared.object.Object.{Object}
use Rattle.tsb_plan.specs.declared.object.Object.TheVariants.{OverlapTrailGreen, OverlapType, PhaseConcurrency}
use Rattle.tsb_plan.specs.Objects.{AreInRange, indices, has_index, value_in}
use Rattle.tsb_plan.specs.Parts.{is_arrow, trails}
use Rattle.tsb_plan.specs.Plan.{is_concurrent}
use Rattle.tsb_plan.specs.PlanOf.{plan_in}
use Rattle.tsb_rules.specs.Consistent.{IsPhase}
use Rattle.tsb_rules.specs.Rules.{first_broken}
use Rattle.tsb_types.specs.Lists.{some_passes, run_from}
use Rattle.tsb_types.specs.Sets.{names}
use Rattle.tsb_types.proofs.SetLemmas.{names-zero, names-above}
use Rattle.tsb_rules.proofs.ConsistentLemmas.{together}
use Rattle.tsb_objects.proofs.PassLemmas.{pass-one}

-- after the last index an object has no value but 0
pub none-behind : (cells : List ℕ) (o : Object) (n wanted : ℕ) → 1 ≤ wanted → indices o < n → (value_in cells o n == wanted) ≡ false
none-behind cells o n wanted some behind =
    let outside : has_index o n ≡ false = grind (arith, nat_tests, behind) in
    rw outside (grind (arith, nat_tests, some))

pub no-value-behind : (cells : List ℕ) (o : Object) (n : ℕ) → indices o < n → nat_le 1 (value_in cells o n) ≡ false
no-value-behind cells o n behind =
    let outside : has_index o n ≡ false = grind (arith, nat_tests, behind) in
    rw outside (grind (arith, nat_tests))

-- a value over 0 is one that is not 0
pub is-some : (v : ℕ) → nat_le 1 v ≡ not (v == 0)
is-some zero = refl
is-some (suc k) =
    let least : nat_le 1 (suc k) ≡ true = grind (arith, nat_tests) in
    let some : (suc k == 0) ≡ false = grind (arith, nat_tests) in
    rw (least, some) refl

-- and after the last overlap none is an arrow, or trails
pub no-arrow-behind : (cells : List ℕ) (o : ℕ) → 16 < o → is_arrow (plan_in cells) o ≡ false
no-arrow-behind cells o behind =
    let none : (value_in cells OverlapType o == 2) ≡ false = none-behind cells OverlapType o 2 (omega arith) behind in
    rw none refl

pub no-trail-behind : (cells : List ℕ) (o : ℕ) → 16 < o → trails (plan_in cells) o ≡ false
no-trail-behind cells o behind =
    let none : not (value_in cells OverlapTrailGreen o == 0) ≡ false =
    sym (is-some (value_in cells OverlapTrailGreen o)) ∙ no-value-behind cells OverlapTrailGreen o behind in
    rw none refl

-- a list of phases names none that is no phase
named-outside : (list p : ℕ) → list ≤ 65535 → 16 < p → names list p ≡ false
named-outside list p fits behind = names-above 16 p list (omega arith) behind

-- in a plan that meets the rules a phase is named by the phases that it names
pub named-back : (cells : List ℕ) → AreInRange cells → first_broken (plan_in cells) ≡ None → (q p : ℕ) → 1 ≤ q → q ≤ 16 →
    is_concurrent (plan_in cells) q p ≡ is_concurrent (plan_in cells) p q
named-back cells ranged none q zero from within = sym (names-zero q)
named-back cells ranged none q (suc k) from within =
    elim (cases_lt k 16) [
      | inl below ↦
          let one : IsPhase (plan_in cells) (suc k) = record { from_one = omega arith; within = omega arith } in
          let other : IsPhase (plan_in cells) q = record { from_one = from; within = within } in
          same_from_decides (is_concurrent (plan_in cells) q (suc k)) (is_concurrent (plan_in cells) (suc k) q)
          ((λ named. (together (plan_in cells) none q (suc k) other one named).back), (λ named. (together (plan_in cells) none (suc k) q one other named).back))
          ((λ named. named), (λ named. named))
      | inr above ↦
          let outside : has_index PhaseConcurrency (suc k) ≡ false = grind (arith, nat_tests) in
          named-outside (value_in cells PhaseConcurrency q) (suc k) (ranged.each PhaseConcurrency q) (omega arith)
          ∙ sym (rw outside (names-zero q))
    ]

-- one phase more, whose time is no longer than the longest so far
pub one-longer : (f : ℕ → ℕ) (longest time n new : ℕ) → new ≡ max longest time → time ≡ f n → ((p : ℕ) → 1 ≤ p → p < n → f p ≤ longest) →
    (p : ℕ) → 1 ≤ p → p < n + 1 → f p ≤ new
one-longer f longest time n new e is told p from within =
    elim (eqb_tells p n) [
      | inl same ↦ subst (λ (k : ℕ). f k ≤ new) (sym same.1) (subst (λ (k : ℕ). k ≤ new) is (omega (arith, e)))
      | inr other ↦ (let apart : p ≢ n = other.1 in let before : f p ≤ longest = told p from (omega (arith, within, apart)) in omega (arith, before, e))
    ]

-- and that longest is one of them, once it is not 0
pub longest-of_some : (f : ℕ → ℕ) (longest time n new : ℕ) → new ≡ max longest time → time ≡ f n → 1 ≤ n → n ≤ 16 →
    (longest ≡ 0) ⊎ (some_passes (λ p. f p == longest) (run_from 1 16) ≡ true) →
    (new ≡ 0) ⊎ (some_passes (λ p. f p == new) (run_from 1 16) ≡ true)
longest-of_some f longest time n new e is from within was =
    elim (cases_lt longest time) [
      | inl below ↦
          let here : f n ≡ new = omega (arith, e, is, below) in
          inr (pass-one (λ p. f p == new) 1 16 n (eq-eqb (f n) new here) from (omega (arith, within)))
      | inr above ↦
          let stays : longest ≡ new = omega (arith, e, above) in
          subst (λ (m : ℕ). (m ≡ 0) ⊎ (some_passes (λ p. f p == m) (run_from 1 16) ≡ true)) stays was
    ]

-- where all are 0, the first is the longest
pub longest-of_first : (f : ℕ → ℕ) (longest : ℕ) → longest ≡ 0 → f 1 ≤ longest → some_passes (λ p. f p == longest) (run_from 1 16) ≡ true
longest-of_first f longest none first =
    pass-one (λ p. f p == longest) 1 16 1 (eq-eqb (f 1) longest (omega (arith, none, first))) (omega arith) (omega arith)
