-- Rules K28 and K29 are met exactly where none of the ways to break them is anywhere.
use Rattle.std.proofs.Common.{zero, suc, ◌≡◌, ◌∙◌, ℕ, ◌+◌, ◌-◌, ◌<◌, ◌≤◌, ◌==◌, nat_le, nat_lt, Bool, true, false, not, ◌&&◌, ◌||◌, if◌then◌else◌, List, [], ◌∷◌, length, get_or, Option, Some, None, refl, sym, ap, arith, sum_by}
use Rattle.std.specs.List.{list_all, list_any}
use Rattle.std.proofs.lemmas.Bool.{and_from, and_parts, eq-eqb, eqb-true}
use Rattle.std.proofs.lemmas.Bool.Decides.{nat_tests}
use Rattle.std.proofs.lemmas.List.Folds.{list_any_at}
use Rattle.std.proofs.Math.Bool.{or-false}
use Rattle.std.proofs.lemmas.List.Sums.{sum_by-cons}
use Rattle.tsb_plan.specs.declared.object.Object.{Object}
use Rattle.tsb_plan.specs.declared.object.Object.TheVariants.{OverlapTrailGreen, OverlapType}
use Rattle.tsb_plan.specs.Parts.{includes_none, is_included, is_modifier, trail_yellow}
use Rattle.tsb_plan.specs.Plan.{Plan, is_concurrent}
use Rattle.tsb_rules.specs.Rules.{arrows_are_right, only_passes, points_rightly, trails_are_right, trails_rightly, turns_alone}
use Rattle.tsb_rules.proofs.ConsistentLemmas.{is-off}
use Rattle.tsb_rules.proofs.RuleLemmas.{Passes, some-run_from, under}
use Rattle.tsb_types.proofs.FirstLemmas.{first-passes, first-within}
use Rattle.tsb_types.proofs.RunLemmas.{get_or-run_from, length-run_from}
use Rattle.tsb_types.specs.declared.limits.TheConstants.{OVERLAPS}
use Rattle.tsb_types.specs.Lists.{first, run_from}
use Rattle.tsb_breaches.specs.declared.fault.RuleFault.TheVariants.{K28Empty, K28Turns, K28Together, K29Yellow, K29Type}
use Rattle.tsb_breaches.specs.Laws.{of_values}
use Rattle.tsb_breaches.specs.Lists.{is_turn_with, points, points_nowhere, trails_otherwise, trails_shortly, turns_of, turns_otherwise, turns_with}
use Rattle.tsb_breaches.proofs.AllLemmas.{and-both, both-are, not-below}
use Rattle.tsb_breaches.proofs.NoneLemmas.{none_at, none_up_to, none-overlap, none-overlap_phase}
use Rattle.tsb_breaches.proofs.PreemptLaws.{at-16, follows, for-16, imply, refuse-unless}

-- ## Tests

same-if : (a b : Bool) → (a ≡ true → b ≡ true) → (b ≡ true → a ≡ true) → a ≡ b
same-if true b f g = sym (f refl)
same-if false true f g = g refl
same-if false false f g = refl

-- not both
bars : (a b : Bool) → not (a && b) ≡ true → a ≡ true → b ≡ false
bars true b e on = is-off b e
bars false b e on = cc

bar : (a b : Bool) → (a ≡ true → b ≡ false) → not (a && b) ≡ true
bar true b f = ap not (f refl)
bar false b f = refl

-- not all three
bar-third : (a b c : Bool) → (a ≡ true → b ≡ true → c ≡ false) → not (a && (b && c)) ≡ true
bar-third true true c f = ap not (f refl refl)
bar-third true false c f = refl
bar-third false b c f = refl

neither-of : (a b : Bool) → (a || b) ≡ false → (not a && not b) ≡ true
neither-of false false e = refl
neither-of false true e = cc
neither-of true b e = cc

none-of : (a b : Bool) → (not a && not b) ≡ true → (a || b) ≡ false
none-of false false e = refl
none-of false true e = cc
none-of true b e = cc

-- ## How many of a run pass a test

-- t is there, and what passes the test is t
alone : (ℕ → Bool) → List ℕ → Option ℕ → Bool
alone test ps None = false
alone test ps (Some t) = list_all (λ p. not (test p) || p == t) ps

counted : (ℕ → Bool) → List ℕ → ℕ
counted test ps = sum_by (λ p. if test p then 1 else 0) ps

counted-in : (test : ℕ → Bool) (p : ℕ) (ps : List ℕ) → test p ≡ true → counted test (p ∷ ps) ≡ suc (counted test ps)
unfolding counted
counted-in test p ps on =
    let one : counted test (p ∷ ps) ≡ 1 + counted test ps = sum_by-cons (λ q. if test q then 1 else 0) p ps ∙ ap (λ (c : Bool). (if c then 1 else 0) + counted test ps) on in
    omega (arith, one)

counted-out : (test : ℕ → Bool) (p : ℕ) (ps : List ℕ) → test p ≡ false → counted test (p ∷ ps) ≡ counted test ps
unfolding counted
counted-out test p ps out =
    let none : counted test (p ∷ ps) ≡ 0 + counted test ps = sum_by-cons (λ q. if test q then 1 else 0) p ps ∙ ap (λ (c : Bool). (if c then 1 else 0) + counted test ps) out in
    omega (arith, none)

more-than-none : (m n : ℕ) → m ≡ suc n → (m == 0) ≡ false
more-than-none m n e = grind (arith, nat_tests, e)

one-more : (m n : ℕ) → m ≡ suc n → (m == 1) ≡ (n == 0)
one-more m n e = same-if (m == 1) (n == 0) (λ on. grind (arith, nat_tests, e, on)) (λ on. grind (arith, nat_tests, e, on))

-- none passes it
none-counted : (test : ℕ → Bool) (ps : List ℕ) → (counted test ps == 0) ≡ list_all (λ p. not (test p)) ps
unfolding counted
none-counted test [] = refl
none-counted test (p ∷ ps) = go (test p) refl (none-counted test ps)
  where
    go : (b : Bool) → test p ≡ b → (counted test ps == 0) ≡ list_all (λ q. not (test q)) ps → (counted test (p ∷ ps) == 0) ≡ (not (test p) && list_all (λ q. not (test q)) ps)
    go true e later = more-than-none (counted test (p ∷ ps)) (counted test ps) (counted-in test p ps e) ∙ sym (ap (λ (c : Bool). not c && list_all (λ q. not (test q)) ps) e)
    go false e later = ap (λ (n : ℕ). n == 0) (counted-out test p ps e) ∙ later ∙ sym (ap (λ (c : Bool). not c && list_all (λ q. not (test q)) ps) e)

-- of numbers over t none is t
above : (test : ℕ → Bool) (t a n : ℕ) → t < a → list_all (λ p. not (test p) || p == t) (run_from a n) ≡ list_all (λ p. not (test p)) (run_from a n)
unfolding run_from
above test t a zero over = refl
above test t a (suc n) over =
    let apart : (a == t) ≡ false = grind (arith, nat_tests, over) in
    and-both (ap (λ (b : Bool). not (test a) || b) apart ∙ or-false (not (test a))) (above test t (a + 1) n (omega (arith, over)))

alone-first : (test : ℕ → Bool) (a : ℕ) (ps : List ℕ) → test a ≡ true → alone test (a ∷ ps) (Some a) ≡ list_all (λ p. not (test p) || p == a) ps
unfolding alone
alone-first test a ps on =
    let same : (a == a) ≡ true = eq-eqb a a refl in
    ap (λ (b : Bool). (not b || a == a) && list_all (λ p. not (test p) || p == a) ps) on ∙ ap (λ (b : Bool). b && list_all (λ p. not (test p) || p == a) ps) same

alone-later : (test : ℕ → Bool) (a : ℕ) (ps : List ℕ) (f : Option ℕ) → test a ≡ false → alone test (a ∷ ps) f ≡ alone test ps f
unfolding alone
alone-later test a ps None out = refl
alone-later test a ps (Some t) out = ap (λ (b : Bool). (not b || a == t) && list_all (λ p. not (test p) || p == t) ps) out

-- exactly one passes it where the first that does is the only one
one-counted : (test : ℕ → Bool) (a n : ℕ) → (counted test (run_from a n) == 1) ≡ alone test (run_from a n) (first test (run_from a n))
unfolding run_from counted alone
one-counted test a zero = refl
one-counted test a (suc n) = go (test a) refl (one-counted test (a + 1) n)
  where
    found : (b : Bool) → test a ≡ b → first test (a ∷ run_from (a + 1) n) ≡ (if b then Some a else first test (run_from (a + 1) n))
    found b e = ap (λ (c : Bool). if c then Some a else first test (run_from (a + 1) n)) e

    go : (b : Bool) → test a ≡ b → (counted test (run_from (a + 1) n) == 1) ≡ alone test (run_from (a + 1) n) (first test (run_from (a + 1) n)) →
        (counted test (a ∷ run_from (a + 1) n) == 1) ≡ alone test (a ∷ run_from (a + 1) n) (first test (a ∷ run_from (a + 1) n))
    go true e later =
        one-more (counted test (a ∷ run_from (a + 1) n)) (counted test (run_from (a + 1) n)) (counted-in test a (run_from (a + 1) n) e)
        ∙ none-counted test (run_from (a + 1) n)
        ∙ sym (above test a (a + 1) n (omega arith))
        ∙ sym (alone-first test a (run_from (a + 1) n) e)
        ∙ ap (alone test (a ∷ run_from (a + 1) n)) (sym (found true e))
    go false e later =
        ap (λ (m : ℕ). m == 1) (counted-out test a (run_from (a + 1) n) e)
        ∙ later
        ∙ sym (alone-later test a (run_from (a + 1) n) (first test (run_from (a + 1) n)) e)
        ∙ ap (alone test (a ∷ run_from (a + 1) n)) (sym (found false e))

-- where t is the only one that passes a test, some that passes it passes another where t does
only-any : (test other : ℕ → Bool) (t : ℕ) → 1 ≤ t → t < 17 → test t ≡ true → list_all (λ p. not (test p) || p == t) (run_from 1 16) ≡ true →
    list_any (λ p. test p && other p) (run_from 1 16) ≡ other t
only-any test other t from to on only =
    same-if (list_any (λ p. test p && other p) (run_from 1 16)) (other t)
    (λ some.
    let found : Passes (λ p. test p && other p) 1 16 = some-run_from (λ p. test p && other p) 1 16 some in
    let parts = and_parts (test found.one) (other found.one) found.passes in
    let same : (found.one == t) ≡ true = under (test found.one) (found.one == t) (at-16 (λ p. not (test p) || p == t) only found.one found.from found.below) parts.0 in
    ap other (sym (eqb-true found.one t same)) ∙ parts.1)
    (λ passes.
    let inside : t - 1 < length (run_from 1 16) = omega (arith, length-run_from 1 16, from, to) in
    let there : get_or (run_from 1 16) (t - 1) 0 ≡ t = get_or-run_from 1 16 (t - 1) (omega (arith, from, to)) ∙ (let e : 1 + (t - 1) ≡ t = omega (arith, from) in e) in
    list_any_at (λ p. test p && other p) (run_from 1 16) (t - 1) 0 inside (ap (λ (p : ℕ). test p && other p) there ∙ and_from (test t) (other t) on passes))

-- ## K28

-- the turns of an overlap that are with a phase, where it has the turn t alone
with-turn : (v : Object → ℕ → ℕ) (o p t : ℕ) → first (is_modifier (of_values v) o) (run_from 1 16) ≡ Some t → only_passes (of_values v) (is_modifier (of_values v) o) t ≡ true →
    list_any (is_turn_with (of_values v) o p) (run_from 1 16) ≡ (p == t || is_concurrent (of_values v) t p)
with-turn v o p t found only =
    let plan : Plan = of_values v in
    let inside : (1 ≤ t) × (t < 1 + 16) = first-within (is_modifier plan o) 1 16 t found in
    only-any (is_modifier plan o) (λ q. p == q || is_concurrent plan q p) t inside.0 inside.1
    (first-passes (is_modifier plan o) (run_from 1 16) t found) only

turns_right : (Object → ℕ → ℕ) → ℕ → Bool
turns_right v o = turns_alone (of_values v) o (first (is_modifier (of_values v) o) (run_from 1 16))

-- one that meets its rule has one turn, with which no included phase goes
one-turn : (v : Object → ℕ → ℕ) (o : ℕ) → turns_right v o ≡ true → (turns_of (of_values v) o == 1) ≡ true
unfolding turns_right turns_of counted alone
one-turn v o right =
    let plan : Plan = of_values v in
    one-counted (is_modifier plan o) 1 16 ∙ go (first (is_modifier plan o) (run_from 1 16)) right
  where
    go : (f : Option ℕ) → turns_alone (of_values v) o f ≡ true → alone (is_modifier (of_values v) o) (run_from 1 16) f ≡ true
    go None e = cc
    go (Some t) e = (and_parts (only_passes (of_values v) (is_modifier (of_values v) o) t) _ e).0

none-with : (v : Object → ℕ → ℕ) (o p : ℕ) → turns_right v o ≡ true → 1 ≤ p → p < 17 → is_included (of_values v) o p ≡ true →
    list_any (is_turn_with (of_values v) o p) (run_from 1 16) ≡ false
unfolding turns_right
none-with v o p right from to on = go (first (is_modifier (of_values v) o) (run_from 1 16)) refl right
  where
    go : (f : Option ℕ) → first (is_modifier (of_values v) o) (run_from 1 16) ≡ f → turns_alone (of_values v) o f ≡ true →
        list_any (is_turn_with (of_values v) o p) (run_from 1 16) ≡ false
    go None found e = cc
    go (Some t) found e =
        let parts = and_parts (only_passes (of_values v) (is_modifier (of_values v) o) t) _ e in
        let opposed : (not (p == t) && not (is_concurrent (of_values v) t p)) ≡ true =
        under (is_included (of_values v) o p) _ (at-16 (λ q. not (is_included (of_values v) o q) || (not (q == t) && not (is_concurrent (of_values v) t q))) parts.1 p from to) on in
        with-turn v o p t found parts.0 ∙ none-of (p == t) (is_concurrent (of_values v) t p) opposed

-- and one that has one turn, with which no included phase goes, meets its rule
meets-alone : (v : Object → ℕ → ℕ) (o : ℕ) → (turns_of (of_values v) o == 1) ≡ true →
    ((p : ℕ) → 1 ≤ p → p < 17 → is_included (of_values v) o p ≡ true → list_any (is_turn_with (of_values v) o p) (run_from 1 16) ≡ false) → turns_right v o ≡ true
unfolding turns_right turns_of counted alone
meets-alone v o one none =
    go (first (is_modifier (of_values v) o) (run_from 1 16)) refl (sym (one-counted (is_modifier (of_values v) o) 1 16) ∙ one)
  where
    go : (f : Option ℕ) → first (is_modifier (of_values v) o) (run_from 1 16) ≡ f → alone (is_modifier (of_values v) o) (run_from 1 16) f ≡ true → turns_alone (of_values v) o f ≡ true
    go None found e = cc
    go (Some t) found e =
        and_from (only_passes (of_values v) (is_modifier (of_values v) o) t) _ e
        (for-16 (λ q. not (is_included (of_values v) o q) || (not (q == t) && not (is_concurrent (of_values v) t q)))
        (λ q from to. imply (is_included (of_values v) o q) _ (λ on. neither-of (q == t) (is_concurrent (of_values v) t q) (sym (with-turn v o q t found e) ∙ none q from to on))))

arrow-met : (v : Object → ℕ → ℕ) (o : ℕ) →
    (not (points_nowhere (of_values v) o) && (not (turns_otherwise (of_values v) o) && none_up_to 16 (turns_with (of_values v) o))) ≡ points_rightly (of_values v) o
unfolding turns_right
arrow-met v o =
    let plan : Plan = of_values v in
    same-if (not (points_nowhere plan o) && (not (turns_otherwise plan o) && none_up_to 16 (turns_with plan o))) (points_rightly plan o)
    (λ none.
    let first-parts = and_parts (not (points_nowhere plan o)) _ none in
    let parts = and_parts (not (turns_otherwise plan o)) _ first-parts.1 in
    imply (points plan o) _ (λ arrow.
    and_from (not (includes_none plan o)) _ (ap not (bars (points plan o) (includes_none plan o) first-parts.0 arrow))
    (meets-alone v o (follows (points plan o) (turns_of plan o == 1) parts.0 arrow)
    (λ p from to on.
    let apart : (is_included plan o p && list_any (is_turn_with plan o p) (run_from 1 16)) ≡ false =
    bars (points plan o) (is_included plan o p && list_any (is_turn_with plan o p) (run_from 1 16)) (at-16 (λ q. not (turns_with plan o q)) parts.1 p from to) arrow in
    second-off (is_included plan o p) _ apart on))))
    (λ right.
    let rest : points plan o ≡ true → (not (includes_none plan o) && turns_right v o) ≡ true = λ arrow. under (points plan o) _ right arrow in
    let turns : points plan o ≡ true → turns_right v o ≡ true = λ arrow. (and_parts (not (includes_none plan o)) _ (rest arrow)).1 in
    and_from (not (points_nowhere plan o)) _ (bar (points plan o) (includes_none plan o) (λ arrow. is-off (includes_none plan o) (and_parts (not (includes_none plan o)) _ (rest arrow)).0))
    (and_from (not (turns_otherwise plan o)) _ (refuse-unless (points plan o) (turns_of plan o == 1) (λ arrow. one-turn v o (turns arrow)))
    (for-16 (λ p. not (turns_with plan o p)) (λ p from to.
    bar-third (points plan o) (is_included plan o p) (list_any (is_turn_with plan o p) (run_from 1 16)) (λ arrow on. none-with v o p (turns arrow) from to on)))))
  where
    second-off : (a b : Bool) → (a && b) ≡ false → a ≡ true → b ≡ false
    second-off true b e on = e
    second-off false b e on = cc

pub met-28 : (v : Object → ℕ → ℕ) → (none_at (of_values v) K28Empty && (none_at (of_values v) K28Turns && none_at (of_values v) K28Together)) ≡ arrows_are_right (of_values v)
met-28 v =
    let plan : Plan = of_values v in
    let a : ℕ → Bool = λ o. not (points_nowhere plan o) in
    let b : ℕ → Bool = λ o. not (turns_otherwise plan o) in
    let c : ℕ → Bool = λ o. none_up_to 16 (turns_with plan o) in
    and-both (none-overlap plan K28Empty) (and-both (none-overlap plan K28Turns) (none-overlap_phase plan K28Together))
    ∙ ap (λ x. list_all a (run_from 1 OVERLAPS) && x) (both-are b c (λ o. b o && c o) (λ o. refl) (run_from 1 OVERLAPS))
    ∙ both-are a (λ o. b o && c o) (points_rightly plan) (arrow-met v) (run_from 1 OVERLAPS)

-- ## K29

-- a yellow that is 0 or long, by a test that it is short
yellow-met : (z s l g t : Bool) → not s ≡ l → (z ≡ true → s ≡ true) → (not (s && (not z || not g)) && not (not g && not t)) ≡ ((z || l) && (g || (not z && t)))
yellow-met true true false true t long short = refl
yellow-met true true false false t long short = refl
yellow-met true true true g t long short = cc
yellow-met true false l g t long short = let both : false ≡ true = short refl in cc
yellow-met false true true g t long short = cc
yellow-met false true false g t long short = refl
yellow-met false false false g t long short = cc
yellow-met false false true true t long short = refl
yellow-met false false true false true long short = refl
yellow-met false false true false false long short = refl

pub met-29 : (v : Object → ℕ → ℕ) → (none_at (of_values v) K29Yellow && none_at (of_values v) K29Type) ≡ trails_are_right (of_values v)
met-29 v =
    let plan : Plan = of_values v in
    and-both (none-overlap plan K29Yellow) (none-overlap plan K29Type)
    ∙ both-are (λ o. not (trails_shortly plan o)) (λ o. not (trails_otherwise plan o)) (trails_rightly plan)
    (λ o. yellow-met (trail_yellow plan o == 0) (nat_lt (trail_yellow plan o) 30) (nat_le 30 (trail_yellow plan o)) (v OverlapTrailGreen o == 0) (v OverlapType o == 0)
    (not-below (trail_yellow plan o) 30) (λ none. grind (arith, nat_tests, none))) (run_from 1 OVERLAPS)
