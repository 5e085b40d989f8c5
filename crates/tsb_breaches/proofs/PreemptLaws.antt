-- Rule K15 is met exactly where none of the ways to break it is anywhere.
use Rattle.std.proofs.Common.{◌≡◌, ◌∙◌, ℕ, ◌<◌, ◌≤◌, ◌==◌, nat_lt, Bool, true, false, not, ◌&&◌, ◌||◌, refl, ap, arith, inl, inr}
use Rattle.std.specs.List.{list_all}
use Rattle.std.proofs.lemmas.Bool.{and_from, and_parts, cases_order, eq-eqb, eqb-true, lt-ltb, ltb-true, or_left, or_right}
use Rattle.std.proofs.lemmas.Bool.Decides.{same_from_decides}
use Rattle.tsb_plan.specs.declared.object.Object.{Object}
use Rattle.tsb_plan.specs.declared.object.Object.TheVariants.{PreemptTrackPhase, PreemptDwellPhase, PreemptExitPhase}
use Rattle.tsb_plan.specs.Plan.{Plan, is_enabled, is_concurrent}
use Rattle.tsb_rules.specs.Rules.{goes_with_all, names_concurrent, has_concurrent_lists, preempts_are_concurrent}
use Rattle.tsb_rules.proofs.RuleLemmas.{at-run_from, under}
use Rattle.tsb_types.proofs.RunLemmas.{all-run_from}
use Rattle.tsb_types.specs.declared.limits.TheConstants.{PREEMPTS}
use Rattle.tsb_types.specs.Lists.{run_from}
use Rattle.tsb_types.specs.Sets.{names}
use Rattle.tsb_breaches.specs.declared.fault.RuleFault.TheVariants.{K15TrackUnused, K15DwellUnused, K15ExitUnused, K15Track, K15Dwell, K15Exit}
use Rattle.tsb_breaches.specs.Laws.{of_values}
use Rattle.tsb_breaches.specs.Lists.{go_together, lists_apart, lists_unused, lists_used}
use Rattle.tsb_breaches.proofs.AllLemmas.{and-both, both-are}
use Rattle.tsb_breaches.proofs.NoneLemmas.{none_at, none_up_to, none-preempt_phase, none-preempt_phases}

-- ## Tests that imply one another

pub imply : (a b : Bool) → (a ≡ true → b ≡ true) → (not a || b) ≡ true
imply true b f = f refl
imply false b f = refl

pub refuse : (a : Bool) → (a ≡ true → ⊥) → not a ≡ true
refuse true f = absurd (f refl)
refuse false f = refl

pub refused : (a : Bool) → not a ≡ true → a ≡ true → ⊥
refused true bar holds = cc
refused false bar holds = cc

-- where it is refused that one holds and not the other
pub follows : (a b : Bool) → not (a && not b) ≡ true → a ≡ true → b ≡ true
follows true true bar holds = refl
follows true false bar holds = cc
follows false b bar holds = cc

pub refuse-unless : (a b : Bool) → (a ≡ true → b ≡ true) → not (a && not b) ≡ true
refuse-unless true b f = ap (λ x. not (not x)) (f refl)
refuse-unless false b f = refl

-- of all numbers from 1 to 16, and of one
pub at-16 : (test : ℕ → Bool) → list_all test (run_from 1 16) ≡ true → (p : ℕ) → 1 ≤ p → p < 17 → test p ≡ true
at-16 test all p from to = at-run_from test 1 16 p all from to

pub for-16 : (test : ℕ → Bool) → ((p : ℕ) → 1 ≤ p → p < 17 → test p ≡ true) → list_all test (run_from 1 16) ≡ true
for-16 test each = all-run_from test 1 16 each

-- three conditions and what they ask for
pub third : (a b c d : Bool) → not (a && (b && (c && not d))) ≡ true → a ≡ true → b ≡ true → c ≡ true → d ≡ true
third true true true d bar x y z = follows true d bar refl
third true true false d bar x y z = cc
third true false c d bar x y z = cc
third false b c d bar x y z = cc

pub refuse-third : (a b c d : Bool) → (a ≡ true → b ≡ true → c ≡ true → d ≡ true) → not (a && (b && (c && not d))) ≡ true
refuse-third true true true d f = refuse-unless true d (λ x. f refl refl refl)
refuse-third true true false d f = refl
refuse-third true false c d f = refl
refuse-third false b c d f = refl

pub other-than : (a b : Bool) → (a || b) ≡ true → (a ≡ true → ⊥) → b ≡ true
other-than true b e bar = absurd (bar refl)
other-than false b e bar = e

-- a number below another is not that other
pub apart-up : (p q : ℕ) → nat_lt p q ≡ true → (p == q) ≡ true → ⊥
apart-up p q below same = let less : p < q = ltb-true p q below in let e : p ≡ q = eqb-true p q same in omega (arith, less, e)

pub apart-down : (p q : ℕ) → nat_lt p q ≡ true → (q == p) ≡ true → ⊥
apart-down p q below same = let less : p < q = ltb-true p q below in let e : q ≡ p = eqb-true q p same in omega (arith, less, e)

-- ## The list of a preempt

abbrev none_unused : (Object → ℕ → ℕ) → Object → ℕ → Bool
none_unused v o m = none_up_to 16 (lists_unused (of_values v) o m)

abbrev none_apart : (Object → ℕ → ℕ) → Object → ℕ → Bool
none_apart v o m = list_all (λ p. none_up_to 16 (lists_apart (of_values v) o m p)) (run_from 1 16)

abbrev named_rightly : (Object → ℕ → ℕ) → ℕ → ℕ → Bool
named_rightly v list p = not (names list p) || (is_enabled (of_values v) p && goes_with_all (of_values v) list p)

list-there : (v : Object → ℕ → ℕ) (o : Object) (m : ℕ) → none_unused v o m ≡ true → none_apart v o m ≡ true → names_concurrent (of_values v) (v o m) ≡ true
list-there v o m unused apart =
    let plan : Plan = of_values v in
    let on : (p : ℕ) → 1 ≤ p → p < 17 → names (v o m) p ≡ true → is_enabled plan p ≡ true =
    λ p from to named. follows (names (v o m) p) (is_enabled plan p) (at-16 (λ x. not (lists_unused plan o m x)) unused p from to) named in
    let two : (p q : ℕ) → 1 ≤ p → p < 17 → 1 ≤ q → q < 17 → names (v o m) p ≡ true → names (v o m) q ≡ true → nat_lt p q ≡ true → go_together plan p q ≡ true =
    λ p q pf pt qf qt one other below.
    third (nat_lt p q) (lists_used plan o m p) (lists_used plan o m q) (go_together plan p q)
    (at-16 (λ y. not (lists_apart plan o m p y)) (at-16 (λ x. none_up_to 16 (lists_apart plan o m x)) apart p pf pt) q qf qt)
    below (and_from _ _ one (on p pf pt one)) (and_from _ _ other (on q qf qt other)) in
    for-16 (named_rightly v (v o m)) (λ p pf pt.
    imply (names (v o m) p) _ (λ one.
    and_from (is_enabled plan p) _ (on p pf pt one)
    (for-16 (λ q. not (names (v o m) q) || (p == q || is_concurrent plan p q)) (λ q qf qt. imply (names (v o m) q) _ (λ other.
    elim (cases_order p q) [
      | inl same ↦ or_left (p == q) _ (eq-eqb p q same)
      | inr (inl below) ↦ or_right (p == q) _ (and_parts (is_concurrent plan p q) (is_concurrent plan q p) (two p q pf pt qf qt one other (lt-ltb p q below))).0
      | inr (inr above) ↦ or_right (p == q) _ (and_parts (is_concurrent plan q p) (is_concurrent plan p q) (two q p qf qt pf pt other one (lt-ltb q p above))).1
    ])))))

list-back : (v : Object → ℕ → ℕ) (o : Object) (m : ℕ) → names_concurrent (of_values v) (v o m) ≡ true → (none_unused v o m && none_apart v o m) ≡ true
list-back v o m right =
    let plan : Plan = of_values v in
    let at : (p : ℕ) → 1 ≤ p → p < 17 → names (v o m) p ≡ true → (is_enabled plan p ≡ true) × (goes_with_all plan (v o m) p ≡ true) =
    λ p from to named. and_parts (is_enabled plan p) _ (under (names (v o m) p) _ (at-16 (named_rightly v (v o m)) right p from to) named) in
    let with : (p q : ℕ) → 1 ≤ p → p < 17 → 1 ≤ q → q < 17 → names (v o m) p ≡ true → names (v o m) q ≡ true → (p == q || is_concurrent plan p q) ≡ true =
    λ p q pf pt qf qt one other.
    under (names (v o m) q) _ (at-16 (λ x. not (names (v o m) x) || (p == x || is_concurrent plan p x)) (at p pf pt one).1 q qf qt) other in
    and_from (none_unused v o m) _
    (for-16 (λ p. not (lists_unused plan o m p)) (λ p from to. refuse-unless (names (v o m) p) (is_enabled plan p) (λ named. (at p from to named).0)))
    (for-16 (λ p. none_up_to 16 (lists_apart plan o m p)) (λ p pf pt.
    for-16 (λ q. not (lists_apart plan o m p q)) (λ q qf qt.
    refuse-third (nat_lt p q) (lists_used plan o m p) (lists_used plan o m q) (go_together plan p q) (λ below one other.
    let first = (and_parts (names (v o m) p) _ one).0 in
    let second = (and_parts (names (v o m) q) _ other).0 in
    and_from (is_concurrent plan p q) _
    (other-than (p == q) _ (with p q pf pt qf qt first second) (apart-up p q below))
    (other-than (q == p) _ (with q p qf qt pf pt second first) (apart-down p q below))))))

list-met : (v : Object → ℕ → ℕ) (o : Object) (m : ℕ) → (none_unused v o m && none_apart v o m) ≡ names_concurrent (of_values v) (v o m)
list-met v o m =
    same_from_decides {P = names_concurrent (of_values v) (v o m) ≡ true} (none_unused v o m && none_apart v o m) (names_concurrent (of_values v) (v o m))
    (λ e. (let parts = and_parts (none_unused v o m) (none_apart v o m) e in list-there v o m parts.0 parts.1), list-back v o m) (λ e. e, λ e. e)

-- ## All lists of all preempts

paired : (a b c x y z : Bool) → (a && (b && (c && (x && (y && z))))) ≡ ((a && x) && ((b && y) && (c && z)))
paired false b c x y z = refl
paired true false c true y z = refl
paired true false c false y z = refl
paired true true false true true z = refl
paired true true false true false z = refl
paired true true false false y z = refl
paired true true true x y z = refl

pub met-15 : (v : Object → ℕ → ℕ) →
    (none_at (of_values v) K15TrackUnused && (none_at (of_values v) K15DwellUnused && (none_at (of_values v) K15ExitUnused
    && (none_at (of_values v) K15Track && (none_at (of_values v) K15Dwell && none_at (of_values v) K15Exit)))))
    ≡ preempts_are_concurrent (of_values v)
met-15 v =
    let plan : Plan = of_values v in
    let u : Object → ℕ → Bool = none_unused v in
    let a : Object → ℕ → Bool = none_apart v in
    let t : Object = PreemptTrackPhase in
    let d : Object = PreemptDwellPhase in
    let x : Object = PreemptExitPhase in
    let all : (ℕ → Bool) → Bool = λ f. list_all f (run_from 1 PREEMPTS) in
    and-both (none-preempt_phase plan K15TrackUnused) (and-both (none-preempt_phase plan K15DwellUnused) (and-both (none-preempt_phase plan K15ExitUnused)
    (and-both (none-preempt_phases plan K15Track) (and-both (none-preempt_phases plan K15Dwell) (none-preempt_phases plan K15Exit)))))
    ∙ ap (λ y. all (u t) && (all (u d) && (all (u x) && (all (a t) && y)))) (both-are (a d) (a x) (λ m. a d m && a x m) (λ m. refl) (run_from 1 PREEMPTS))
    ∙ ap (λ y. all (u t) && (all (u d) && (all (u x) && y))) (both-are (a t) (λ m. a d m && a x m) (λ m. a t m && (a d m && a x m)) (λ m. refl) (run_from 1 PREEMPTS))
    ∙ ap (λ y. all (u t) && (all (u d) && y)) (both-are (u x) (λ m. a t m && (a d m && a x m)) (λ m. u x m && (a t m && (a d m && a x m))) (λ m. refl) (run_from 1 PREEMPTS))
    ∙ ap (λ y. all (u t) && y) (both-are (u d) (λ m. u x m && (a t m && (a d m && a x m))) (λ m. u d m && (u x m && (a t m && (a d m && a x m)))) (λ m. refl) (run_from 1 PREEMPTS))
    ∙ both-are (u t) (λ m. u d m && (u x m && (a t m && (a d m && a x m)))) (has_concurrent_lists plan)
    (λ m. paired (u t m) (u d m) (u x m) (a t m) (a d m) (a x m) ∙ and-both (list-met v t m) (and-both (list-met v d m) (list-met v x m))) (run_from 1 PREEMPTS)
