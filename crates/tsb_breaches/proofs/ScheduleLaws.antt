-- Rules K24 to K27 are met exactly where none of the ways to break them is anywhere.
use Rattle.std.proofs.Common.{◌≡◌, ◌∙◌, ℕ, ◌==◌, nat_le, nat_lt, Bool, true, false, not, ◌&&◌, ◌||◌, List, [], ◌∷◌, refl, sym, ap}
use Rattle.std.proofs.Math.Bool.{not-not}
use Rattle.std.proofs.lemmas.Bool.{eqb-true, false≢true, true≢false}
use Rattle.std.specs.List.{list_all}
use Rattle.tsb_plan.specs.declared.object.Object.{Object}
use Rattle.tsb_plan.specs.Parts.{is_used}
use Rattle.tsb_plan.specs.Plan.{Plan}
use Rattle.tsb_plan.specs.Schedule.{action_of, asked_by, day_plan_of, free_number, time_of}
use Rattle.tsb_rules.specs.ScheduleRules.{actions_are_defined, are_apart, asked_patterns_are_used, asks_well, day_plans_have_events, events_are_apart, has_events, is_apart, is_defined, names_defined, runs_events}
use Rattle.tsb_types.specs.Lists.{run_from}
use Rattle.tsb_breaches.specs.declared.fault.RuleFault.TheVariants.{K24, K25, K26, K27Number, K27Unused}
use Rattle.tsb_breaches.specs.Laws.{of_values}
use Rattle.tsb_breaches.specs.Schedules.{asks_for_no_pattern, asks_for_unused, come_together, names_undefined, runs_nothing}
use Rattle.tsb_breaches.proofs.AllLemmas.{all-and, all-same, all-under, and-both, both-are, not-at-most, not-below}
use Rattle.tsb_breaches.proofs.NoneLemmas.{none_at, none_up_to, none-action, none-day_event, none-day_events, none-entry}
use Rattle.tsb_breaches.proofs.PhaseLaws.{unless-zero}

-- ## K24

all-true : {A : Type 0} (xs : List A) → list_all (λ x. true) xs ≡ true
all-true [] = refl
all-true (x ∷ xs) = all-true xs

-- tests of pairs, by the second of a pair first
turned : {A B : Type 0} (f : A → B → Bool) (xs : List A) (ys : List B) → list_all (λ x. list_all (f x) ys) xs ≡ list_all (λ y. list_all (λ x. f x y) xs) ys
turned f [] ys = sym (all-true ys)
turned f (x ∷ xs) ys = ap (λ (b : Bool). list_all (f x) ys && b) (turned f xs ys) ∙ all-and (f x) (λ y. list_all (λ z. f z y) xs) ys

-- two events do not come together: by whether the first is below the second, either is not used, and their times are one
apart : (l x y t : Bool) → not (l && (not x && (not y && t))) ≡ (not (not y) || (x || (not l || not t)))
apart true true true t = refl
apart true true false t = refl
apart true false true t = refl
apart true false false t = refl
apart false true true t = refl
apart false false true t = refl
apart false true false t = refl
apart false false false t = refl

-- an event comes together with none of a list
apart-at : (plan : Plan) (d k : ℕ) (js : List ℕ) →
    list_all (λ j. not (come_together plan d j k)) js
    ≡ (action_of plan d k == 0 || list_all (λ j. action_of plan d j == 0 || (nat_le k j || not (time_of plan d j == time_of plan d k))) js)
apart-at plan d k js =
    let test : ℕ → Bool = λ j. action_of plan d j == 0 || (nat_le k j || not (time_of plan d j == time_of plan d k)) in
    all-same (λ j. not (come_together plan d j k)) (λ j. not (not (action_of plan d k == 0)) || test j)
    (λ j. apart (nat_lt j k) (action_of plan d j == 0) (action_of plan d k == 0) (time_of plan d j == time_of plan d k)
    ∙ ap (λ (b : Bool). not (not (action_of plan d k == 0)) || (action_of plan d j == 0 || (b || not (time_of plan d j == time_of plan d k)))) (not-below j k)) js
    ∙ all-under (not (action_of plan d k == 0)) test js
    ∙ ap (λ (b : Bool). b || list_all test js) (not-not (action_of plan d k == 0))

pub met-24 : (v : Object → ℕ → ℕ) → none_at (of_values v) K24 ≡ events_are_apart (of_values v)
met-24 v =
    let plan : Plan = of_values v in
    none-day_events plan K24
    ∙ all-same (λ d. list_all (λ j. none_up_to 16 (come_together plan d j)) (run_from 1 16)) (are_apart plan)
    (λ d. turned (λ j k. not (come_together plan d j k)) (run_from 1 16) (run_from 1 16)
    ∙ all-same (λ k. list_all (λ j. not (come_together plan d j k)) (run_from 1 16)) (λ k. action_of plan d k == 0 || is_apart plan d k)
    (λ k. apart-at plan d k (run_from 1 16)) (run_from 1 16)) (run_from 1 16)

-- ## K25 and K26

pub met-25 : (v : Object → ℕ → ℕ) → none_at (of_values v) K25 ≡ day_plans_have_events (of_values v)
met-25 v =
    let plan : Plan = of_values v in
    none-entry plan K25
    ∙ all-same (λ e. not (runs_nothing plan e)) (runs_events plan)
    (λ e. unless-zero (day_plan_of plan e == 0) _ _ (not-not (has_events plan (day_plan_of plan e)))) (run_from 1 32)

pub met-26 : (v : Object → ℕ → ℕ) → none_at (of_values v) K26 ≡ actions_are_defined (of_values v)
met-26 v =
    let plan : Plan = of_values v in
    none-day_event plan K26
    ∙ all-same (λ d. none_up_to 16 (names_undefined plan d)) (names_defined plan)
    (λ d. all-same (λ k. not (names_undefined plan d k)) (λ k. action_of plan d k == 0 || is_defined plan (action_of plan d k))
    (λ k. unless-zero (action_of plan d k == 0) (asked_by plan (action_of plan d k) == 0) (is_defined plan (action_of plan d k)) refl) (run_from 1 16)) (run_from 1 16)

-- ## K27

-- by whether a number is 0, is that of free operation, is at most 16, and its pattern is used
asks : (z f b u : Bool) → (z ≡ true → b ≡ true) → (f ≡ true → b ≡ false) →
    (not (not b && not f) && not (not z && (b && not u))) ≡ (z || (f || (b && u)))
asks z true true u low high = absurd (true≢false (high refl))
asks true false true u low high = refl
asks false false true u low high = not-not u
asks true f false u low high = absurd (false≢true (low refl))
asks false true false u low high = refl
asks false false false u low high = refl

asks-at : (plan : Plan) (n : ℕ) →
    (not (nat_lt 16 n && not (n == free_number)) && not (not (n == 0) && (nat_le n 16 && not (is_used plan n)))) ≡ asks_well plan n
asks-at plan n =
    ap (λ (a : Bool). not (a && not (n == free_number)) && not (not (n == 0) && (nat_le n 16 && not (is_used plan n)))) (sym (not-at-most 16 n))
    ∙ asks (n == 0) (n == free_number) (nat_le n 16) (is_used plan n)
    (λ e. ap (λ (m : ℕ). nat_le m 16) (eqb-true n 0 e)) (λ e. ap (λ (m : ℕ). nat_le m 16) (eqb-true n free_number e))

pub met-27 : (v : Object → ℕ → ℕ) → (none_at (of_values v) K27Number && none_at (of_values v) K27Unused) ≡ asked_patterns_are_used (of_values v)
met-27 v =
    let plan : Plan = of_values v in
    and-both (none-action plan K27Number) (none-action plan K27Unused)
    ∙ both-are (λ a. not (asks_for_no_pattern plan a)) (λ a. not (asks_for_unused plan a)) (λ a. asks_well plan (asked_by plan a))
    (λ a. asks-at plan (asked_by plan a)) (run_from 1 32)
