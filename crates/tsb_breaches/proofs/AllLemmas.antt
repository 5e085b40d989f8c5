-- Tests that each of a list passes.
use Rattle.std.proofs.Common.{◌≡◌, ◌∙◌, ℕ, nat_le, nat_lt, Bool, true, false, not, ◌&&◌, ◌||◌, List, [], ◌∷◌, flat_map, refl, sym, ap, arith}
use Rattle.std.specs.List.{list_all}
use Rattle.std.proofs.Math.Bool.{and-true, not-not}
use Rattle.std.proofs.lemmas.Bool.Decides.{nat_tests, same_from_decides}
use Rattle.std.proofs.lemmas.List.Folds.{list_all-append, list_all-map}
use Rattle.tsb_types.specs.Lists.{run_from}
use Rattle.tsb_review.specs.declared.place.Place.{Place}
use Rattle.tsb_review.specs.declared.place.Shape.{Shape}
use Rattle.tsb_review.specs.Places.{firsts, place_of, places, places_beside, places_from, seconds, thirds}

-- ## Tests of two values

pub and-both : {a b c d : Bool} → a ≡ c → b ≡ d → (a && b) ≡ (c && d)
and-both {a} {b} {c} {d} first second = ap (λ x. x && b) first ∙ ap (λ x. c && x) second

and-swap : (a b c d : Bool) → ((a && b) && (c && d)) ≡ ((a && c) && (b && d))
and-swap true true c d = refl
and-swap true false true d = refl
and-swap true false false d = refl
and-swap false b c d = refl

-- below is not at least
pub not-below : (a b : ℕ) → not (nat_lt a b) ≡ nat_le b a
not-below a b =
    same_from_decides {P = nat_le b a ≡ true} (not (nat_lt a b)) (nat_le b a) (λ e. grind (arith, nat_tests, e), λ e. grind (arith, nat_tests, e)) (λ e. e, λ e. e)

pub not-at-most : (a b : ℕ) → not (nat_le b a) ≡ nat_lt a b
not-at-most a b = ap not (sym (not-below a b)) ∙ not-not (nat_lt a b)

-- ## Over a list

pub all-same : {A : Type 0} (f g : A → Bool) → ((x : A) → f x ≡ g x) → (xs : List A) → list_all f xs ≡ list_all g xs
all-same f g same [] = refl
all-same f g same (x ∷ xs) = and-both (same x) (all-same f g same xs)

pub all-and : {A : Type 0} (f g : A → Bool) (xs : List A) → (list_all f xs && list_all g xs) ≡ list_all (λ x. f x && g x) xs
all-and f g [] = refl
all-and f g (x ∷ xs) = and-swap (f x) (list_all f xs) (g x) (list_all g xs) ∙ ap (λ b. (f x && g x) && b) (all-and f g xs)

-- of two tests together
pub both-are : {A : Type 0} (f g h : A → Bool) → ((x : A) → (f x && g x) ≡ h x) → (xs : List A) → (list_all f xs && list_all g xs) ≡ list_all h xs
both-are f g h same xs = all-and f g xs ∙ all-same (λ x. f x && g x) h same xs

-- a test under a condition
pub all-under : {A : Type 0} (e : Bool) (f : A → Bool) (xs : List A) → list_all (λ x. not e || f x) xs ≡ (not e || list_all f xs)
all-under true f xs = refl
all-under false f [] = refl
all-under false f (x ∷ xs) = all-under false f xs

pub all-flat : {A B : Type 0} (f : B → Bool) (g : A → List B) (xs : List A) → list_all f (flat_map g xs) ≡ list_all (λ x. list_all f (g x)) xs
all-flat f g [] = refl
all-flat f g (x ∷ xs) = list_all-append f (g x) (flat_map g xs) ∙ ap (λ b. list_all f (g x) && b) (all-flat f g xs)

pub all-one : (f : ℕ → Bool) → list_all f (run_from 1 1) ≡ f 1
unfolding run_from
all-one f = and-true (f 1)

-- ## Over places

-- by their three numbers
pub all-places : (s : Shape) (f : Place → Bool) →
    list_all f (places s) ≡ list_all (λ i. list_all (λ j. list_all (λ k. f (place_of s i j k)) (run_from 1 (thirds s))) (run_from 1 (seconds s))) (run_from 1 (firsts s))
unfolding places places_from places_beside
all-places s f =
    let third : ℕ → ℕ → Bool = λ i j. list_all (λ k. f (place_of s i j k)) (run_from 1 (thirds s)) in
    let second : ℕ → Bool = λ i. list_all (third i) (run_from 1 (seconds s)) in
    all-flat f (places_from s) (run_from 1 (firsts s))
    ∙ all-same (λ i. list_all f (places_from s i)) second
    (λ i. all-flat f (places_beside s i) (run_from 1 (seconds s)) ∙ all-same (λ j. list_all f (places_beside s i j)) (third i) (λ j. list_all-map f (place_of s i j) (run_from 1 (thirds s))) (run_from 1 (seconds s)))
    (run_from 1 (firsts s))

-- by two, where there is no third
pub all-pairs : (s : Shape) (f : Place → Bool) → thirds s ≡ 1 →
    list_all f (places s) ≡ list_all (λ i. list_all (λ j. f (place_of s i j 1)) (run_from 1 (seconds s))) (run_from 1 (firsts s))
all-pairs s f one =
    let third : ℕ → ℕ → Bool = λ i j. list_all (λ k. f (place_of s i j k)) (run_from 1 (thirds s)) in
    all-places s f
    ∙ all-same (λ i. list_all (third i) (run_from 1 (seconds s))) (λ i. list_all (λ j. f (place_of s i j 1)) (run_from 1 (seconds s)))
    (λ i. all-same (third i) (λ j. f (place_of s i j 1))
    (λ j. ap (λ n. list_all (λ k. f (place_of s i j k)) (run_from 1 n)) one ∙ all-one (λ k. f (place_of s i j k))) (run_from 1 (seconds s)))
    (run_from 1 (firsts s))

-- by one, where there is no second
pub all-singles : (s : Shape) (f : Place → Bool) → seconds s ≡ 1 → thirds s ≡ 1 → list_all f (places s) ≡ list_all (λ i. f (place_of s i 1 1)) (run_from 1 (firsts s))
all-singles s f two three =
    let second : ℕ → Bool = λ i. list_all (λ j. f (place_of s i j 1)) (run_from 1 (seconds s)) in
    all-pairs s f three
    ∙ all-same second (λ i. f (place_of s i 1 1))
    (λ i. ap (λ n. list_all (λ j. f (place_of s i j 1)) (run_from 1 n)) two ∙ all-one (λ j. f (place_of s i j 1))) (run_from 1 (firsts s))
