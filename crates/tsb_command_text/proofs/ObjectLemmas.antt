-- An object is found by its name among those alone whose names are as long.
use Rattle.std.proofs.Common.{◌≡◌, ℕ, Bool, true, ◌&&◌, List, [], ◌∷◌, length, find, filter, bytes_eq, arith, sym, ◌∙◌, ap, refl, inl, inr}
use Rattle.std.proofs.lemmas.Bool.{cases_Bool}
use Rattle.std.proofs.lemmas.Slice.Eq.{bytes_eq-Decides}
use Rattle.tsb_plan.specs.declared.object.Object.{Object}
use Rattle.tsb_plan.specs.declared.version.TheConstants.Version.{NEWEST}
use Rattle.tsb_plan.specs.Names.{name_of, object_named}
use Rattle.tsb_plan.specs.Objects.{objects}
use Rattle.tsb_plan.specs.Versions.{has_object}
use Rattle.tsb_command_text.specs.Objects.{named_among}

-- it is the same to look for what passes a test among those alone that fit, where each that passes fits
find-among : (old new fits : Object → Bool) → ((o : Object) → old o ≡ new o) → ((o : Object) → new o ≡ true → fits o ≡ true) → (os : List Object)
    → find old os ≡ find new (filter fits os)
find-among old new fits same passes [] = refl
find-among old new fits same passes (o ∷ os) =
    let rest : find old os ≡ find new (filter fits os) = find-among old new fits same passes os in
    elim (cases_Bool (new o)) [
      | inl holds ↦ grind (arith, same o, holds, passes o holds)
      | inr fails ↦ elim (cases_Bool (fits o)) [
        | inl fitting ↦ grind (arith, same o, fails, fitting, rest)
        | inr apart ↦ grind (arith, same o, fails, apart, rest)
      ]
    ]

eq-turned : (a b : List ℕ) → bytes_eq a b ≡ bytes_eq b a
eq-turned a b =
    elim (cases_Bool (bytes_eq a b)) [
      | inl holds ↦ holds ∙ sym ((bytes_eq-Decides b a).1 (sym ((bytes_eq-Decides a b).0 holds)))
      | inr fails ↦ elim (cases_Bool (bytes_eq b a)) [
        | inl turned ↦ absurd (grind (arith, fails, (bytes_eq-Decides a b).1 (sym ((bytes_eq-Decides b a).0 turned))))
        | inr both ↦ fails ∙ sym both
      ]
    ]

pub among : (fits : ℕ → Bool) (word : List ℕ) → fits (length word) ≡ true → object_named NEWEST word ≡ named_among fits word
unfolding object_named named_among
among fits word fit = find-among (λ o. has_object NEWEST o && bytes_eq (name_of o) word) (λ o. bytes_eq word (name_of o)) (λ o. fits (length (name_of o)))
    (λ o. eq-turned (name_of o) word)
    (λ o e. ap (λ (w : List ℕ). fits (length w)) (sym ((bytes_eq-Decides word (name_of o)).0 e)) ∙ fit) objects
