-- Names tell objects apart, so the object that is found by a name is the only one of it.
use Rattle.std.proofs.Common.{◌≡◌, ℕ, zero, suc, ◌<◌, ◌≤◌, Bool, true, false, ◌&&◌, List, [], ◌∷◌, length, get_or, Some, None, find, map, bytes_eq, if◌then◌else◌, arith, rules, sym, ◌∙◌, ap, subst, ◌↔◌, refl, Decides, inl, inr}
use Rattle.std.proofs.Math.ListN.{get_or-map}
use Rattle.std.proofs.lemmas.Bool.{cases_Bool}
use Rattle.std.proofs.lemmas.Slice.Eq.{bytes_eq-Decides}
use Rattle.tsb_plan.specs.declared.object.Object.{Object}
use Rattle.tsb_plan.specs.declared.object.Object.TheVariants.{PhaseEnabled}
use Rattle.tsb_plan.specs.declared.version.Version.{Version}
use Rattle.tsb_plan.specs.Names.{name_of, object_named, IsNamed}
use Rattle.tsb_plan.specs.Objects.{objects, order}
use Rattle.tsb_plan.specs.Versions.{has_object}
use Rattle.tsb_plan.proofs.TableLemmas.{at-order, order-below, order-injective, length-objects}

-- no name is long
pub short-name : (o : Object) → length (name_of o) ≤ 28
short-name o = search rules

-- the place of the first object with a name
place_in : List Object → List ℕ → ℕ
place_in [] text = 0
place_in (o ∷ os) text = if bytes_eq (name_of o) text then 0 else suc (place_in os text)

-- (computed once for all objects)
places : map (λ o. place_in objects (name_of o)) objects ≡ map order objects
unfolding objects place_in
places = refl

placed : (o : Object) → place_in objects (name_of o) ≡ order o
unfolding objects place_in
placed o =
    let place : Object → ℕ = λ p. place_in objects (name_of p) in
    ap place (sym (at-order o)) ∙ sym (get_or-map place objects (order o) PhaseEnabled)
    ∙ ap (λ (ns : List ℕ). get_or ns (order o) 0) places
    ∙ get_or-map order objects (order o) PhaseEnabled ∙ ap order (at-order o)

pub names-apart : (o p : Object) → name_of o ≡ name_of p → o ≡ p
names-apart o p e = order-injective o p (sym (placed o) ∙ ap (place_in objects) e ∙ placed p)

find-passes : (test : Object → Bool) (os : List Object) (o : Object) → find test os ≡ Some o → test o ≡ true
find-passes test [] o e = absurd (grind arith)
find-passes test (p ∷ os) o e =
    elim (cases_Bool (test p)) [
      | inl passes ↦ grind (arith, passes, e)
      | inr fails ↦ find-passes test os o (grind (arith, fails, e))
    ]

find-none : (test : Object → Bool) (os : List Object) (n : ℕ) → find test os ≡ None → n < length os → test (get_or os n PhaseEnabled) ≡ false
find-none test [] n e within = absurd (omega arith)
find-none test (p ∷ os) zero e within = grind arith
find-none test (p ∷ os) (suc n) e within = find-none test os n (grind arith) (omega arith)

-- the test by which an object is found
is_it : Version → List ℕ → Object → Bool
is_it v text o = has_object v o && bytes_eq (name_of o) text

is_it-Decides : (v : Version) (text : List ℕ) (o : Object) → Decides (is_it v text o) (IsNamed v o text)
unfolding is_it
is_it-Decides v text o =
    let same : Decides (bytes_eq (name_of o) text) (name_of o ≡ text) = bytes_eq-Decides (name_of o) text in
    (λ e. record { has = grind (arith, e); name = same.0 (grind (arith, e)) }, λ h. grind (arith, h.has, same.1 h.name))

pub named_none : (v : Version) (text : List ℕ) → object_named v text ≡ None → (o : Object) → IsNamed v o text → ⊥
unfolding object_named is_it
named_none v text e o h =
    let none : is_it v text (get_or objects (order o) PhaseEnabled) ≡ false =
    find-none (is_it v text) objects (order o) e (rw length-objects (order-below o)) in
    let failed : is_it v text o ≡ false = subst (λ (p : Object). is_it v text p ≡ false) (at-order o) none in
    let passed : is_it v text o ≡ true = (is_it-Decides v text o).1 h in
    grind (arith, failed, passed)

found : (v : Version) (text : List ℕ) (o : Object) → object_named v text ≡ Some o → IsNamed v o text
unfolding object_named is_it
found v text o e = (is_it-Decides v text o).0 (find-passes (is_it v text) objects o e)

pub named_exact : (v : Version) (text : List ℕ) (o : Object) → (object_named v text ≡ Some o) ↔ IsNamed v o text
named_exact v text o = (
  found v text o,
  λ h. elim (object_named v text) as (λ r. object_named v text ≡ r → r ≡ Some o) [
    | None ↦ λ e. absurd (named_none v text e o h)
    | Some p ↦ λ e. ap Some (names-apart p o ((found v text p e).name ∙ sym h.name))
  ] refl,
)
