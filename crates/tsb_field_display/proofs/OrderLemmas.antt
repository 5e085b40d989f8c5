-- The events of a session are in order, and each is told once.
use Rattle.std.proofs.Common.{◌≡◌, ◌∙◌, ◌⊎◌, ℕ, ◌<◌, Bool, true, false, ◌&&◌, ◌||◌, List, [], ◌∷◌, filter, ltb, eqb, refl, sym, ap, arith, inl, inr, subst}
use Rattle.std.proofs.lemmas.Bool.{cases_Bool, true≢false}
use Rattle.tsb_types.specs.Lists.{among}
use Rattle.std.proofs.lemmas.Bool.Decides.{nat_tests}
use Rattle.std.specs.List.{All}
use Rattle.std.proofs.lemmas.List.Elements.{All-nil, All-cons, All-head, All-tail, All-append, All-weaker}
use Rattle.tsb_types.specs.declared.event.Event.{Event}
use Rattle.tsb_field_display.specs.Merge.{comes_before, ahead_of, not_ahead_of, merged}
use Rattle.tsb_field_display.specs.SessionLaws.{IsBefore, AreInOrder, is_of_input}

-- ## What the test tells

tells : (t u c d p q : ℕ) → (ltb t u || eqb t u && (ltb c d || eqb c d && ltb p q)) ≡ true →
    (t < u) ⊎ ((t ≡ u) × ((c < d) ⊎ ((c ≡ d) × (p < q))))
tells t u c d p q e = grind (arith, nat_tests)

tells-not : (t u c d p q : ℕ) → (ltb t u || eqb t u && (ltb c d || eqb c d && ltb p q)) ≡ false → (c ≡ d → ⊥) →
    (u < t) ⊎ ((u ≡ t) × ((d < c) ⊎ ((d ≡ c) × (q < p))))
tells-not t u c d p q e other = grind (arith, nat_tests)

follows : (a b : Event) → comes_before a b ≡ true → IsBefore a b
follows a b e = tells a.tick b.tick a.code b.code a.parameter b.parameter e

follows-not : (a b : Event) → comes_before a b ≡ false → (a.code ≡ b.code → ⊥) → IsBefore b a
follows-not a b e other = tells-not a.tick b.tick a.code b.code a.parameter b.parameter e other

chain : (t u v c d f p q r : ℕ) → (t < u) ⊎ ((t ≡ u) × ((c < d) ⊎ ((c ≡ d) × (p < q)))) →
    (u < v) ⊎ ((u ≡ v) × ((d < f) ⊎ ((d ≡ f) × (q < r)))) → (t < v) ⊎ ((t ≡ v) × ((c < f) ⊎ ((c ≡ f) × (p < r))))
chain t u v c d f p q r one other = grind arith

before-chain : (a b e : Event) → IsBefore a b → IsBefore b e → IsBefore a e
before-chain a b e one other = chain a.tick b.tick e.tick a.code b.code e.code a.parameter b.parameter e.parameter one other

-- ## One event after the other

-- the first of the others comes before it
then-other : (e y : Event) (es ys : List Event) → comes_before y e ≡ true → merged (e ∷ es) (y ∷ ys) ≡ y ∷ merged (e ∷ es) ys
then-other e y es ys before = rw before refl

-- it comes before the others
then-it : (e y : Event) (es ys : List Event) → comes_before y e ≡ false → merged (e ∷ es) (y ∷ ys) ≡ e ∷ merged es (y ∷ ys)
then-it e y es ys before = rw before refl

-- ## What all events are

ahead-all : (P : Event → Type 0) (e : Event) (ys : List Event) → All P ys → All P (ahead_of e ys)
ahead-all P e [] all = all
ahead-all P e (y ∷ ys) all = elim (cases_Bool (comes_before y e)) [
  | inl passes ↦ rw passes (All-cons P y (ahead_of e ys) (All-head P y ys all) (ahead-all P e ys (All-tail P y ys all)))
  | inr fails ↦ rw fails (All-nil P)
]

rest-all : (P : Event → Type 0) (e : Event) (ys : List Event) → All P ys → All P (not_ahead_of e ys)
rest-all P e [] all = all
rest-all P e (y ∷ ys) all = elim (cases_Bool (comes_before y e)) [
  | inl passes ↦ rw passes (rest-all P e ys (All-tail P y ys all))
  | inr fails ↦ rw fails all
]

merged-all : (P : Event → Type 0) (es ys : List Event) → All P es → All P ys → All P (merged es ys)
merged-all P [] ys one other = other
merged-all P (e ∷ es) ys one other =
    All-append P (ahead_of e ys) (e ∷ merged es (not_ahead_of e ys)) (ahead-all P e ys other)
    (All-cons P e (merged es (not_ahead_of e ys)) (All-head P e es one)
    (merged-all P es (not_ahead_of e ys) (All-tail P e es one) (rest-all P e ys other)))

-- ## Order

-- a code of one and a code of the other
apart : (a b : Event) → is_of_input a ≡ true → is_of_input b ≡ false → a.code ≡ b.code → ⊥
apart a b one other same =
    true≢false (sym one ∙ ap (λ (code : ℕ). among code (81 ∷ 82 ∷ 89 ∷ 90 ∷ 102 ∷ 104 ∷ [])) same ∙ other)

pub before-all : (a b : Event) (es : List Event) → IsBefore a b → All (IsBefore b) es → All (IsBefore a) es
before-all a b es one all = All-weaker (IsBefore b) (IsBefore a) (λ e behind. before-chain a b e one behind) es all

order-first : (e : Event) (es : List Event) → All (IsBefore e) es → All (λ x. is_of_input x ≡ false) (e ∷ es) →
    ((ys : List Event) → AreInOrder ys → All (λ x. is_of_input x ≡ true) ys → AreInOrder (merged es ys)) →
    (ys : List Event) → AreInOrder ys → All (λ x. is_of_input x ≡ true) ys → AreInOrder (merged (e ∷ es) ys)
order-first e es first others rest [] order inputs =
    (merged-all (IsBefore e) es [] first (All-nil (IsBefore e)), rest [] order inputs)
order-first e es first others rest (y ∷ ys) order inputs = elim (cases_Bool (comes_before y e)) [
  | inl passes ↦
      let earlier : IsBefore y e = follows y e passes in
      let later : AreInOrder (merged (e ∷ es) ys) = order-first e es first others rest ys order.1 (All-tail (λ x. is_of_input x ≡ true) y ys inputs) in
      subst AreInOrder (sym (then-other e y es ys passes))
      (merged-all (IsBefore y) (e ∷ es) ys (All-cons (IsBefore y) e es earlier (before-all y e es earlier first)) order.0, later)
  | inr fails ↦
      let earlier : IsBefore e y = follows-not y e fails
      (apart y e (All-head (λ x. is_of_input x ≡ true) y ys inputs) (All-head (λ x. is_of_input x ≡ false) e es others)) in
      subst AreInOrder (sym (then-it e y es ys fails))
      (merged-all (IsBefore e) es (y ∷ ys) first (All-cons (IsBefore e) y ys earlier (before-all e y ys earlier order.0)), rest (y ∷ ys) order inputs)
]

pub merged-order : (es ys : List Event) → AreInOrder es → AreInOrder ys → All (λ x. is_of_input x ≡ false) es →
    All (λ x. is_of_input x ≡ true) ys → AreInOrder (merged es ys)
merged-order [] ys one other others inputs = other
merged-order (e ∷ es) ys one other others inputs =
    order-first e es one.0 others (λ zs order all. merged-order es zs one.1 order (All-tail (λ x. is_of_input x ≡ false) e es others) all) ys other inputs

-- ## What is kept of a merge

kept-first : (test : Event → Bool) (e : Event) (es fs : List Event) → test e ≡ true → filter test es ≡ fs → filter test (e ∷ es) ≡ e ∷ fs
kept-first test e es fs passes same = rw passes (ap (λ (xs : List Event). e ∷ xs) same)

left-first : (test : Event → Bool) (e : Event) (es fs : List Event) → test e ≡ false → filter test es ≡ fs → filter test (e ∷ es) ≡ fs
left-first test e es fs fails same = rw fails same

kept-all : (test : Event → Bool) (es : List Event) → All (λ x. test x ≡ true) es → filter test es ≡ es
kept-all test [] all = refl
kept-all test (e ∷ es) all =
    kept-first test e es es (All-head (λ x. test x ≡ true) e es all) (kept-all test es (All-tail (λ x. test x ≡ true) e es all))

left-all : (test : Event → Bool) (es : List Event) → All (λ x. test x ≡ false) es → filter test es ≡ []
left-all test [] all = refl
left-all test (e ∷ es) all =
    left-first test e es [] (All-head (λ x. test x ≡ false) e es all) (left-all test es (All-tail (λ x. test x ≡ false) e es all))

-- what a test keeps of a merge, of which one passes none of the first list and the other all of the second, or the other way round
keep-other-first : (test : Event → Bool) (e : Event) (es : List Event) → test e ≡ false →
    ((ys : List Event) → All (λ x. test x ≡ true) ys → filter test (merged es ys) ≡ ys) →
    (ys : List Event) → All (λ x. test x ≡ true) ys → filter test (merged (e ∷ es) ys) ≡ ys
keep-other-first test e es fails rest [] all = left-first test e (merged es []) [] fails (rest [] all)
keep-other-first test e es fails rest (y ∷ ys) all = elim (cases_Bool (comes_before y e)) [
  | inl before ↦
      ap (filter test) (then-other e y es ys before)
      ∙ kept-first test y (merged (e ∷ es) ys) ys (All-head (λ x. test x ≡ true) y ys all)
      (keep-other-first test e es fails rest ys (All-tail (λ x. test x ≡ true) y ys all))
  | inr behind ↦ ap (filter test) (then-it e y es ys behind) ∙ left-first test e (merged es (y ∷ ys)) (y ∷ ys) fails (rest (y ∷ ys) all)
]

pub keep-other : (test : Event → Bool) (es ys : List Event) → All (λ x. test x ≡ false) es → All (λ x. test x ≡ true) ys →
    filter test (merged es ys) ≡ ys
keep-other test [] ys none all = kept-all test ys all
keep-other test (e ∷ es) ys none all =
    keep-other-first test e es (All-head (λ x. test x ≡ false) e es none)
    (λ zs each. keep-other test es zs (All-tail (λ x. test x ≡ false) e es none) each) ys all

keep-it-first : (test : Event → Bool) (e : Event) (es : List Event) → test e ≡ true →
    ((ys : List Event) → All (λ x. test x ≡ false) ys → filter test (merged es ys) ≡ es) →
    (ys : List Event) → All (λ x. test x ≡ false) ys → filter test (merged (e ∷ es) ys) ≡ e ∷ es
keep-it-first test e es passes rest [] all = kept-first test e (merged es []) es passes (rest [] all)
keep-it-first test e es passes rest (y ∷ ys) all = elim (cases_Bool (comes_before y e)) [
  | inl before ↦
      ap (filter test) (then-other e y es ys before)
      ∙ left-first test y (merged (e ∷ es) ys) (e ∷ es) (All-head (λ x. test x ≡ false) y ys all)
      (keep-it-first test e es passes rest ys (All-tail (λ x. test x ≡ false) y ys all))
  | inr behind ↦ ap (filter test) (then-it e y es ys behind) ∙ kept-first test e (merged es (y ∷ ys)) es passes (rest (y ∷ ys) all)
]

pub keep-it : (test : Event → Bool) (es ys : List Event) → All (λ x. test x ≡ true) es → All (λ x. test x ≡ false) ys →
    filter test (merged es ys) ≡ es
keep-it test [] ys all none = left-all test ys none
keep-it test (e ∷ es) ys all none =
    keep-it-first test e es (All-head (λ x. test x ≡ true) e es all)
    (λ zs each. keep-it test es zs (All-tail (λ x. test x ≡ true) e es all) each) ys none
