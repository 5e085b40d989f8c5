-- What comes after a phase in the order of a ring, where none is listed twice. For the laws that called phases are
-- served, in free operation and in patterns.
use Rattle.std.proofs.Common.{◌≡◌, ◌≢◌, ℕ, ◌==◌, Bool, true, false, not, ◌||◌, List, [], ◌∷◌, Option, Some, None, refl, sym, ap, inl, inr, ◌⊎◌, ◌∙◌}
use Rattle.std.proofs.lemmas.Bool.{cases_Bool, and_parts, or_cases, eqb-true, eq-eqb, true≢false, false≢true}
use Rattle.tsb_step.specs.tsb_types.Lists.{first, among, after, later}
use Rattle.tsb_step.specs.tsb_rules.SequenceRules.{lists_once}
use Rattle.tsb_step.proofs.tsb_ring.WantLemmas.{after-among}

-- ## Lists without repeats

-- the head of a list is not in its tail
pub head_once : (x : ℕ) (xs : List ℕ) → x ≢ 0 → lists_once (x ∷ xs) ≡ true → among x xs ≡ false
head_once x xs some h = go (x == 0) (among x xs) refl refl (and_parts (x == 0 || not (among x xs)) (lists_once xs) h).0
  where
    go : (z a : Bool) → (x == 0) ≡ z → among x xs ≡ a → (z || not a) ≡ true → among x xs ≡ false
    go true a k l m = absurd (some (eqb-true x 0 k))
    go false true k l m = absurd (false≢true m)
    go false false k l m = l

pub tail_once : (x : ℕ) (xs : List ℕ) → lists_once (x ∷ xs) ≡ true → lists_once xs ≡ true
tail_once x xs h = (and_parts (x == 0 || not (among x xs)) (lists_once xs) h).1

-- what is in the tail is not the head
not_head : (y x : ℕ) (xs : List ℕ) → x ≢ 0 → lists_once (y ∷ xs) ≡ true → among x xs ≡ true → (y == x) ≡ false
not_head y x xs some h k = go (y == x) refl
  where
    go : (b : Bool) → (y == x) ≡ b → (y == x) ≡ false
    go false e = e
    go true e =
        let same : y ≡ x = eqb-true y x e in
        absurd (true≢false (sym k ∙ ap (λ (z : ℕ). among z xs) (sym same) ∙ head_once y xs (λ zero_is. some (sym same ∙ zero_is)) h))

after_tail : (y x : ℕ) (xs : List ℕ) → (y == x) ≡ false → after x (y ∷ xs) ≡ after x xs
after_tail y x xs e = rw e refl

pub among_tail : (y x : ℕ) (xs : List ℕ) → among x xs ≡ true → among x (y ∷ xs) ≡ true
among_tail y x xs h = go (y == x)
  where
    go : (b : Bool) → (b || among x xs) ≡ true
    go true = refl
    go false = h

-- ## What is still to come once a phase has its turn

after_within : (l x : ℕ) (xs : List ℕ) → x ≢ 0 → lists_once xs ≡ true → among x (after l xs) ≡ true → after x xs ≡ after x (after l xs)
after_within l x [] some o k = refl
after_within l x (y ∷ ys) some o k =
    elim (cases_Bool (y == l)) [
      | inl e ↦ rw e (after_tail y x ys (not_head y x ys some o (rw e at k)))
      | inr e ↦ rw e (after_tail y x ys (not_head y x ys some o (after-among l x ys (rw e at k)))
          ∙ after_within l x ys some (tail_once y ys o) (rw e at k))
    ]

-- a phase that comes later than `last`: what comes after it comes after it in the whole order too
pub after_later : (last : Option ℕ) (x : ℕ) (ps : List ℕ) → x ≢ 0 → lists_once ps ≡ true → among x (later last ps) ≡ true →
    after x ps ≡ after x (later last ps)
after_later None x ps some once h = refl
after_later (Some l) x ps some once h = after_within l x ps some once h

before_head : (c q y : ℕ) (ys : List ℕ) → y ≡ c → among q (y ∷ ys) ≡ true → (c ≡ q) ⊎ (among q (after c (y ∷ ys)) ≡ true)
before_head c q y ys same there =
    elim (or_cases (y == q) (among q ys) there) [
      | inl k ↦ inl (sym same ∙ eqb-true y q k)
      | inr k ↦ inr (rw (eq-eqb y c same) k)
    ]

before_tail : (c q y : ℕ) (ys : List ℕ) → (c ≡ q) ⊎ (among q (after c ys) ≡ true) → (c ≡ q) ⊎ (among q (after c (y ∷ ys)) ≡ true)
before_tail c q y ys (inl k) = inl k
before_tail c q y ys (inr k) =
    elim (cases_Bool (y == c)) [ inl e ↦ inr (rw e (after-among c q ys k)) | inr e ↦ inr (rw e k) ]

-- the first that passes a test comes no later than any that does
pub first_before : (test : ℕ → Bool) (c q : ℕ) (ps : List ℕ) → first test ps ≡ Some c → among q ps ≡ true → test q ≡ true →
    (c ≡ q) ⊎ (among q (after c ps) ≡ true)
first_before test c q [] h there passes = absurd (false≢true there)
first_before test c q (y ∷ ys) h there passes =
    elim (cases_Bool (test y)) [
      | inl e ↦ (let some : Some y ≡ Some c = rw e at h in let same : y ≡ c = cc in before_head c q y ys same there)
      | inr e ↦ elim (or_cases (y == q) (among q ys) there) [
        | inl k ↦ absurd (true≢false (sym passes ∙ ap test (sym (eqb-true y q k)) ∙ e))
        | inr k ↦ before_tail c q y ys (first_before test c q ys (rw e at h) k passes)
      ]
    ]

-- and what is still to come then: q, unless it is the first that passes the test
pub still_later : (test : ℕ → Bool) (last : Option ℕ) (c q : ℕ) (ps : List ℕ) → c ≢ 0 → lists_once ps ≡ true →
    first test (later last ps) ≡ Some c → among c (later last ps) ≡ true → among q (later last ps) ≡ true → test q ≡ true →
    (c ≡ q) ⊎ (among q (later (Some c) ps) ≡ true)
still_later test last c q ps some once h here there passes =
    elim (first_before test c q (later last ps) h there passes) [
      | inl same ↦ inl same
      | inr k ↦ inr (rw (after_later last c ps some once here) k)
    ]
