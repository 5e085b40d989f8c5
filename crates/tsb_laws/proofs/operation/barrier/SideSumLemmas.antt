-- Sums over the phases of a list that pass a test, and sides in cyclic order: how many crossings lead from one to another. For
-- the laws that called phases are served, in free operation and in patterns.
use Rattle.std.proofs.Common.{◌≡◌, ◌≢◌, ℕ, nat_le, ◌+◌, ◌-◌, ◌≤◌, ◌==◌, Bool, true, false, not, ◌&&◌, if◌then◌else◌, List, [], ◌∷◌, refl, sym, ap, inl, inr, ◌⊎◌, arith, ◌∙◌}
use Rattle.std.proofs.lemmas.Bool.{and_parts, or_cases, eqb-true, eq-eqb, leb-true, leb-false, lt-leb, true≢false, false≢true, and_from}
use Rattle.tsb_step.specs.tsb_types.Lists.{among}
use Rattle.tsb_step.specs.tsb_plan.Plan.{Plan, is_enabled, side_of}
use Rattle.tsb_step.specs.tsb_rules.SequenceRules.{lists_once}
use Rattle.tsb_step.specs.tsb_ring.Wants.{is_on_side}
use Rattle.tsb_laws.proofs.operation.step.TurnListLemmas.{head_once, tail_once, among_tail}

-- ## What passes a test

abbrev pub sum_of : (ℕ → Bool) → (ℕ → ℕ) → List ℕ → ℕ
sum_of test f [] = 0
sum_of test f (p ∷ ps) = (if test p then f p else 0) + sum_of test f ps

-- two tests that nothing passes both
pub sum_apart : (a b c : ℕ → Bool) (f : ℕ → ℕ) (ps : List ℕ) → ((p : ℕ) → among p ps ≡ true → a p ≡ true → c p ≡ true) →
    ((p : ℕ) → among p ps ≡ true → b p ≡ true → c p ≡ true) → ((p : ℕ) → a p ≡ true → b p ≡ true → ⊥) →
    sum_of a f ps + sum_of b f ps ≤ sum_of c f ps
sum_apart a b c f [] one two apart = omega arith
sum_apart a b c f (p ∷ ps) one two apart =
    go (sum_apart a b c f ps (λ x k h. one x (among_tail p x ps k) h) (λ x k h. two x (among_tail p x ps k) h) apart) (a p) (b p) (c p) refl refl refl
  where
    mine : among p (p ∷ ps) ≡ true
    mine = rw (eq-eqb p p refl) refl

    go : sum_of a f ps + sum_of b f ps ≤ sum_of c f ps → (x y z : Bool) → a p ≡ x → b p ≡ y → c p ≡ z →
        sum_of a f (p ∷ ps) + sum_of b f (p ∷ ps) ≤ sum_of c f (p ∷ ps)
    go rest true true z e g k = absurd (apart p e g)
    go rest true false true e g k = rw (e, g, k) (omega (arith, rest))
    go rest true false false e g k = absurd (true≢false (sym (one p mine e) ∙ k))
    go rest false true true e g k = rw (e, g, k) (omega (arith, rest))
    go rest false true false e g k = absurd (true≢false (sym (two p mine g) ∙ k))
    go rest false false true e g k = rw (e, g, k) (omega (arith, rest))
    go rest false false false e g k = rw (e, g, k) (omega (arith, rest))

-- a test that lets no more pass
pub sum_more : (a c : ℕ → Bool) (f : ℕ → ℕ) (ps : List ℕ) → ((p : ℕ) → a p ≡ true → c p ≡ true) → sum_of a f ps ≤ sum_of c f ps
sum_more a c f ps one =
    let both = sum_apart a (λ p. false) c f ps (λ p k h. one p h) (λ p k h. absurd (false≢true h)) (λ p h g. false≢true g) in omega (arith, both)

sum_one : (test : ℕ → Bool) (f : ℕ → ℕ) (e : ℕ) (ps : List ℕ) → among e ps ≡ true → test e ≡ true → f e ≤ sum_of test f ps
sum_one test f e [] there h = absurd (false≢true there)
sum_one test f e (p ∷ ps) there h =
    elim (or_cases (p == e) (among e ps) there) [
      | inl same ↦ (let mine : (if test p then f p else 0) ≡ f e = ap (λ (x : ℕ). if test x then f x else 0) (eqb-true p e same) ∙ rw h refl in omega (arith, mine))
      | inr k ↦ (let rest = sum_one test f e ps k h in omega (arith, rest))
    ]

-- a list in which none is twice has no more than one that has all of it
pub sum_within : (test : ℕ → Bool) (f : ℕ → ℕ) (base ps : List ℕ) → test 0 ≡ false → lists_once ps ≡ true →
    ((p : ℕ) → among p ps ≡ true → p ≢ 0 → among p base ≡ true) → sum_of test f ps ≤ sum_of (λ p. among p ps && test p) f base
sum_within test f base [] zero_out once there = omega arith
sum_within test f base (y ∷ ys) zero_out once there =
    go (sum_within test f base ys zero_out (tail_once y ys once) (λ p k some. there p (among_tail y p ys k) some)) (test y) refl
  where
    wider : (p : ℕ) → (among p ys && test p) ≡ true → (among p (y ∷ ys) && test p) ≡ true
    wider p h = let both = and_parts (among p ys) (test p) h in and_from (among p (y ∷ ys)) (test p) (among_tail y p ys both.0) both.1

    head : (p : ℕ) → (y == p) ≡ true → among p (y ∷ ys) ≡ true
    head p h = rw h refl

    go : sum_of test f ys ≤ sum_of (λ p. among p ys && test p) f base → (b : Bool) → test y ≡ b →
        sum_of test f (y ∷ ys) ≤ sum_of (λ p. among p (y ∷ ys) && test p) f base
    go rest false e =
        let more = sum_more (λ p. among p ys && test p) (λ p. among p (y ∷ ys) && test p) f base wider in rw e (omega (arith, rest, more))
    go rest true e =
        let some : y ≢ 0 = λ zero_is. true≢false (sym e ∙ ap test zero_is ∙ zero_out) in
        let one = sum_one (λ p. y == p) f y base (there y (head y (eq-eqb y y refl)) some) (eq-eqb y y refl) in
        let both = sum_apart (λ p. y == p) (λ p. among p ys && test p) (λ p. among p (y ∷ ys) && test p) f base
        (λ p k h. and_from (among p (y ∷ ys)) (test p) (head p h) (ap test (sym (eqb-true y p h)) ∙ e))
        (λ p k h. wider p h)
        (λ p h g. true≢false (sym (and_parts (among p ys) (test p) g).0 ∙ ap (λ (x : ℕ). among x ys) (sym (eqb-true y p h)) ∙ head_once y ys some once)) in
        rw e (omega (arith, rest, one, both))

-- ## Sides in cyclic order

-- how many crossings lead from side d to side x, where each side is crossed to; all n of them where these are the same
abbrev pub away : ℕ → ℕ → ℕ → ℕ
away n d x = if nat_le x d then x + n - d else x - d

pub away_is : (n d x : ℕ) → ((x ≤ d) × (away n d x ≡ x + n - d)) ⊎ ((d + 1 ≤ x) × (away n d x ≡ x - d))
away_is n d x = go (nat_le x d) refl
  where
    go : (b : Bool) → nat_le x d ≡ b → ((x ≤ d) × (away n d x ≡ x + n - d)) ⊎ ((d + 1 ≤ x) × (away n d x ≡ x - d))
    go true e = inl (leb-true x d e, rw e refl)
    go false e = let over = leb-false x d e in inr (omega (arith, over), rw e refl)

-- a number of one of n sides
pub record IsSide (n d : ℕ) : Type 0 where
  pub from_one : 1 ≤ d
  pub within : d ≤ n

pub away_itself : (n d : ℕ) → away n d d ≡ n
away_itself n d =
    elim (away_is n d d) [
      | inl h ↦ (let it : away n d d ≡ d + n - d = h.1 in omega (arith, it))
      | inr h ↦ (let bad : d + 1 ≤ d = h.0 in omega (arith, bad))
    ]

pub away_most : (n d x : ℕ) → IsSide n d → IsSide n x → away n d x ≤ n
away_most n d x one two =
    let low = one.from_one in let high = two.within in
    elim (away_is n d x) [
      | inl h ↦ (let it : away n d x ≡ x + n - d = h.1 in let under : x ≤ d = h.0 in omega (arith, it, under))
      | inr h ↦ (let it : away n d x ≡ x - d = h.1 in omega (arith, it, high))
    ]

pub away_some : (n d x : ℕ) → IsSide n d → IsSide n x → 1 ≤ away n d x
away_some n d x one two =
    let low = two.from_one in let high = one.within in
    elim (away_is n d x) [
      | inl h ↦ (let it : away n d x ≡ x + n - d = h.1 in omega (arith, it, low, high))
      | inr h ↦ (let it : away n d x ≡ x - d = h.1 in let over : d + 1 ≤ x = h.0 in omega (arith, it, over))
    ]

-- another side is not so far
pub away_other : (n d e : ℕ) → IsSide n d → IsSide n e → e ≢ d → away n d e + 1 ≤ n
away_other n d e one two other =
    let low = one.from_one in let high = two.within in
    elim (away_is n d e) [
      | inl h ↦ (let it : away n d e ≡ e + n - d = h.1 in let under : e ≤ d = h.0 in let most = one.within in omega (arith, it, under, other, most))
      | inr h ↦ (let it : away n d e ≡ e - d = h.1 in let over : d + 1 ≤ e = h.0 in omega (arith, it, over, low, high))
    ]

-- and two sides are not equally far
pub away_apart : (n d e t : ℕ) → IsSide n d → IsSide n e → IsSide n t → e ≢ t → away n d e ≢ away n d t
away_apart n d e t one two three other same =
    let low_e = two.from_one in let high_e = two.within in let low_t = three.from_one in let high_t = three.within in let high_d = one.within in
    elim (away_is n d e) [
      | inl h ↦ (let first : away n d e ≡ e + n - d = h.1 in
          elim (away_is n d t) [
            | inl g ↦ (let second : away n d t ≡ t + n - d = g.1 in omega (arith, same, first, second, other, high_d))
            | inr g ↦ (let second : away n d t ≡ t - d = g.1 in omega (arith, same, first, second, low_e, high_t, high_d))
          ])
      | inr h ↦ (let first : away n d e ≡ e - d = h.1 in let over : d + 1 ≤ e = h.0 in
          elim (away_is n d t) [
            | inl g ↦ (let second : away n d t ≡ t + n - d = g.1 in omega (arith, same, first, second, high_e, low_t, high_d))
            | inr g ↦ (let second : away n d t ≡ t - d = g.1 in let over_t : d + 1 ≤ t = g.0 in omega (arith, same, first, second, other, over, over_t))
          ])
    ]

-- x comes before t where one crosses from side d on
abbrev pub is_before : ℕ → ℕ → ℕ → ℕ → Bool
is_before n d t x = not (nat_le (away n d t) (away n d x))

pub before_is : (n d t x : ℕ) → is_before n d t x ≡ true → away n d x + 1 ≤ away n d t
before_is n d t x h = go (nat_le (away n d t) (away n d x)) refl
  where
    go : (b : Bool) → nat_le (away n d t) (away n d x) ≡ b → away n d x + 1 ≤ away n d t
    go true e = absurd (false≢true (rw e at h))
    go false e = let over = leb-false (away n d t) (away n d x) e in omega (arith, over)

pub to_before : (n d t x : ℕ) → away n d x + 1 ≤ away n d t → is_before n d t x ≡ true
to_before n d t x h = rw (lt-leb (away n d t) (away n d x) (omega (arith, h))) refl

-- from a side on the way, the way is shorter by it
pub way_on : (n d e t : ℕ) → IsSide n d → IsSide n e → IsSide n t → e ≢ t → away n d e + 1 ≤ away n d t → away n d e + away n e t ≡ away n d t
way_on n d e t one two three other sooner =
    let low_d = one.from_one in let high_d = one.within in let low_e = two.from_one in let high_e = two.within in let low_t = three.from_one in let high_t = three.within in
    elim (away_is n d e) [
      | inl h ↦ (let first : away n d e ≡ e + n - d = h.1 in let under : e ≤ d = h.0 in
          elim (away_is n d t) [
            | inl g ↦ (let whole : away n d t ≡ t + n - d = g.1 in let below : t ≤ d = g.0 in
                elim (away_is n e t) [
                  | inl k ↦ (let second : away n e t ≡ t + n - e = k.1 in let least : t ≤ e = k.0 in omega (arith, first, whole, second, least, under, below, other, sooner, high_d))
                  | inr k ↦ (let second : away n e t ≡ t - e = k.1 in let least : e + 1 ≤ t = k.0 in omega (arith, first, whole, second, least, under, below, high_d))
                ])
            | inr g ↦ (let whole : away n d t ≡ t - d = g.1 in let over : d + 1 ≤ t = g.0 in omega (arith, first, whole, under, over, sooner, high_d, high_t, low_e))
          ])
      | inr h ↦ (let first : away n d e ≡ e - d = h.1 in let over_e : d + 1 ≤ e = h.0 in
          elim (away_is n d t) [
            | inl g ↦ (let whole : away n d t ≡ t + n - d = g.1 in let below : t ≤ d = g.0 in
                elim (away_is n e t) [
                  | inl k ↦ (let second : away n e t ≡ t + n - e = k.1 in omega (arith, first, whole, second, over_e, below, high_e, high_d))
                  | inr k ↦ (let least : e + 1 ≤ t = k.0 in omega (arith, least, over_e, below))
                ])
            | inr g ↦ (let whole : away n d t ≡ t - d = g.1 in let over : d + 1 ≤ t = g.0 in
                elim (away_is n e t) [
                  | inl k ↦ (let least : t ≤ e = k.0 in omega (arith, first, whole, least, over_e, over, other, sooner))
                  | inr k ↦ (let second : away n e t ≡ t - e = k.1 in let least : e + 1 ≤ t = k.0 in omega (arith, first, whole, second, over_e, over, least))
                ])
          ])
    ]

-- no way is longer than one by another side
way_by : (n d e x : ℕ) → IsSide n d → IsSide n e → IsSide n x → away n d x ≤ away n d e + away n e x
way_by n d e x one two three =
    let low_d = one.from_one in let high_d = one.within in let low_e = two.from_one in let high_e = two.within in let low_x = three.from_one in let high_x = three.within in
    elim (away_is n d e) [
      | inl h ↦ (let first : away n d e ≡ e + n - d = h.1 in let under : e ≤ d = h.0 in
          elim (away_is n d x) [
            | inl g ↦ (let whole : away n d x ≡ x + n - d = g.1 in let below : x ≤ d = g.0 in
                elim (away_is n e x) [
                  | inl k ↦ (let second : away n e x ≡ x + n - e = k.1 in omega (arith, first, whole, second, under, below, high_d, high_e))
                  | inr k ↦ (let second : away n e x ≡ x - e = k.1 in let least : e + 1 ≤ x = k.0 in omega (arith, first, whole, second, least, under, high_d))
                ])
            | inr g ↦ (let whole : away n d x ≡ x - d = g.1 in let over : d + 1 ≤ x = g.0 in
                elim (away_is n e x) [
                  | inl k ↦ (let least : x ≤ e = k.0 in omega (arith, least, under, over))
                  | inr k ↦ (let second : away n e x ≡ x - e = k.1 in let least : e + 1 ≤ x = k.0 in omega (arith, first, whole, second, least, over, under, high_d))
                ])
          ])
      | inr h ↦ (let first : away n d e ≡ e - d = h.1 in let over_e : d + 1 ≤ e = h.0 in
          elim (away_is n d x) [
            | inl g ↦ (let whole : away n d x ≡ x + n - d = g.1 in let below : x ≤ d = g.0 in
                elim (away_is n e x) [
                  | inl k ↦ (let second : away n e x ≡ x + n - e = k.1 in omega (arith, first, whole, second, over_e, high_e, high_d))
                  | inr k ↦ (let least : e + 1 ≤ x = k.0 in omega (arith, least, over_e, below))
                ])
            | inr g ↦ (let whole : away n d x ≡ x - d = g.1 in let over : d + 1 ≤ x = g.0 in
                elim (away_is n e x) [
                  | inl k ↦ (let second : away n e x ≡ x + n - e = k.1 in let least : x ≤ e = k.0 in omega (arith, first, whole, second, least, over_e, over, high_e))
                  | inr k ↦ (let second : away n e x ≡ x - e = k.1 in let least : e + 1 ≤ x = k.0 in omega (arith, first, whole, second, over_e, over, least))
                ])
          ])
    ]

-- what comes before t from there comes before it from here
pub goes_by : (n d e t x : ℕ) → IsSide n d → IsSide n e → IsSide n t → IsSide n x → e ≢ t → away n d e + 1 ≤ away n d t → away n e x + 1 ≤ away n e t →
    away n d x + 1 ≤ away n d t
goes_by n d e t x one two three four other sooner later =
    let whole = way_on n d e t one two three other sooner in let most = way_by n d e x one two four in omega (arith, whole, most, later)

-- ## Phases by sides

-- the enabled phases of a side, and those of the sides that are crossed from d before t
abbrev pub is_here : Plan → ℕ → ℕ → Bool
is_here plan d p = is_enabled plan p && is_on_side plan d p

abbrev pub is_between : Plan → ℕ → ℕ → ℕ → Bool
is_between plan d t p = is_enabled plan p && is_before plan.side_count d t (side_of plan p)
