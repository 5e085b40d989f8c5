-- The five lists of intervals, where one at most names an overlap, and the interval that they give.
use Rattle.std.proofs.Common.{zero, suc, ◌≡◌, ℕ, ◌<◌, ◌==◌, Bool, true, false, List, refl, sym, ◌∙◌, arith, inl, inr}
use Rattle.std.proofs.lemmas.Bool.Decides.{eqb_tells, nat_tests}
use Rattle.tsb_overlap.specs.declared.parts.OverlapInterval.{OverlapInterval}
use Rattle.tsb_overlap.specs.declared.parts.OverlapInterval.TheVariants.{Red, Green, TrailGreen, Flashing, Yellow, RedClear}
use Rattle.tsb_overlap.specs.Cells.{listed, interval_by, interval_in}
use Rattle.tsb_overlap.specs.Parts.{is_list, IsInOne}

-- ## Lists that name an overlap by its interval

by-lists : (a b c d e : Bool) (i : OverlapInterval) → a ≡ is_list 0 i → b ≡ is_list 1 i → c ≡ is_list 2 i → d ≡ is_list 3 i → e ≡ is_list 4 i →
    interval_by a b c d e ≡ i
by-lists a b c d e Red p q r s t = rw (p, q, r, s, t) refl
by-lists a b c d e Green p q r s t = rw p refl
by-lists a b c d e TrailGreen p q r s t = rw (p, q) refl
by-lists a b c d e Flashing p q r s t = rw (p, q, r) refl
by-lists a b c d e Yellow p q r s t = rw (p, q, r, s) refl
by-lists a b c d e RedClear p q r s t = rw (p, q, r, s, t) refl

-- an overlap that the lists name by an interval is in it
pub interval-put : (row : List ℕ) (o : ℕ) (i : OverlapInterval) → ((k : ℕ) → k < 5 → listed row k o ≡ is_list k i) → interval_in row o ≡ i
unfolding interval_in
interval-put row o i named =
    by-lists (listed row 0 o) (listed row 1 o) (listed row 2 o) (listed row 3 o) (listed row 4 o) i
    (named 0 (omega arith)) (named 1 (omega arith)) (named 2 (omega arith)) (named 3 (omega arith)) (named 4 (omega arith))

not-this : (n j k : ℕ) → j < k → (j == n) ≡ true → (k == n) ≡ false
not-this n j k less here =
    elim (eqb_tells k n) [
      | inl same ↦ (let at : j ≡ n = grind (arith, nat_tests, here) in absurd (omega (arith, at, same.1, less)))
      | inr other ↦ other.0
    ]

-- one list at most is that of an interval
pub one-list : (i : OverlapInterval) (j k : ℕ) → j < k → is_list j i ≡ true → is_list k i ≡ false
one-list Red j k less here = refl
one-list Green j k less here = not-this 0 j k less here
one-list TrailGreen j k less here = not-this 1 j k less here
one-list Flashing j k less here = not-this 2 j k less here
one-list Yellow j k less here = not-this 3 j k less here
one-list RedClear j k less here = not-this 4 j k less here

-- so one list at most names it
pub in-one-put : (row : List ℕ) (o : ℕ) (i : OverlapInterval) → ((k : ℕ) → k < 5 → listed row k o ≡ is_list k i) → IsInOne row o
in-one-put row o i named j k less below here =
    named k below ∙ one-list i j k less (sym (named j (omega (arith, less, below))) ∙ here)

-- ## The interval of an overlap that one list at most names

list-0 : (a b c d e : Bool) → is_list 0 (interval_by a b c d e) ≡ a
list-0 true b c d e = refl
list-0 false true c d e = refl
list-0 false false true d e = refl
list-0 false false false true e = refl
list-0 false false false false true = refl
list-0 false false false false false = refl

list-1 : (a b c d e : Bool) → (a ≡ true → b ≡ false) → is_list 1 (interval_by a b c d e) ≡ b
list-1 true b c d e one = sym (one refl)
list-1 false true c d e one = refl
list-1 false false true d e one = refl
list-1 false false false true e one = refl
list-1 false false false false true one = refl
list-1 false false false false false one = refl

list-2 : (a b c d e : Bool) → (a ≡ true → c ≡ false) → (b ≡ true → c ≡ false) → is_list 2 (interval_by a b c d e) ≡ c
list-2 true b c d e one two = sym (one refl)
list-2 false true c d e one two = sym (two refl)
list-2 false false true d e one two = refl
list-2 false false false true e one two = refl
list-2 false false false false true one two = refl
list-2 false false false false false one two = refl

list-3 : (a b c d e : Bool) → (a ≡ true → d ≡ false) → (b ≡ true → d ≡ false) → (c ≡ true → d ≡ false) → is_list 3 (interval_by a b c d e) ≡ d
list-3 true b c d e one two three = sym (one refl)
list-3 false true c d e one two three = sym (two refl)
list-3 false false true d e one two three = sym (three refl)
list-3 false false false true e one two three = refl
list-3 false false false false true one two three = refl
list-3 false false false false false one two three = refl

list-4 : (a b c d e : Bool) → (a ≡ true → e ≡ false) → (b ≡ true → e ≡ false) → (c ≡ true → e ≡ false) → (d ≡ true → e ≡ false) →
    is_list 4 (interval_by a b c d e) ≡ e
list-4 true b c d e one two three four = sym (one refl)
list-4 false true c d e one two three four = sym (two refl)
list-4 false false true d e one two three four = sym (three refl)
list-4 false false false true e one two three four = sym (four refl)
list-4 false false false false true one two three four = refl
list-4 false false false false false one two three four = refl

-- the lists name an overlap by the interval that is read in them
pub interval-listed : (row : List ℕ) (o : ℕ) → IsInOne row o → (k : ℕ) → k < 5 → listed row k o ≡ is_list k (interval_in row o)
unfolding interval_in
interval-listed row o one zero below = sym (list-0 (listed row 0 o) (listed row 1 o) (listed row 2 o) (listed row 3 o) (listed row 4 o))
interval-listed row o one (suc zero) below =
    sym (list-1 (listed row 0 o) (listed row 1 o) (listed row 2 o) (listed row 3 o) (listed row 4 o) (one 0 1 (omega arith) (omega arith)))
interval-listed row o one (suc (suc zero)) below =
    sym (list-2 (listed row 0 o) (listed row 1 o) (listed row 2 o) (listed row 3 o) (listed row 4 o)
    (one 0 2 (omega arith) (omega arith)) (one 1 2 (omega arith) (omega arith)))
interval-listed row o one (suc (suc (suc zero))) below =
    sym (list-3 (listed row 0 o) (listed row 1 o) (listed row 2 o) (listed row 3 o) (listed row 4 o)
    (one 0 3 (omega arith) (omega arith)) (one 1 3 (omega arith) (omega arith)) (one 2 3 (omega arith) (omega arith)))
interval-listed row o one (suc (suc (suc (suc zero)))) below =
    sym (list-4 (listed row 0 o) (listed row 1 o) (listed row 2 o) (listed row 3 o) (listed row 4 o)
    (one 0 4 (omega arith) (omega arith)) (one 1 4 (omega arith) (omega arith)) (one 2 4 (omega arith) (omega arith)) (one 3 4 (omega arith) (omega arith)))
interval-listed row o one (suc (suc (suc (suc (suc k))))) below = absurd (omega arith)

pub same-lists : (a a' b b' c c' d d' e e' : Bool) → a ≡ a' → b ≡ b' → c ≡ c' → d ≡ d' → e ≡ e' → interval_by a b c d e ≡ interval_by a' b' c' d' e'
same-lists a a' b b' c c' d d' e e' p q r s t = rw (p, q, r, s, t) refl

pub not-both : (b : Bool) → b ≡ true → b ≡ false → ⊥
not-both b p q = cc
