-- Words of 16 bits in place of values: the entries of a record put back over the words of a plan.
use Rattle.std.proofs.Common.{zero, suc, ◌≡◌, ℕ, ◌+◌, ◌-◌, ◌%◌, ◌<◌, ◌≤◌, ◌&&◌, leb, ltb, true, false, List, [], ◌∷◌, length, get_or, set, map, refl, sym, ap, arith, ◌∙◌}
use Rattle.std.proofs.lemmas.Bool.{cond-true, cond-false}
use Rattle.std.proofs.lemmas.Bool.Decides.{nat_tests}
use Rattle.tsb_cells.specs.Diff.{apply_diff, part}
use Rattle.tsb_cells.proofs.DiffLemmas.{length-apply_diff}
use Rattle.tsb_plan.specs.declared.object.TheConstants.{PLAN_CELLS}
use Rattle.tsb_plan.specs.Objects.{AreInRange}
use Rattle.tsb_plan.proofs.RangeLemmas.{cell-fits}

-- the lower 16 bits
abbrev pub low : ℕ → ℕ
low v = v % 65536

low-set : (xs : List ℕ) (k v : ℕ) → map low (set xs k v) ≡ set (map low xs) k (low v)
low-set [] k v = refl
low-set (x ∷ xs) zero v = refl
low-set (x ∷ xs) (suc k) v = ap (λ (ys : List ℕ). low x ∷ ys) (low-set xs k v)

-- entries put back over rows that agree in these bits leave rows that do
low-apply : (xs ys : List ℕ) (es : List (ℕ × ℕ)) → map low xs ≡ map low ys → map low (apply_diff xs es) ≡ map low (apply_diff ys es)
low-apply xs ys [] same = same
low-apply xs ys (e ∷ es) same =
    low-apply (set xs e.0 e.1) (set ys e.0 e.1) es
    (low-set xs e.0 e.1 ∙ ap (λ (zs : List ℕ). set zs e.0 (low e.1)) same ∙ sym (low-set ys e.0 e.1))

low-twice : (v : ℕ) → low (low v) ≡ low v
low-twice v = omega arith

-- an entry of the first `n` cells comes first in their part
part-taken : (n : ℕ) (e : ℕ × ℕ) (es : List (ℕ × ℕ)) → e.0 < n → part 0 n (e ∷ es) ≡ e ∷ part 0 n es
part-taken n e es within =
    let test : (leb 0 e.0 && ltb e.0 (0 + n)) ≡ true = grind (arith, nat_tests) in
    let cell : e.0 - 0 ≡ e.0 = omega arith in
    cond-true _ ((e.0 - 0, e.1) ∷ part 0 n es) (part 0 n es) test ∙ ap (λ (m : ℕ). (m, e.1) ∷ part 0 n es) cell

-- any other entry is passed over
part-left : (n : ℕ) (e : ℕ × ℕ) (es : List (ℕ × ℕ)) → n ≤ e.0 → part 0 n (e ∷ es) ≡ part 0 n es
part-left n e es above =
    let test : (leb 0 e.0 && ltb e.0 (0 + n)) ≡ false = grind (arith, nat_tests) in
    cond-false _ ((e.0 - 0, e.1) ∷ part 0 n es) (part 0 n es) test

-- the loop that puts entries back puts the lower bits of one of the first `n` cells, or passes over another
pub word-taken : (n : ℕ) (e : ℕ × ℕ) (es all : List (ℕ × ℕ)) (words next whole : List ℕ) → all ≡ e ∷ es → e.0 < n →
    next ≡ set words e.0 (low e.1) → map low (apply_diff words (part 0 n all)) ≡ whole → map low (apply_diff next (part 0 n es)) ≡ whole
word-taken n e es all words next whole found within is so_far =
    let rest : List (ℕ × ℕ) = part 0 n es in
    ap (λ (row : List ℕ). map low (apply_diff row rest)) is
    ∙ low-apply (set words e.0 (low e.1)) (set words e.0 e.1) rest
    (low-set words e.0 (low e.1) ∙ ap (set (map low words) e.0) (low-twice e.1) ∙ sym (low-set words e.0 e.1))
    ∙ sym (ap (λ (fs : List (ℕ × ℕ)). map low (apply_diff words fs)) (ap (part 0 n) found ∙ part-taken n e es within)) ∙ so_far

pub word-left : (n : ℕ) (e : ℕ × ℕ) (es all : List (ℕ × ℕ)) (words whole : List ℕ) → all ≡ e ∷ es → n ≤ e.0 →
    map low (apply_diff words (part 0 n all)) ≡ whole → map low (apply_diff words (part 0 n es)) ≡ whole
word-left n e es all words whole found above so_far =
    sym (ap (λ (fs : List (ℕ × ℕ)). map low (apply_diff words fs)) (ap (part 0 n) found ∙ part-left n e es above)) ∙ so_far

-- each of them is small
pub small-set : (xs : List ℕ) (c v k : ℕ) → v < 65536 → ((j : ℕ) → get_or xs j 0 < 65536) → get_or (set xs c v) k 0 < 65536
small-set [] c v k fits each = each k
small-set (x ∷ xs) zero v zero fits each = fits
small-set (x ∷ xs) zero v (suc k) fits each = each (suc k)
small-set (x ∷ xs) (suc c) v zero fits each = each 0
small-set (x ∷ xs) (suc c) v (suc k) fits each = small-set xs c v k fits (λ j. each (suc j))

low-small : (v : ℕ) → v < 65536 → low v ≡ v
low-small v fits = omega (arith, fits)

-- of small values these bits are all
pub low-whole : (xs : List ℕ) → ((j : ℕ) → get_or xs j 0 < 65536) → map low xs ≡ xs
low-whole [] each = refl
low-whole (x ∷ xs) each = λ j. low-small x (each 0) j ∷ low-whole xs (λ k. each (suc k)) j

-- values up to a length, and 0 behind it
pub small-all : (xs : List ℕ) (n : ℕ) → length xs ≤ n → ((j : ℕ) → j < n → get_or xs j 0 < 65536) → (j : ℕ) → get_or xs j 0 < 65536
small-all [] n most each j = omega arith
small-all (x ∷ xs) zero most each j = absurd (omega (arith, most))
small-all (x ∷ xs) (suc n) most each zero = each 0 (omega arith)
small-all (x ∷ xs) (suc n) most each (suc j) = small-all xs n (omega (arith, most)) (λ k below. each (suc k) (omega (arith, below))) j

-- with no entry left the words are what all of them lead to, where that is in range
pub word-all : (values words : List ℕ) (all left : List (ℕ × ℕ)) → length values ≡ PLAN_CELLS →
    AreInRange (apply_diff values (part 0 PLAN_CELLS all)) → ((k : ℕ) → get_or words k 0 < 65536) → left ≡ [] →
    map low (apply_diff words (part 0 PLAN_CELLS left)) ≡ map low (apply_diff values (part 0 PLAN_CELLS all)) →
    words ≡ apply_diff values (part 0 PLAN_CELLS all)
word-all values words all left full ranged small none rest =
    let whole : List ℕ = apply_diff values (part 0 PLAN_CELLS all) in
    let most : length whole ≤ PLAN_CELLS = omega (arith, length-apply_diff values (part 0 PLAN_CELLS all), full) in
    let each : (j : ℕ) → get_or whole j 0 < 65536 = small-all whole PLAN_CELLS most (λ j below. cell-fits whole j ranged below) in
    sym (low-whole words small)
    ∙ ap (λ (fs : List (ℕ × ℕ)). map low (apply_diff words (part 0 PLAN_CELLS fs))) (sym none)
    ∙ rest ∙ low-whole whole each
