-- The heads that have a letter, by the letters one after the other.
use Rattle.std.proofs.Common.{◌≡◌, ◌≢◌, ◌∙◌, ℕ, ◌+◌, ◌*◌, ◌^◌, ◌<◌, ◌≤◌, ◌==◌, true, false, zero, suc, List, [], ◌∷◌, length, get_or, drop, drop-cons, if◌then◌else◌, refl, sym, ap, arith}
use Rattle.std.specs.Int.{bit_at}
use Rattle.std.proofs.lemmas.Bool.{eqb-true, ne_eqb}
use Rattle.std.proofs.lemmas.Nat.Bits.{bit_at_lowest, bit_at-suc}
use Rattle.tsb_types.specs.Sets.{names, has_number}
use Rattle.tsb_types.proofs.SetLemmas.{names-zero, lowest, higher}
use Rattle.tsb_display_text.specs.tsb_heads.Promises.{IsApart}
use Rattle.tsb_field_display.specs.Reading.{list_with, vehicles_of, pedestrians_of}

-- the first head has this letter where the first letter is this one
pub names-first_letter : (letter b : ℕ) (bs : List ℕ) → names (list_with letter (b ∷ bs)) 1 ≡ (b == letter)
names-first_letter letter b bs = ap (λ n. n == 1) (bit_at_lowest (list_with letter (b ∷ bs))) ∙ lowest (b == letter) (list_with letter bs)

-- a later head has it where it has it among the later letters
pub names-later_letter : (letter b : ℕ) (bs : List ℕ) (k : ℕ) → names (list_with letter (b ∷ bs)) (suc (suc k)) ≡ names (list_with letter bs) (suc k)
names-later_letter letter b bs k =
    ap (λ n. n == 1) (bit_at-suc (list_with letter (b ∷ bs)) k ∙ ap (λ n. bit_at n k) (higher (b == letter) (list_with letter bs)))

-- of each head, whether its letter is this one
pub names-letter : (letter : ℕ) (bs : List ℕ) (k : ℕ) → k < length bs → names (list_with letter bs) (suc k) ≡ (get_or bs k 0 == letter)
names-letter letter [] k below = absurd (omega arith)
names-letter letter (b ∷ bs) zero below = names-first_letter letter b bs
names-letter letter (b ∷ bs) (suc k) below = names-later_letter letter b bs k ∙ names-letter letter bs k (omega arith)

-- there is no head beyond the last letter
pub names-beyond : (letter : ℕ) (bs : List ℕ) (k : ℕ) → length bs ≤ k → names (list_with letter bs) (suc k) ≡ false
names-beyond letter [] k beyond = names-zero (suc k)
names-beyond letter (b ∷ bs) zero beyond = absurd (omega (arith, beyond))
names-beyond letter (b ∷ bs) (suc k) beyond = names-later_letter letter b bs k ∙ names-beyond letter bs k (omega (arith, beyond))

other-letter : (b one other : ℕ) → one ≢ other → (b == one) ≡ true → (b == other) ≡ false
other-letter b one other differ e = ne_eqb b other (λ same. differ (sym (eqb-true b one e) ∙ same))

-- no head has two letters
pub apart-letters : (one other : ℕ) → one ≢ other → (bs : List ℕ) (n : ℕ) → names (list_with one bs) n ≡ true → names (list_with other bs) n ≡ false
apart-letters one other differ bs zero e = refl
apart-letters one other differ [] (suc k) e = names-zero (suc k)
apart-letters one other differ (b ∷ bs) (suc zero) e =
    names-first_letter other b bs ∙ other-letter b one other differ (sym (names-first_letter one b bs) ∙ e)
apart-letters one other differ (b ∷ bs) (suc (suc k)) e =
    names-later_letter other b bs k ∙ apart-letters one other differ bs (suc k) (sym (names-later_letter one b bs k) ∙ e)

pub apart-pedestrians : (bs : List ℕ) → IsApart (has_number (pedestrians_of bs).walks) (has_number (pedestrians_of bs).clearances)
apart-pedestrians bs n e = apart-letters 87 67 (omega arith) bs n e

pub apart-overlaps : (bs : List ℕ) → IsApart (has_number (vehicles_of bs).greens) (has_number (vehicles_of bs).yellows)
apart-overlaps bs n e = apart-letters 71 89 (omega arith) bs n e

pub apart-green_arrows : (bs : List ℕ) → IsApart (has_number (vehicles_of bs).greens) (has_number (vehicles_of bs).arrows)
apart-green_arrows bs n e = apart-letters 71 80 (omega arith) bs n e

pub apart-yellow_arrows : (bs : List ℕ) → IsApart (has_number (vehicles_of bs).yellows) (has_number (vehicles_of bs).arrows)
apart-yellow_arrows bs n e = apart-letters 89 80 (omega arith) bs n e

-- ## Reading letters one after the other

pub list_with-drop : (letter : ℕ) (bs : List ℕ) (k : ℕ) → k < length bs →
    list_with letter (drop k bs) ≡ (if get_or bs k 0 == letter then 1 else 0) + 2 * list_with letter (drop (k + 1) bs)
list_with-drop letter bs k below =
    let e : suc k ≡ k + 1 = omega arith in
    ap (list_with letter) (drop-cons bs k 0 below) ∙ ap (λ j. (if get_or bs k 0 == letter then 1 else 0) + 2 * list_with letter (drop j bs)) e

-- a letter of weight w, with twice the weight for the rest
pub weigh : (list w b rest all : ℕ) → list + w * (b + 2 * rest) ≡ all → (list + w * b) + w * 2 * rest ≡ all
weigh list w b rest all e = let h : (list + w * b) + w * 2 * rest ≡ list + w * (b + 2 * rest) = grind arith in h ∙ e

pub next-weight : (w k : ℕ) → w ≡ 2 ^ k → w * 2 ≡ 2 ^ (k + 1)
next-weight w k e =
    let double : 2 ^ suc k ≡ 2 * 2 ^ k = omega arith in
    let next : suc k ≡ k + 1 = omega arith in
    let twice : w * 2 ≡ 2 * 2 ^ k = omega (arith, e) in
    twice ∙ sym double ∙ ap (λ j. 2 ^ j) next
