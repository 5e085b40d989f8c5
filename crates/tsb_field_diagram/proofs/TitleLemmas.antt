-- A title, byte by byte.
use Rattle.std.proofs.Common.{◌≡◌, ◌∙◌, ℕ, ◌+◌, ◌-◌, ◌<◌, ◌≤◌, false, List, [], ◌∷◌, ◌++◌, length, get_or, drop, refl, sym, ap, arith, append_assoc, append-nil, length-drop}
use Rattle.tsb_field_diagram.specs.Text.{escaped, escaped_byte, is_no_character}
use Rattle.tsb_field_diagram.proofs.BarLemmas.{drop-step}

few-behind : (a : ℕ) (bs : List ℕ) → length bs ≤ 1 → escaped (a ∷ bs) ≡ escaped_byte a ++ escaped bs
few-behind a [] few = sym (append-nil (escaped_byte a))
few-behind a (b ∷ []) few = refl
few-behind a (b ∷ (c ∷ bs)) few = absurd (omega (arith, few))

-- at one of the last two bytes
pub at-few : (xs : List ℕ) (i d : ℕ) → i < length xs → length xs - i ≤ 2 →
    escaped (drop i xs) ≡ escaped_byte (get_or xs i d) ++ escaped (drop (i + 1) xs)
at-few xs i d within few =
    let e : length (drop (i + 1) xs) ≡ length xs - (i + 1) = length-drop (i + 1) xs in
    ap (λ (bs : List ℕ). escaped bs) (drop-step xs i d within) ∙ few-behind (get_or xs i d) (drop (i + 1) xs) (omega (arith, e, few))

-- at a byte with which no character begins that XML forbids
pub at-other : (xs : List ℕ) (i d : ℕ) → 2 < length xs - i → is_no_character (get_or xs i d) (get_or xs (i + 1) d) (get_or xs (i + 2) d) ≡ false →
    escaped (drop i xs) ≡ escaped_byte (get_or xs i d) ++ escaped (drop (i + 1) xs)
at-other xs i d within other =
    let two : i + 1 + 1 ≡ i + 2 = omega arith in
    let third : drop (i + 1 + 1) xs ≡ get_or xs (i + 2) d ∷ drop (i + 2 + 1) xs =
    ap (λ (n : ℕ). drop n xs) two ∙ drop-step xs (i + 2) d (omega (arith, within)) in
    rw (drop-step xs i d (omega (arith, within)), drop-step xs (i + 1) d (omega (arith, within)), third, other) refl

-- the byte is written, and those after it are left
pub turn-byte : (xs : List ℕ) (i d : ℕ) → escaped (drop i xs) ≡ escaped_byte (get_or xs i d) ++ escaped (drop (i + 1) xs) →
    (text new all : List ℕ) → new ≡ text ++ escaped_byte (get_or xs i d) → text ++ escaped (drop i xs) ≡ all →
    new ++ escaped (drop (i + 1) xs) ≡ all
turn-byte xs i d step text new all new-is held =
    ap (λ (ts : List ℕ). ts ++ escaped (drop (i + 1) xs)) new-is ∙ append_assoc text (escaped_byte (get_or xs i d)) (escaped (drop (i + 1) xs))
    ∙ ap (λ (ts : List ℕ). text ++ ts) (sym step) ∙ held
