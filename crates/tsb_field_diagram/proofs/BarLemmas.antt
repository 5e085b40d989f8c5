-- What is in force in a line, and bars, item by item.
use Rattle.std.proofs.Common.{◌≡◌, ◌∙◌, ℕ, ◌+◌, ◌-◌, ◌<◌, ◌≤◌, Bool, true, false, List, [], ◌∷◌, ◌++◌, length, get_or, drop, take, max, refl, sym, ap, arith, append_assoc, append-nil, add-one, drop-cons, length-drop}
use Rattle.std.proofs.lemmas.Bool.{le-leb, le-ltb, lt-ltb, lt-leb}
use Rattle.std.proofs.lemmas.List.{drop_all, take_all, take_rest}
use Rattle.std.proofs.Math.Seq.{take-suc}
use Rattle.tsb_field_diagram.specs.declared.band.BandMark.{BandMark}
use Rattle.tsb_field_diagram.specs.Bars.{from_tick, before_tick, bars_on, bars_of, bars_text, bar_text, is_same, Bar}

pub drop-step : {A : Type 0} (xs : List A) (i : ℕ) (d : A) → i < length xs → drop i xs ≡ get_or xs i d ∷ drop (i + 1) xs
drop-step xs i d within = rw (add-one, drop-cons xs i d) refl

take-step : {A : Type 0} (xs : List A) (i : ℕ) (d : A) → i < length xs → take (i + 1) xs ≡ take i xs ++ get_or xs i d ∷ []
take-step xs i d within = rw add-one (take-suc xs i d within)

-- the first, and what is after it
pub first-behind : {A : Type 0} (xs : List A) (x d : A) → 0 < length xs → x ≡ get_or xs 0 d → xs ≡ x ∷ take (length xs - 1) (drop 1 xs)
first-behind xs x d some is = rw (take_rest xs 1, is) (drop-step xs 0 d some)

-- ## Before a tick

pub before-none : {A : Type 0} (tick : A → ℕ) (end : ℕ) (xs : List A) (i : ℕ) (d : A) → i < length xs → end ≤ tick (get_or xs i d) →
    before_tick tick end xs ≡ take i xs ++ before_tick tick end (drop i xs) → take i xs ≡ before_tick tick end xs
unfolding before_tick
before-none tick end xs i d within late held =
    sym (held ∙ rw (drop-step xs i d within, le-ltb (tick (get_or xs i d)) end late) (append-nil (take i xs)))

pub before-more : {A : Type 0} (tick : A → ℕ) (end : ℕ) (xs : List A) (i : ℕ) (d : A) → i < length xs → tick (get_or xs i d) < end →
    before_tick tick end xs ≡ take i xs ++ before_tick tick end (drop i xs) →
    before_tick tick end xs ≡ take (i + 1) xs ++ before_tick tick end (drop (i + 1) xs)
unfolding before_tick
before-more tick end xs i d within early held =
    held ∙ rw (drop-step xs i d within, lt-ltb (tick (get_or xs i d)) end early, take-step xs i d within)
    (sym (append_assoc (take i xs) (get_or xs i d ∷ []) (before_tick tick end (drop (i + 1) xs))))

pub before-all : {A : Type 0} (tick : A → ℕ) (end : ℕ) (xs : List A) (i : ℕ) → length xs ≤ i →
    before_tick tick end xs ≡ take i xs ++ before_tick tick end (drop i xs) → xs ≡ before_tick tick end xs
unfolding before_tick
before-all tick end xs i all held = sym (held ∙ rw (drop_all i xs all, take_all i xs all) (append-nil xs))

-- ## From a tick on

pub from-more : {A : Type 0} (tick : A → ℕ) (first : ℕ) (xs : List A) (i : ℕ) (d : A) → i + 1 < length xs → tick (get_or xs (i + 1) d) ≤ first →
    from_tick tick first (drop (i + 1) xs) ≡ from_tick tick first (drop i xs)
unfolding from_tick
from-more tick first xs i d within early =
    let here : i < length xs = omega arith in
    rw (drop-step xs i d here, drop-step xs (i + 1) d within, le-leb (tick (get_or xs (i + 1) d)) first early) refl

pub from-here : {A : Type 0} (tick : A → ℕ) (first : ℕ) (xs : List A) (i : ℕ) (d : A) → i + 1 < length xs → first < tick (get_or xs (i + 1) d) →
    from_tick tick first (drop i xs) ≡ drop i xs
unfolding from_tick
from-here tick first xs i d within late =
    let here : i < length xs = omega arith in
    rw (drop-step xs i d here, drop-step xs (i + 1) d within, lt-leb (tick (get_or xs (i + 1) d)) first late) refl

from-few : {A : Type 0} (tick : A → ℕ) (first : ℕ) (xs : List A) → length xs ≤ 1 → from_tick tick first xs ≡ xs
unfolding from_tick
from-few tick first [] few = refl
from-few tick first (x ∷ []) few = refl
from-few tick first (x ∷ (y ∷ xs)) few = absurd (omega (arith, few))

-- where the next begins later
pub stop-late : {A : Type 0} (tick : A → ℕ) (first : ℕ) (xs : List A) (i : ℕ) (d : A) → i + 1 < length xs → first < tick (get_or xs (i + 1) d) →
    from_tick tick first (drop i xs) ≡ from_tick tick first xs → take (length xs - i) (drop i xs) ≡ from_tick tick first xs
stop-late tick first xs i d within late held = take_rest xs i ∙ sym (from-here tick first xs i d within late) ∙ held

-- where there is no next
pub stop-last : {A : Type 0} (tick : A → ℕ) (first : ℕ) (xs : List A) (i : ℕ) → length xs - i ≤ 1 →
    from_tick tick first (drop i xs) ≡ from_tick tick first xs → take (length xs - i) (drop i xs) ≡ from_tick tick first xs
stop-last tick first xs i few held =
    let e : length (drop i xs) ≡ length xs - i = length-drop i xs in
    take_rest xs i ∙ sym (from-few tick first (drop i xs) (omega (arith, e, few))) ∙ held

-- ## Bars

pub bars-stay : {A : Type 0} (tick : A → ℕ) (shown : A → BandMark) (begin end : ℕ) (now : BandMark) (xs : List A) (i : ℕ) (d : A) → i < length xs →
    is_same (shown (get_or xs i d)) now ≡ true →
    bars_on tick shown begin now end (drop i xs) ≡ bars_on tick shown begin now end (drop (i + 1) xs)
unfolding bars_on
bars-stay tick shown begin end now xs i d within same = rw (drop-step xs i d within, same) refl

pub bars-change : {A : Type 0} (place : ℕ) (tick : A → ℕ) (shown : A → BandMark) (begin end : ℕ) (now : BandMark) (xs : List A) (i : ℕ) (d : A) → i < length xs →
    is_same (shown (get_or xs i d)) now ≡ false →
    bars_text place (bars_on tick shown begin now end (drop i xs))
    ≡ bar_text place begin (tick (get_or xs i d)) now
    ++ bars_text place (bars_on tick shown (tick (get_or xs i d)) (shown (get_or xs i d)) end (drop (i + 1) xs))
unfolding bars_on bars_text
bars-change place tick shown begin end now xs i d within other = rw (drop-step xs i d within, other) refl

pub bars-last : {A : Type 0} (place : ℕ) (tick : A → ℕ) (shown : A → BandMark) (begin end : ℕ) (now : BandMark) →
    bars_text place (bars_on tick shown begin now end []) ≡ bar_text place begin end now
unfolding bars_on bars_text
bars-last place tick shown begin end now = append-nil (bar_text place begin end now)

pub bars-first : {A : Type 0} (place : ℕ) (tick : A → ℕ) (shown : A → BandMark) (first end : ℕ) (x : A) (xs : List A) →
    bars_text place (bars_of tick shown first end (x ∷ xs)) ≡ bars_text place (bars_on tick shown (max first (tick x)) (shown x) end xs)
unfolding bars_of
bars-first place tick shown first end x xs = refl

pub bars-none : {A : Type 0} (place : ℕ) (tick : A → ℕ) (shown : A → BandMark) (first end : ℕ) (xs : List A) → length xs ≡ 0 →
    bars_text place (bars_of tick shown first end xs) ≡ []
unfolding bars_of bars_text
bars-none place tick shown first end [] none = refl
bars-none place tick shown first end (x ∷ xs) none = absurd (omega (arith, none))

-- ## Turns of a loop over items

-- where the next shows the same
pub turn-same : {A : Type 0} (place : ℕ) (tick : A → ℕ) (shown : A → BandMark) (end : ℕ) (xs : List A) (i : ℕ) (d : A) → i < length xs →
    (begin begin_new : ℕ) (now now_new next : BandMark) (text text_new all : List ℕ) (same : Bool) →
    next ≡ shown (get_or xs i d) → same ≡ is_same next now → same ≡ true → text_new ≡ text → begin_new ≡ begin → now_new ≡ now →
    text ++ bars_text place (bars_on tick shown begin now end (drop i xs)) ≡ all →
    text_new ++ bars_text place (bars_on tick shown begin_new now_new end (drop (i + 1) xs)) ≡ all
turn-same place tick shown end xs i d within begin begin_new now now_new next text text_new all same next-is told is text-is begin-is now-is held =
    let one : is_same (shown (get_or xs i d)) now ≡ true = ap (λ (m : BandMark). is_same m now) (sym next-is) ∙ sym told ∙ is in
    rw (text-is, begin-is, now-is) (ap (λ (bs : List Bar). text ++ bars_text place bs) (sym (bars-stay tick shown begin end now xs i d within one)) ∙ held)

-- where it shows another mark
pub turn-other : {A : Type 0} (place : ℕ) (tick : A → ℕ) (shown : A → BandMark) (end : ℕ) (xs : List A) (i : ℕ) (d : A) → i < length xs →
    (begin begin_new : ℕ) (now now_new next : BandMark) (text text_new all : List ℕ) (same : Bool) →
    next ≡ shown (get_or xs i d) → same ≡ is_same next now → same ≡ false →
    text_new ≡ text ++ bar_text place begin (tick (get_or xs i d)) now → begin_new ≡ tick (get_or xs i d) → now_new ≡ next →
    text ++ bars_text place (bars_on tick shown begin now end (drop i xs)) ≡ all →
    text_new ++ bars_text place (bars_on tick shown begin_new now_new end (drop (i + 1) xs)) ≡ all
turn-other place tick shown end xs i d within begin begin_new now now_new next text text_new all same next-is told is text-is begin-is now-is held =
    let one : is_same (shown (get_or xs i d)) now ≡ false = ap (λ (m : BandMark). is_same m now) (sym next-is) ∙ sym told ∙ is in
    let mark-is : now_new ≡ shown (get_or xs i d) = now-is ∙ next-is in
    rw (text-is, begin-is, mark-is)
    (append_assoc text (bar_text place begin (tick (get_or xs i d)) now) _
    ∙ ap (λ (ts : List ℕ). text ++ ts) (sym (bars-change place tick shown begin end now xs i d within one)) ∙ held)

-- where none is left
pub turn-last : {A : Type 0} (place : ℕ) (tick : A → ℕ) (shown : A → BandMark) (first end : ℕ) (whole xs : List A) (i : ℕ) (x : A) → length xs ≤ i →
    (begin begin_old : ℕ) (now now_old : BandMark) (text text_new old : List ℕ) →
    whole ≡ x ∷ xs → begin_old ≡ max first (tick x) → now_old ≡ shown x →
    text ++ bars_text place (bars_on tick shown begin now end (drop i xs)) ≡ old ++ bars_text place (bars_on tick shown begin_old now_old end xs) →
    text_new ≡ text ++ bar_text place begin end now →
    text_new ≡ old ++ bars_text place (bars_of tick shown first end whole)
turn-last {A = A} place tick shown first end whole xs i x all begin begin_old now now_old text text_new old whole-is begin-is now-is held text-is =
    text-is ∙ ap (λ (ts : List ℕ). text ++ ts) (sym (bars-last place tick shown begin end now))
    ∙ ap (λ (ys : List A). text ++ bars_text place (bars_on tick shown begin now end ys)) (sym (drop_all i xs all))
    ∙ held ∙ rw (whole-is, begin-is, now-is) (ap (λ (ts : List ℕ). old ++ ts) (sym (bars-first place tick shown first end x xs)))
