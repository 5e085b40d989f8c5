-- Lines that remain and their changes, as lines come one after the other.
use Rattle.std.proofs.Common.{◌≡◌, ◌∙◌, ℕ, ◌-◌, ◌<◌, ◌≤◌, ◌==◌, nat_lt, Bool, true, false, ◌&&◌, zero, suc, List, [], ◌∷◌, ◌++◌, length, get_or, take, Some, if◌then◌else◌, refl, sym, ap, subst, arith}
use Rattle.std.specs.List.{list_all}
use Rattle.std.proofs.lemmas.Bool.{cond_both, and_parts, and_from, ltb-true, ltb-false, lt-ltb, le-ltb}
use Rattle.std.proofs.lemmas.List.Folds.{list_all-append}
use Rattle.tsb_field_display.specs.declared.shown.Shown.{Shown}
use Rattle.tsb_field_display.specs.declared.shown.Signals.{Signals}
use Rattle.tsb_field_display.specs.Shows.{is_same}
use Rattle.tsb_field_display.specs.Remaining.{remaining, before_tick, Rises, last_tick, changes_after, changes_of, shows_after, shows_last, no_line}

-- whether a line is before a tick, and before another line
abbrev is_before : ℕ → Shown → Bool
is_before tick line = nat_lt line.tick tick

abbrev is_after : Shown → Shown → Bool
is_after line later = nat_lt line.tick later.tick

-- ## A further line

further : (now all : Bool) (line last : Shown) (kept with_last : List Shown) → with_last ≡ before_tick last.tick kept ++ last ∷ [] →
    is_before last.tick line ≡ now →
    (if all && (now && true) then line ∷ with_last else with_last) ≡ before_tick last.tick (if all then line ∷ kept else kept) ++ last ∷ []
further now false line last kept with_last e is_now = e
further true true line last kept with_last e is_now = rw is_now (ap (λ (ls : List Shown). line ∷ ls) e)
further false true line last kept with_last e is_now = rw is_now e

-- it takes back what stood from its tick on, and stands
pub remaining-further : (lines : List Shown) (last : Shown) → remaining (lines ++ last ∷ []) ≡ before_tick last.tick (remaining lines) ++ last ∷ []
remaining-further [] last = refl
remaining-further (line ∷ lines) last =
    rw (list_all-append (is_after line) lines (last ∷ []))
    (further (is_before last.tick line) (list_all (is_after line) lines) line last (remaining lines) (remaining (lines ++ last ∷ []))
    (remaining-further lines last) refl)

pub last-further : (lines : List Shown) (last : Shown) → last_tick (lines ++ last ∷ []) ≡ Some last.tick
last-further [] last = refl
last-further (line ∷ []) last = refl
last-further (line ∷ next ∷ lines) last = last-further (next ∷ lines) last

-- ## Ticks of lines that remain rise

all-remaining : (test : Shown → Bool) (lines : List Shown) → list_all test lines ≡ true → list_all test (remaining lines) ≡ true
all-remaining test [] e = refl
all-remaining test (line ∷ lines) e =
    let p = and_parts _ _ e in
    let rest = all-remaining test lines p.1 in
    cond_both (list_all (is_after line) lines) (line ∷ remaining lines) (remaining lines) (λ (ls : List Shown). list_all test ls ≡ true)
    (λ _. and_from _ _ p.0 rest) (λ _. rest)

pub rises-remaining : (lines : List Shown) → Rises (remaining lines)
rises-remaining [] = tt
rises-remaining (line ∷ lines) =
    let rest = rises-remaining lines in
    cond_both (list_all (is_after line) lines) (line ∷ remaining lines) (remaining lines) Rises
    (λ all. (all-remaining (is_after line) lines all, rest)) (λ _. rest)

all-changes_after : (test : Shown → Bool) (before : Signals) (lines : List Shown) → list_all test lines ≡ true → list_all test (changes_after before lines) ≡ true
all-changes_after test before [] e = refl
all-changes_after test before (line ∷ lines) e =
    let p = and_parts _ _ e in
    let same = all-changes_after test before lines p.1 in
    let other = all-changes_after test line.signals lines p.1 in
    cond_both (is_same before line.signals) (changes_after before lines) (line ∷ changes_after line.signals lines) (λ (ls : List Shown). list_all test ls ≡ true)
    (λ _. same) (λ _. and_from _ _ p.0 other)

rises-changes_after : (before : Signals) (lines : List Shown) → Rises lines → Rises (changes_after before lines)
rises-changes_after before [] r = tt
rises-changes_after before (line ∷ lines) r =
    let same = rises-changes_after before lines r.1 in
    let other = rises-changes_after line.signals lines r.1 in
    cond_both (is_same before line.signals) (changes_after before lines) (line ∷ changes_after line.signals lines) Rises
    (λ _. same) (λ _. (all-changes_after (is_after line) line.signals lines r.0, other))

pub rises-changes_of : (lines : List Shown) → Rises lines → Rises (changes_of lines)
rises-changes_of [] r = tt
rises-changes_of (line ∷ lines) r = (all-changes_after (is_after line) line.signals lines r.0, rises-changes_after line.signals lines r.1)

-- ## Changes before a tick

-- none is before a tick that the first is not before
none-before : (tick : ℕ) (line : Shown) (lines : List Shown) → is_before tick line ≡ false → list_all (is_after line) lines ≡ true → before_tick tick lines ≡ []
none-before tick line [] off e = refl
none-before tick line (later ∷ lines) off e =
    let p = and_parts _ _ e in
    let below : line.tick < later.tick = ltb-true _ _ p.0 in
    let from : tick ≤ line.tick = ltb-false _ _ off in
    let late : is_before tick later ≡ false = le-ltb later.tick tick (omega (arith, below, from)) in
    rw late (none-before tick line lines off p.1)

before-first : (early same : Bool) (tick : ℕ) (before : Signals) (line : Shown) (lines : List Shown) → is_before tick line ≡ early → is_same before line.signals ≡ same →
    list_all (is_after line) lines ≡ true →
    changes_after before (before_tick tick lines) ≡ before_tick tick (changes_after before lines) →
    changes_after line.signals (before_tick tick lines) ≡ before_tick tick (changes_after line.signals lines) →
    changes_after before (if early then line ∷ before_tick tick lines else before_tick tick lines)
    ≡ before_tick tick (if same then changes_after before lines else line ∷ changes_after line.signals lines)
before-first true true tick before line lines e s all one other = rw s one
before-first true false tick before line lines e s all one other = rw (s, e) (ap (λ (ls : List Shown). line ∷ ls) other)
before-first false true tick before line lines e s all one other =
    ap (λ ls. changes_after before ls) (none-before tick line lines e all)
    ∙ sym (none-before tick line (changes_after before lines) e (all-changes_after (is_after line) before lines all))
before-first false false tick before line lines e s all one other =
    ap (λ ls. changes_after before ls) (none-before tick line lines e all)
    ∙ sym (rw e (none-before tick line (changes_after line.signals lines) e (all-changes_after (is_after line) line.signals lines all)))

changes_after-before : (tick : ℕ) (before : Signals) (lines : List Shown) → Rises lines →
    changes_after before (before_tick tick lines) ≡ before_tick tick (changes_after before lines)
changes_after-before tick before [] r = refl
changes_after-before tick before (line ∷ lines) r =
    before-first (is_before tick line) (is_same before line.signals) tick before line lines refl refl r.0
    (changes_after-before tick before lines r.1) (changes_after-before tick line.signals lines r.1)

pub changes_of-before : (tick : ℕ) (lines : List Shown) → Rises lines → changes_of (before_tick tick lines) ≡ before_tick tick (changes_of lines)
changes_of-before tick [] r = refl
changes_of-before tick (line ∷ lines) r = go (is_before tick line) refl
  where
    go : (early : Bool) → is_before tick line ≡ early →
        changes_of (if early then line ∷ before_tick tick lines else before_tick tick lines)
        ≡ (if early then line ∷ before_tick tick (changes_after line.signals lines) else before_tick tick (changes_after line.signals lines))
    go true e = ap (λ (ls : List Shown). line ∷ ls) (changes_after-before tick line.signals lines r.1)
    go false e =
        ap changes_of (none-before tick line lines e r.0)
        ∙ sym (none-before tick line (changes_after line.signals lines) e (all-changes_after (is_after line) line.signals lines r.0))

-- ## A further change

further-change : (same : Bool) (before : Signals) (line last : Shown) (lines : List Shown) →
    changes_after before (lines ++ last ∷ []) ≡ changes_after before lines ++ (if shows_after before (changes_after before lines) last.signals then [] else last ∷ []) →
    changes_after line.signals (lines ++ last ∷ [])
    ≡ changes_after line.signals lines ++ (if shows_after line.signals (changes_after line.signals lines) last.signals then [] else last ∷ []) →
    (if same then changes_after before (lines ++ last ∷ []) else line ∷ changes_after line.signals (lines ++ last ∷ []))
    ≡ (if same then changes_after before lines else line ∷ changes_after line.signals lines)
    ++ (if shows_after before (if same then changes_after before lines else line ∷ changes_after line.signals lines) last.signals then [] else last ∷ [])
further-change true before line last lines one other = one
further-change false before line last lines one other = ap (λ (ls : List Shown). line ∷ ls) other

changes_after-further : (before : Signals) (lines : List Shown) (last : Shown) →
    changes_after before (lines ++ last ∷ []) ≡ changes_after before lines ++ (if shows_after before (changes_after before lines) last.signals then [] else last ∷ [])
changes_after-further before [] last = refl
changes_after-further before (line ∷ lines) last =
    further-change (is_same before line.signals) before line last lines (changes_after-further before lines last) (changes_after-further line.signals lines last)

pub changes_of-further : (lines : List Shown) (last : Shown) →
    changes_of (lines ++ last ∷ []) ≡ changes_of lines ++ (if shows_last (changes_of lines) last.signals then [] else last ∷ [])
changes_of-further [] last = refl
changes_of-further (line ∷ lines) last = ap (λ (ls : List Shown). line ∷ ls) (changes_after-further line.signals lines last)

-- ## The code

-- the last of lines, by its place
shows_after-at : (before : Signals) (lines : List Shown) (other : Shown) (signals : Signals) → (n : ℕ) → length lines ≡ suc n →
    shows_after before lines signals ≡ is_same (get_or lines n other).signals signals
shows_after-at before [] other signals n e = absurd (omega (arith, e))
shows_after-at before (line ∷ []) other signals zero e = refl
shows_after-at before (line ∷ []) other signals (suc n) e = absurd (omega (arith, e))
shows_after-at before (line ∷ next ∷ lines) other signals zero e = absurd (omega (arith, e))
shows_after-at before (line ∷ next ∷ lines) other signals (suc n) e = shows_after-at line.signals (next ∷ lines) other signals n (omega (arith, e))

pub shows_last-at : (lines : List Shown) (other : Shown) (signals : Signals) → (length lines == 0) ≡ false →
    shows_last lines signals ≡ is_same (get_or lines (length lines - 1) other).signals signals
shows_last-at [] other signals some = cc
shows_last-at (line ∷ []) other signals some = refl
shows_last-at (line ∷ next ∷ lines) other signals some =
    let e : suc (suc (length lines)) - 1 ≡ suc (length lines) = omega arith in
    rw e (shows_after-at line.signals (next ∷ lines) other signals (length lines) refl)

all-at : (line : Shown) (ls : List Shown) (k : ℕ) → k < length ls → list_all (is_after line) ls ≡ true → line.tick < (get_or ls k no_line).tick
all-at line [] k less e = absurd (omega (arith, less))
all-at line (l ∷ ls) zero less e = ltb-true _ _ (and_parts _ _ e).0
all-at line (l ∷ ls) (suc k) less e = all-at line ls k (omega (arith, less)) (and_parts _ _ e).1

-- the lines before a tick are so many, of lines whose ticks rise
pub before-take : (lines : List Shown) (tick count : ℕ) → Rises lines → count ≤ length lines →
    ((j : ℕ) → count ≤ j → j < length lines → tick ≤ (get_or lines j no_line).tick) →
    ((k : ℕ) → count ≡ suc k → (get_or lines k no_line).tick < tick) →
    take count lines ≡ before_tick tick lines
before-take [] tick zero r within above below = refl
before-take [] tick (suc count) r within above below = refl
before-take (line ∷ lines) tick zero r within above below =
    let late : is_before tick line ≡ false = le-ltb line.tick tick (above 0 (omega arith) (omega arith)) in
    sym (rw late (none-before tick line lines late r.0))
before-take (line ∷ lines) tick (suc zero) r within above below =
    let early : is_before tick line ≡ true = lt-ltb line.tick tick (below 0 refl) in
    sym (rw early (ap (λ (ls : List Shown). line ∷ ls) (sym (before-take lines tick zero r.1 (omega arith)
    (λ j from less. above (suc j) (omega (arith, from)) (omega (arith, less))) (λ k e. absurd (omega (arith, e)))))))
before-take (line ∷ lines) tick (suc (suc count)) r within above below =
    let last = below (suc count) refl in
    let later : line.tick < (get_or lines count no_line).tick = all-at line lines count (omega (arith, within)) r.0 in
    let early : is_before tick line ≡ true = lt-ltb line.tick tick (omega (arith, later, last)) in
    sym (rw early (ap (λ (ls : List Shown). line ∷ ls) (sym (before-take lines tick (suc count) r.1 (omega (arith, within))
    (λ j from less. above (suc j) (omega (arith, from)) (omega (arith, less))) (λ k e. below (suc k) (ap suc e))))))

-- ## A replay

-- what is kept is cut at the tick of a further line
pub cut : (lines kept : List Shown) (tick count : ℕ) → kept ≡ changes_of (remaining lines) → count ≤ length kept →
    ((j : ℕ) → count ≤ j → j < length kept → tick ≤ (get_or kept j no_line).tick) →
    (0 < count → (get_or kept (count - 1) no_line).tick < tick) →
    take count kept ≡ before_tick tick kept
cut lines kept tick count e within above below =
    before-take kept tick count (subst Rises (sym e) (rises-changes_of (remaining lines) (rises-remaining lines))) within above
    (λ k is_next. let some : 0 < count = omega (arith, is_next) in
    let place : count - 1 ≡ k = omega (arith, is_next) in
    subst (λ (j : ℕ). (get_or kept j no_line).tick < tick) place (below some))

-- the line is kept where it shows something else than the last that is kept before it
pub kept-further : (lines kept cut new : List Shown) (last : Shown) → kept ≡ changes_of (remaining lines) → cut ≡ before_tick last.tick kept →
    new ≡ cut ++ (if shows_last cut last.signals then [] else last ∷ []) → new ≡ changes_of (remaining (lines ++ last ∷ []))
kept-further lines kept cut new last e is_cut is_new =
    let all : cut ≡ changes_of (before_tick last.tick (remaining lines)) =
    is_cut ∙ ap (λ ls. before_tick last.tick ls) e ∙ sym (changes_of-before last.tick (remaining lines) (rises-remaining lines)) in
    is_new
    ∙ ap (λ (ls : List Shown). ls ++ (if shows_last ls last.signals then [] else last ∷ [])) all
    ∙ sym (changes_of-further (before_tick last.tick (remaining lines)) last)
    ∙ ap changes_of (sym (remaining-further lines last))
