-- The items of a list are read as the runs that they are written for.
use Rattle.std.proofs.Common.{◌≡◌, ◌∙◌, ℕ, ◌+◌, ◌-◌, ◌%◌, ◌^◌, ◌<◌, ◌≤◌, Bool, true, false, zero, suc, List, [], ◌∷◌, ◌++◌, append-nil, length, map, get_or, refl, sym, ap, arith, eqb, inl, inr, Some, decimal, if◌then◌else◌}
use Rattle.std.proofs.lemmas.Bool.{le-leb, lt-ltb}
use Rattle.std.proofs.lemmas.Bool.Decides.{eqb_tells}
use Rattle.std.proofs.lemmas.Fmt.{decimal_by_steps, decimal_nonempty, first_decimal}
use Rattle.tsb_lines.specs.Lines.{HasNoFeed, onto_first, without_return}
use Rattle.tsb_lines.specs.Words.{number_of}
use Rattle.tsb_lines.proofs.DigitLemmas.{number-read}
use Rattle.tsb_types.specs.Lists.{among, run_from}
use Rattle.tsb_types.specs.Sets.{list_of}
use Rattle.tsb_types.proofs.SetLemmas.{same-list_of}
use Rattle.tsb_log_text.specs.ListText.{item_text, later_items, onto_runs, runs_from}
use Rattle.tsb_log_text.specs.RowLists.{as_run, ends_of_item, list_of_numbers, numbers_from, parts, plain_number, with_numbers}
use Rattle.tsb_log_text.proofs.ListLemmas.{item-one, item-run}
use Rattle.tsb_log_text.proofs.RunsLemmas.{is-either}

-- ## Bytes that some bytes lack

-- none of them is b
abbrev pub Lacks : ℕ → List ℕ → Type 0
Lacks b [] = Unit {0}
Lacks b (c ∷ cs) = (c ≡ b → ⊥) × Lacks b cs

pub lacks-both : (b : ℕ) (bs cs : List ℕ) → Lacks b bs → Lacks b cs → Lacks b (bs ++ cs)
lacks-both b [] cs f g = g
lacks-both b (x ∷ bs) cs f g = (f.0, lacks-both b bs cs f.1 g)

pub lacks-feed : (bs : List ℕ) → Lacks 10 bs → HasNoFeed bs
lacks-feed [] f = tt
lacks-feed (b ∷ bs) f = (f.0, lacks-feed bs f.1)

unequal : (a b : ℕ) → (a ≡ b → ⊥) → eqb a b ≡ false
unequal a b apart = elim (eqb_tells a b) [ inl z ↦ absurd (apart z.1) | inr z ↦ z.0 ]

pub equal : (b : ℕ) → eqb b b ≡ true
equal b = elim (eqb_tells b b) [ inl z ↦ z.0 | inr z ↦ absurd (z.1 refl) ]

pub lacks-return : (bs : List ℕ) → Lacks 13 bs → without_return bs ≡ bs
lacks-return [] f = refl
lacks-return (b ∷ []) f = rw (unequal b 13 f.0) refl
lacks-return (b ∷ c ∷ bs) f = ap (λ (cs : List ℕ). b ∷ cs) (lacks-return (c ∷ bs) f.1)

pub parts-alone : (b : ℕ) (bs : List ℕ) → Lacks b bs → parts b bs ≡ bs ∷ []
parts-alone b [] f = refl
parts-alone b (c ∷ cs) f = rw (unequal c b f.0) (ap (onto_first c) (parts-alone b cs f.1))

pub parts-joined : (b : ℕ) (bs cs : List ℕ) → Lacks b bs → parts b (bs ++ b ∷ cs) ≡ bs ∷ parts b cs
parts-joined b [] cs f = rw (equal b) refl
parts-joined b (x ∷ bs) cs f = rw (unequal x b f.0) (ap (onto_first x) (parts-joined b bs cs f.1))

number-lacks : (b n : ℕ) → b < 48 → n < 2 ^ 32 → Lacks b (decimal n)
number-lacks b n low small =
    decimal_by_steps (λ (m : ℕ) (ds : List ℕ). Lacks b ds) (λ m lt. (λ e. omega (arith, e, low), tt))
    (λ m ds le h. lacks-both b ds ((48 + m % 10) ∷ []) h (λ e. omega (arith, e, low), tt)) n (omega (arith, small))

-- ## Runs that rise

-- a run begins above this number, and ends at most at that
pub record StandsAfter (most last : ℕ) (r : ℕ × ℕ) : Type 0 where
  pub above : last < r.0
  pub rises : r.0 ≤ r.1
  pub within : r.1 ≤ most

-- these do, one after the other
abbrev pub Rising : ℕ → ℕ → List (ℕ × ℕ) → Type 0
Rising most last [] = Unit {0}
Rising most last (r ∷ rs) = StandsAfter most last r × Rising most r.1 rs

onto-rising : (most last n : ℕ) (rs : List (ℕ × ℕ)) → last < n → n ≤ most → Rising most n rs → Rising most last (onto_runs n rs)
onto-rising most last n [] lt le h = (record { above = lt; rises = omega arith; within = le }, tt)
onto-rising most last n (r ∷ rs) lt le h =
    let above : n < r.0 = h.0.above in
    let rises : r.0 ≤ r.1 = h.0.rises in
    elim (eqb_tells (r.0) (n + 1)) [
      | inl z ↦ rw z.0 (record { above = lt; rises = omega (arith, above, rises); within = h.0.within }, h.1)
      | inr z ↦ rw z.0 (record { above = lt; rises = omega arith; within = le }, h)
    ]

pub runs-rising : (most last n left : ℕ) (on : ℕ → Bool) → last < n → n + left ≤ most + 1 → Rising most last (runs_from n left on)
runs-rising most last n zero on lt fits = tt
runs-rising most last n (suc left) on lt fits = elim (is-either (on n)) [
  | inl z ↦ rw z (onto-rising most last n (runs_from (n + 1) left on) lt (omega (arith, fits)) (runs-rising most n (n + 1) left on (omega arith) (omega (arith, fits))))
  | inr z ↦ rw z (runs-rising most last (n + 1) left on (omega (arith, lt)) (omega (arith, fits)))
]

-- ## Their items

item-lacks : (b most last : ℕ) (r : ℕ × ℕ) → b < 45 → most ≤ 64 → StandsAfter most last r → Lacks b (item_text r)
item-lacks b most last r low few h =
    let rises : r.0 ≤ r.1 = h.rises in
    let within : r.1 ≤ most = h.within in
    let first : Lacks b (decimal (r.0)) = number-lacks b (r.0) (omega (arith, low)) (omega (arith, few, rises, within)) in
    let end : Lacks b (decimal (r.1)) = number-lacks b (r.1) (omega (arith, low)) (omega (arith, few, within)) in
    elim (eqb_tells (r.0) (r.1)) [
      | inl z ↦ rw z.0 first
      | inr z ↦ rw z.0 (lacks-both b (decimal (r.0) ++ 45 ∷ []) (decimal (r.1)) (lacks-both b (decimal (r.0)) (45 ∷ []) first (λ e. omega (arith, e, low), tt)) end)
    ]

later-lacks : (b most last : ℕ) (rs : List (ℕ × ℕ)) → b < 44 → most ≤ 64 → Rising most last rs → Lacks b (later_items rs)
later-lacks b most last [] low few h = tt
later-lacks b most last (r ∷ rs) low few h =
    (λ e. omega (arith, e, low), lacks-both b (item_text r) (later_items rs) (item-lacks b most last r (omega (arith, low)) few h.0) (later-lacks b most (r.1) rs low few h.1))

pub items-lack : (b most last : ℕ) (r : ℕ × ℕ) (rs : List (ℕ × ℕ)) → b < 44 → most ≤ 64 → Rising most last (r ∷ rs) → Lacks b (item_text r ++ later_items rs)
items-lack b most last r rs low few h =
    lacks-both b (item_text r) (later_items rs) (item-lacks b most last r (omega (arith, low)) few h.0) (later-lacks b most (r.1) rs low few h.1)

items-parts : (most last : ℕ) (r : ℕ × ℕ) (rs : List (ℕ × ℕ)) → most ≤ 64 → Rising most last (r ∷ rs) → parts 44 (item_text r ++ later_items rs) ≡ map item_text (r ∷ rs)
items-parts most last r [] few h = ap (parts 44) (append-nil (item_text r)) ∙ parts-alone 44 (item_text r) (item-lacks 44 most last r (omega arith) few h.0)
items-parts most last r (s ∷ ss) few h =
    parts-joined 44 (item_text r) (item_text s ++ later_items ss) (item-lacks 44 most last r (omega arith) few h.0)
    ∙ ap (λ (ps : List (List ℕ)). item_text r ∷ ps) (items-parts most (r.1) s ss few h.1)

plain-digits : (ds : List ℕ) → 0 < length ds → 48 < get_or ds 0 0 → plain_number ds ≡ number_of ds
plain-digits [] some first = absurd (omega (arith, some))
plain-digits (d ∷ ds) some first = rw (unequal d 48 (λ e. omega (arith, e, first))) refl

plain-read : (n : ℕ) → 1 ≤ n → n < 2 ^ 32 → plain_number (decimal n) ≡ Some n
plain-read n one small =
    plain-digits (decimal n) (decimal_nonempty n (omega (arith, small))) (first_decimal n one (omega (arith, small))) ∙ number-read n small

item-read : (first last : ℕ) → 1 ≤ first → first ≤ last → last < 2 ^ 32 → ends_of_item (parts 45 (item_text (first, last))) ≡ Some (first, last)
item-read first last one rises small =
    let read : plain_number (decimal first) ≡ Some first = plain-read first one (omega (arith, rises, small)) in
    let lacks : Lacks 45 (decimal first) = number-lacks 45 first (omega arith) (omega (arith, rises, small)) in
    elim (eqb_tells first last) [
      | inl z ↦
          ap (λ (t : List ℕ). ends_of_item (parts 45 t)) (item-one first last z.1) ∙ ap ends_of_item (parts-alone 45 (decimal first) lacks)
          ∙ ap as_run read ∙ ap (λ (n : ℕ). Some (first, n)) z.1
      | inr z ↦
          let apart : first ≡ last → ⊥ = z.1 in
          let less : first < last = omega (arith, rises, apart) in
          ap (λ (t : List ℕ). ends_of_item (parts 45 t)) (item-run first last less)
          ∙ ap ends_of_item (parts-joined 45 (decimal first) (decimal last) lacks ∙ ap (λ (ps : List (List ℕ)). decimal first ∷ ps) (parts-alone 45 (decimal last) (number-lacks 45 last (omega arith) small)))
          ∙ rw (read, plain-read last (omega (arith, one, rises)) small, lt-ltb first last less) refl
    ]

-- ## Their numbers

-- the numbers of these runs
abbrev numbers_of : List (ℕ × ℕ) → List ℕ
numbers_of [] = []
numbers_of (r ∷ rs) = run_from (r.0) (r.1 + 1 - r.0) ++ numbers_of rs

runs-read : (most last : ℕ) (rs : List (ℕ × ℕ)) → most ≤ 64 → Rising most last rs → numbers_from most last (map item_text rs) ≡ Some (numbers_of rs)
runs-read most last [] few h = refl
runs-read most last (r ∷ rs) few h =
    let above : last < r.0 = h.0.above in
    let within : r.1 ≤ most = h.0.within in
    rw (item-read (r.0) (r.1) (omega (arith, above)) h.0.rises (omega (arith, few, within)), lt-ltb last (r.0) above, le-leb (r.1) most within)
    (ap (with_numbers (run_from (r.0) (r.1 + 1 - r.0))) (runs-read most (r.1) rs few h.1))

-- those of so many numbers from n on that are on
abbrev numbers_on : ℕ → ℕ → (ℕ → Bool) → List ℕ
numbers_on n zero on = []
numbers_on n (suc left) on = if on n then n ∷ numbers_on (n + 1) left on else numbers_on (n + 1) left on

one-number : (n : ℕ) (ns : List ℕ) → run_from n (n + 1 - n) ++ ns ≡ n ∷ ns
unfolding run_from
one-number n ns = let one : n + 1 - n ≡ 1 = omega arith in ap (λ (k : ℕ). run_from n k ++ ns) one

onto-numbers : (most n : ℕ) (rs : List (ℕ × ℕ)) → Rising most n rs → numbers_of (onto_runs n rs) ≡ n ∷ numbers_of rs
unfolding run_from
onto-numbers most n [] h = one-number n []
onto-numbers most n (r ∷ rs) h = elim (eqb_tells (r.0) (n + 1)) [
  | inl z ↦
      let first : r.0 ≡ n + 1 = z.1 in
      let rises : r.0 ≤ r.1 = h.0.rises in
      let count : r.1 + 1 - n ≡ suc (r.1 + 1 - r.0) = omega (arith, first, rises) in
      rw z.0 (ap (λ (k : ℕ). run_from n k ++ numbers_of rs) count ∙ ap (λ (m : ℕ). n ∷ (run_from m (r.1 + 1 - r.0) ++ numbers_of rs)) (sym first))
  | inr z ↦ rw z.0 (one-number n (numbers_of (r ∷ rs)))
]

runs-numbers : (most n left : ℕ) (on : ℕ → Bool) → n + left ≤ most + 1 → numbers_of (runs_from n left on) ≡ numbers_on n left on
runs-numbers most n zero on fits = refl
runs-numbers most n (suc left) on fits =
    let rest : numbers_of (runs_from (n + 1) left on) ≡ numbers_on (n + 1) left on = runs-numbers most (n + 1) left on (omega (arith, fits)) in
    elim (is-either (on n)) [
      | inl z ↦ rw z (onto-numbers most n (runs_from (n + 1) left on) (runs-rising most n (n + 1) left on (omega arith) (omega (arith, fits))) ∙ ap (λ (ns : List ℕ). n ∷ ns) rest)
      | inr z ↦ rw z rest
    ]

not-before : (k n left : ℕ) (on : ℕ → Bool) → k < n → among k (numbers_on n left on) ≡ false
not-before k n zero on lt = refl
not-before k n (suc left) on lt =
    let rest : among k (numbers_on (n + 1) left on) ≡ false = not-before k (n + 1) left on (omega (arith, lt)) in
    elim (is-either (on n)) [ inl z ↦ rw (z, unequal n k (λ e. omega (arith, e, lt))) rest | inr z ↦ rw z rest ]

among-here : (k n left : ℕ) (on : ℕ → Bool) → n ≡ k → eqb n k ≡ true → among k (numbers_on n (suc left) on) ≡ on k
among-here k n left on same is = elim (is-either (on n)) [
  | inl z ↦ rw (z, is) (sym (ap on (sym same) ∙ z))
  | inr z ↦ rw z (not-before k (n + 1) left on (omega (arith, same)) ∙ sym (ap on (sym same) ∙ z))
]

among-on : (k n left : ℕ) (on : ℕ → Bool) → n ≤ k → k < n + left → among k (numbers_on n left on) ≡ on k
among-on k n zero on le lt = absurd (omega (arith, le, lt))
among-on k n (suc left) on le lt = elim (eqb_tells n k) [
  | inl z ↦ among-here k n left on z.1 z.0
  | inr z ↦
      let apart : n ≡ k → ⊥ = z.1 in
      let rest : among k (numbers_on (n + 1) left on) ≡ on k = among-on k (n + 1) left on (omega (arith, le, apart)) (omega (arith, lt)) in
      elim (is-either (on n)) [ inl y ↦ rw (y, z.0) rest | inr y ↦ rw y rest ]
]

-- the list of the numbers of runs is the list of what is on
pub runs-list : (most : ℕ) (on : ℕ → Bool) → most ≤ 64 → list_of_numbers most (numbers_from most 0 (map item_text (runs_from 1 most on))) ≡ Some (list_of most on)
runs-list most on few =
    let runs : List (ℕ × ℕ) = runs_from 1 most on in
    ap (list_of_numbers most) (runs-read most 0 runs few (runs-rising most 0 1 most on (omega arith) (omega arith)))
    ∙ ap (λ (k : ℕ). Some k) (same-list_of most (λ n. among n (numbers_of runs)) on
    (λ p one within. ap (among p) (runs-numbers most 1 most on (omega arith)) ∙ among-on p 1 most on one (omega (arith, within))))

-- and so is what some runs spell
pub items-list : (most list : ℕ) (r : ℕ × ℕ) (rs : List (ℕ × ℕ)) → most ≤ 64 → Rising most 0 (r ∷ rs) → list_of_numbers most (numbers_from most 0 (map item_text (r ∷ rs))) ≡ Some list
    → list_of_numbers most (numbers_from most 0 (parts 44 (item_text r ++ later_items rs))) ≡ Some list
items-list most list r rs few h same =
    ap (λ (ps : List (List ℕ)). list_of_numbers most (numbers_from most 0 ps)) (items-parts most 0 r rs few h) ∙ same
