-- Bars are stretches.
use Rattle.std.proofs.Common.{◌≡◌, ◌≢◌, ◌∙◌, ℕ, ◌<◌, ◌≤◌, max, true, false, leb, ltb, eqb, if◌then◌else◌, List, [], ◌∷◌, ◌⊎◌, refl, sym, ap, arith, inl, inr}
use Rattle.std.proofs.lemmas.Bool.{cases_Bool, le-leb, lt-leb, lt-ltb, le-ltb, eq-eqb}
use Rattle.std.proofs.lemmas.Bool.Decides.{leb_tells, eqb_tells}
use Rattle.tsb_field_diagram.specs.declared.band.BandMark.{BandMark}
use Rattle.tsb_field_diagram.specs.declared.band.BandMark.TheVariants.{Dark, Green, Yellow, Red, Flashing, Walk, Clearance, DontWalk, Served, On, Arrow}
use Rattle.tsb_field_diagram.specs.Bars.{Bar, bars_on, bars_of, from_tick, before_tick, in_line, is_same, number_of}
use Rattle.tsb_field_diagram.specs.Laws.{IsBefore, Rises, in_force, Fill, DifferFrom, Differ, Tell, AreStretches}

-- ## Marks

mark_of : ℕ → BandMark
mark_of n =
    if eqb n 0 then Dark else (if eqb n 1 then Green else (if eqb n 2 then Yellow else (if eqb n 3 then Red else
    (if eqb n 4 then Flashing else (if eqb n 5 then Walk else (if eqb n 6 then Clearance else (if eqb n 7 then DontWalk else
    (if eqb n 8 then Served else (if eqb n 9 then On else Arrow)))))))))

marked : (m : BandMark) → mark_of (number_of m) ≡ m
unfolding mark_of
marked Dark = refl
marked Green = refl
marked Yellow = refl
marked Red = refl
marked Flashing = refl
marked Walk = refl
marked Clearance = refl
marked DontWalk = refl
marked Served = refl
marked On = refl
marked Arrow = refl

same-mark : (a b : BandMark) → is_same a b ≡ true → a ≡ b
same-mark a b e =
    elim (eqb_tells (number_of a) (number_of b)) [
      | inl told ↦ sym (marked a) ∙ ap mark_of told.1 ∙ marked b
      | inr told ↦ absurd (let no : is_same a b ≡ false = told.0 in cc)
    ]

other-mark : (a b : BandMark) → is_same a b ≡ false → a ≢ b
other-mark a b e is = let yes : is_same a b ≡ true = eq-eqb (number_of a) (number_of b) (ap number_of is) in cc

-- ## What is in force

lt-split : (a b : ℕ) → ((ltb a b ≡ true) × (a < b)) ⊎ ((ltb a b ≡ false) × (b ≤ a))
lt-split a b = elim (leb_tells b a) [ inl told ↦ inr (le-ltb a b told.1, told.1) | inr told ↦ inl (lt-ltb a b told.1, told.1) ]

-- before the first of these has begun
in-force-before : {A : Type 0} (tick : A → ℕ) (x : A) (xs : List A) (t n : ℕ) → IsBefore tick n xs → t ≤ n → in_force tick x xs t ≡ x
in-force-before tick x [] t n before le = refl
in-force-before tick x (y ∷ ys) t n before le = rw (lt-leb (tick y) t (omega (arith, before, le))) refl

-- within a line
in-force-cut : {A : Type 0} (tick : A → ℕ) (x : A) (xs : List A) (end t : ℕ) → t < end → in_force tick x (before_tick tick end xs) t ≡ in_force tick x xs t
unfolding before_tick
in-force-cut tick x [] end t lt = refl
in-force-cut {A = A} tick x (y ∷ ys) end t lt =
    elim (lt-split (tick y) end) [
      | inl told ↦
          let here : ltb (tick y) end ≡ true = told.0 in
          rw here (ap (λ (z : A). if leb (tick y) t then z else x) (in-force-cut tick y ys end t lt))
      | inr told ↦
          let late : ltb (tick y) end ≡ false = told.0 in
          let behind : end ≤ tick y = told.1 in
          rw (late, lt-leb (tick y) t (omega (arith, behind, lt))) refl
    ]

cut-before : {A : Type 0} (tick : A → ℕ) (end n : ℕ) (xs : List A) → IsBefore tick n xs → IsBefore tick n (before_tick tick end xs)
unfolding before_tick
cut-before tick end n [] before = tt
cut-before tick end n (y ∷ ys) before =
    elim (lt-split (tick y) end) [
      | inl told ↦ let here : ltb (tick y) end ≡ true = told.0 in rw here before
      | inr told ↦ let late : ltb (tick y) end ≡ false = told.0 in rw late tt
    ]

cut-rises : {A : Type 0} (tick : A → ℕ) (end : ℕ) (xs : List A) → Rises tick xs → Rises tick (before_tick tick end xs)
unfolding before_tick
cut-rises tick end [] rises = tt
cut-rises tick end (y ∷ ys) rises =
    elim (lt-split (tick y) end) [
      | inl told ↦ let here : ltb (tick y) end ≡ true = told.0 in rw here (cut-before tick end (tick y) ys rises.0, cut-rises tick end ys rises.1)
      | inr told ↦ let late : ltb (tick y) end ≡ false = told.0 in rw late tt
    ]

-- all of these are before a tick
abbrev AreBefore : {A : Type 0} → (A → ℕ) → ℕ → List A → Type 0
AreBefore tick end [] = Unit {0}
AreBefore tick end (x ∷ xs) = (tick x < end) × AreBefore tick end xs

cut-within : {A : Type 0} (tick : A → ℕ) (end : ℕ) (xs : List A) → AreBefore tick end (before_tick tick end xs)
unfolding before_tick
cut-within tick end [] = tt
cut-within tick end (y ∷ ys) =
    elim (lt-split (tick y) end) [
      | inl told ↦ let here : ltb (tick y) end ≡ true = told.0 in rw here (told.1, cut-within tick end ys)
      | inr told ↦ let late : ltb (tick y) end ≡ false = told.0 in rw late tt
    ]

-- ## Bars from one that has begun

-- what is before a tick is before a later one
sooner : {A : Type 0} (tick : A → ℕ) (early late : ℕ) (xs : List A) → early < late → IsBefore tick late xs → IsBefore tick early xs
sooner tick early late [] lt before = tt
sooner tick early late (x ∷ xs) lt before = omega (arith, lt, before)

fill-ends : (begin end : ℕ) (bars : List Bar) → Fill begin bars end → begin ≤ end
fill-ends begin end [] fill = omega (arith, fill)
fill-ends begin end (b ∷ bs) fill = let rest : b.end ≤ end = fill-ends b.end end bs fill.1.1 in omega (arith, fill.0, fill.1.0, rest)

fills : {A : Type 0} (tick : A → ℕ) (shown : A → BandMark) (begin : ℕ) (now : BandMark) (end : ℕ) (xs : List A) → begin < end → IsBefore tick begin xs →
    Rises tick xs → AreBefore tick end xs → Fill begin (bars_on tick shown begin now end xs) end
unfolding bars_on
fills tick shown begin now end [] lt before rises within = (refl, (lt, refl))
fills tick shown begin now end (y ∷ ys) lt before rises within =
    elim (cases_Bool (is_same (shown y) now)) [
      | inl e ↦ rw e (fills tick shown begin now end ys lt (sooner tick begin (tick y) ys before rises.0) rises.1 within.1)
      | inr e ↦ rw e (refl, (before, fills tick shown (tick y) (shown y) end ys within.0 rises.0 rises.1 within.1))
    ]

differs_from : {A : Type 0} (tick : A → ℕ) (shown : A → BandMark) (begin : ℕ) (now : BandMark) (end : ℕ) (xs : List A) (other : BandMark) → now ≢ other →
    DifferFrom other (bars_on tick shown begin now end xs)
unfolding bars_on
differs_from tick shown begin now end [] other apart = (apart, tt)
differs_from tick shown begin now end (y ∷ ys) other apart =
    elim (cases_Bool (is_same (shown y) now)) [
      | inl e ↦ rw e (differs_from tick shown begin now end ys other apart)
      | inr e ↦ rw e (apart, differs_from tick shown (tick y) (shown y) end ys now (other-mark (shown y) now e))
    ]

differs : {A : Type 0} (tick : A → ℕ) (shown : A → BandMark) (begin : ℕ) (now : BandMark) (end : ℕ) (xs : List A) → Differ (bars_on tick shown begin now end xs)
unfolding bars_on
differs tick shown begin now end [] = tt
differs tick shown begin now end (y ∷ ys) =
    elim (cases_Bool (is_same (shown y) now)) [
      | inl e ↦ rw e (differs tick shown begin now end ys)
      | inr e ↦ rw e (differs_from tick shown (tick y) (shown y) end ys now (other-mark (shown y) now e))
    ]

-- bars tell what is shown, where it is the same from their begin on
tell-as : (f g : ℕ → BandMark) (begin end : ℕ) (bars : List Bar) → Fill begin bars end → ((t : ℕ) → begin ≤ t → t < end → f t ≡ g t) → Tell f bars → Tell g bars
tell-as f g begin end [] fill same told = tt
tell-as f g begin end (b ∷ bs) fill same told =
    let ends : b.end ≤ end = fill-ends b.end end bs fill.1.1 in
    let starts : b.begin ≡ begin = fill.0 in
    let some : b.begin < b.end = fill.1.0 in (
      (λ t from below. told.0 t from below ∙ same t (omega (arith, starts, from)) (omega (arith, below, ends))),
      tell-as f g b.end end bs fill.1.1 (λ t from below. same t (omega (arith, starts, some, from)) below) told.1,
    )

tells : {A : Type 0} (tick : A → ℕ) (shown : A → BandMark) (begin : ℕ) (x : A) (end : ℕ) (xs : List A) → begin < end → IsBefore tick begin xs →
    Rises tick xs → AreBefore tick end xs → (now : BandMark) → shown x ≡ now → Tell (λ t. shown (in_force tick x xs t)) (bars_on tick shown begin now end xs)
unfolding bars_on
tells tick shown begin x end [] lt before rises within now is = ((λ t from below. sym is), tt)
tells tick shown begin x end (y ∷ ys) lt before rises within now is =
    elim (cases_Bool (is_same (shown y) now)) [
      | inl e ↦
          let as_now : shown y ≡ now = same-mark (shown y) now e in
          let nearer = sooner tick begin (tick y) ys before rises.0 in
          let fill = fills tick shown begin now end ys lt nearer rises.1 within.1 in
          rw e
          (tell-as (λ t. shown (in_force tick y ys t)) (λ t. shown (in_force tick x (y ∷ ys) t)) begin end (bars_on tick shown begin now end ys) fill
          (λ t from below. elim (leb_tells (tick y) t) [
            | inl told ↦ let here : leb (tick y) t ≡ true = told.0 in rw here refl
            | inr told ↦
                let not_yet : leb (tick y) t ≡ false = told.0 in
                let behind : t < tick y = told.1 in
                rw not_yet (ap shown (in-force-before tick y ys t (tick y) rises.0 (omega (arith, behind))) ∙ as_now ∙ sym is)
          ]) (tells tick shown begin y end ys lt nearer rises.1 within.1 now as_now))
      | inr e ↦
          let fill = fills tick shown (tick y) (shown y) end ys within.0 rises.0 rises.1 within.1 in
          rw e (
            (λ t from below. sym is ∙ ap shown (sym (in-force-before tick x (y ∷ ys) t t below (omega arith)))),
            tell-as (λ t. shown (in_force tick y ys t)) (λ t. shown (in_force tick x (y ∷ ys) t)) (tick y) end (bars_on tick shown (tick y) (shown y) end ys) fill
                (λ t from below. let here : leb (tick y) t ≡ true = le-leb (tick y) t from in rw here refl)
                (tells tick shown (tick y) y end ys within.0 rises.0 rises.1 within.1 (shown y) refl),
          )
    ]

-- ## The bars of a line

before-both : {A : Type 0} (tick : A → ℕ) (one other : ℕ) (xs : List A) → IsBefore tick one xs → IsBefore tick other xs → IsBefore tick (max one other) xs
before-both tick one other [] first second = tt
before-both tick one other (x ∷ xs) first second = omega (arith, first, second)

stretches-as : (begin other end : ℕ) (f g : ℕ → BandMark) (bars : List Bar) → other ≡ begin → ((t : ℕ) → begin ≤ t → t < end → f t ≡ g t) →
    AreStretches begin end f bars → AreStretches other end g bars
stretches-as begin other end f g bars is same held =
    record { fill = rw is held.fill; differ = held.differ; tell = tell-as f g begin end bars held.fill same held.tell }

-- where the next item begins after the first tick of the line
from-here : {A : Type 0} (tick : A → ℕ) (shown : A → BandMark) (first end : ℕ) (x : A) (xs : List A) → Rises tick (x ∷ xs) → first < end → tick x < end →
    IsBefore tick first xs →
    AreStretches (max first (tick x)) end (λ t. shown (in_force tick x xs t)) (bars_of tick shown first end (before_tick tick end (x ∷ xs)))
unfolding before_tick bars_of
from-here tick shown first end x xs rises lt reached later =
    let early : ltb (tick x) end ≡ true = lt-ltb (tick x) end reached in
    let begins : max first (tick x) < end = omega (arith, lt, reached) in
    let cut = before_tick tick end xs in
    let next = cut-before tick end (max first (tick x)) xs (before-both tick first (tick x) xs later rises.0) in
    let rest = cut-rises tick end xs rises.1 in
    let within = cut-within tick end xs in
    let fill = fills tick shown (max first (tick x)) (shown x) end cut begins next rest within in
    rw early record {
      fill = fill;
      differ = differs tick shown (max first (tick x)) (shown x) end cut;
      tell =
          tell-as (λ t. shown (in_force tick x cut t)) (λ t. shown (in_force tick x xs t)) (max first (tick x)) end
          (bars_on tick shown (max first (tick x)) (shown x) end cut) fill (λ t from below. ap shown (in-force-cut tick x xs end t below))
          (tells tick shown (max first (tick x)) x end cut begins next rest within (shown x) refl);
    }

pub stretches : {A : Type 0} (tick : A → ℕ) (shown : A → BandMark) (first end : ℕ) (x : A) (xs : List A) → Rises tick (x ∷ xs) → first < end → tick x < end →
    AreStretches (max first (tick x)) end (λ t. shown (in_force tick x xs t)) (bars_of tick shown first end (in_line tick first end (x ∷ xs)))
unfolding from_tick
stretches tick shown first end x [] rises lt reached = from-here tick shown first end x [] rises lt reached tt
stretches tick shown first end x (y ∷ ys) rises lt reached =
    elim (leb_tells (tick y) first) [
      | inl told ↦
          let begun : leb (tick y) first ≡ true = told.0 in
          let early : tick y ≤ first = told.1 in
          let rise : tick x < tick y = rises.0 in
          rw begun
          (stretches-as (max first (tick y)) (max first (tick x)) end (λ t. shown (in_force tick y ys t)) (λ t. shown (in_force tick x (y ∷ ys) t))
          (bars_of tick shown first end (in_line tick first end (y ∷ ys))) (omega (arith, early, rise))
          (λ t from below. let here : leb (tick y) t ≡ true = le-leb (tick y) t (omega (arith, early, from)) in rw here refl)
          (stretches tick shown first end y ys rises.1 lt (omega (arith, early, lt))))
      | inr told ↦
          let late : leb (tick y) first ≡ false = told.0 in
          rw late (from-here tick shown first end x (y ∷ ys) rises lt reached told.1)
    ]

pub none-reached : {A : Type 0} (tick : A → ℕ) (shown : A → BandMark) (first end : ℕ) (x : A) (xs : List A) → Rises tick (x ∷ xs) → first < end → end ≤ tick x →
    bars_of tick shown first end (in_line tick first end (x ∷ xs)) ≡ []
unfolding from_tick before_tick bars_of
none-reached tick shown first end x [] rises lt beyond = let late : ltb (tick x) end ≡ false = le-ltb (tick x) end beyond in rw late refl
none-reached tick shown first end x (y ∷ ys) rises lt beyond =
    let late : ltb (tick x) end ≡ false = le-ltb (tick x) end beyond in
    let later : leb (tick y) first ≡ false = lt-leb (tick y) first (omega (arith, lt, beyond, rises.0)) in
    rw (later, late) refl
