-- A wire is on in a tick where it is on at some moment of it, or is switched on in it.
use Rattle.std.proofs.Common.{◌≡◌, ℕ, ◌+◌, ◌<◌, ◌≤◌, Bool, true, false, ◌&&◌, ◌||◌, leb, ltb, zero, suc, List, [], ◌∷◌, length, get_or, refl, ap, ◌∙◌, arith, inl, inr, ◌⊎◌, if◌then◌else◌}
use Rattle.std.proofs.lemmas.Bool.{lt-ltb, le-leb, and_parts, or_left, or_right}
use Rattle.std.proofs.lemmas.Bool.Decides.{leb_tells}
use Rattle.std.specs.Prelude.{Contains}
use Rattle.tsb_field_log.specs.declared.inputs.Wire.{Wire}
use Rattle.tsb_field_log.specs.declared.inputs.InputEvent.{InputEvent}
use Rattle.tsb_field_log.specs.Inputs.{is_of, on_at, switched_on}
use Rattle.tsb_field_log.specs.Ticks.{begin_of, is_on_in}
use Rattle.tsb_field_log.specs.Laws.{IsIn, OnAtSomeMoment, AreOnAtSomeMoment}

abbrev Either : Bool → Bool → Type 0
Either x y = (x ≡ true) ⊎ (y ≡ true)

or-either : (x y : Bool) → (x || y) ≡ true → Either x y
or-either true y e = inl refl
or-either false y e = inr e

-- ## On at some moment, and not as the tick begins: it was switched on

-- an event of the wire, of which o says whether it switches on: f has what is at the later moment, and g at the earlier
rise-of : (o b c : Bool) (n m lo hi : ℕ) (F G : Bool → Bool) (s : Bool) → lo ≤ m → m < hi → (b ≡ true → c ≡ true)
    → F (if leb n m then o else b) ≡ true → G (if leb n lo then o else c) ≡ false
    → ((p q : Bool) → (p ≡ true → q ≡ true) → F p ≡ true → G q ≡ false → s ≡ true) → ((o && leb lo n && ltb n hi) || s) ≡ true
rise-of true b c n m lo hi F G s le lt h f g k = elim (leb_tells n lo) [
  | inl early ↦
      let at_m : leb n m ≡ true = le-leb n m (let e : n ≤ lo = early.1 in omega (arith, e, le)) in
      or_right (leb lo n && ltb n hi) s (k true true (λ e. e) (rw at_m at f) (rw early.0 at g))
  | inr late ↦ elim (leb_tells n m) [
    | inl within ↦
        let from : leb lo n ≡ true = le-leb lo n (let e : lo < n = late.1 in omega (arith, e)) in
        let to : ltb n hi ≡ true = lt-ltb n hi (let e : n ≤ m = within.1 in omega (arith, e, lt)) in
        rw (from, to) refl
    | inr behind ↦ or_right (leb lo n && ltb n hi) s (k b c h (rw behind.0 at f) (rw late.0 at g))
  ]
]
rise-of false b c n m lo hi F G s le lt h f g k = elim (leb_tells n lo) [
  | inl early ↦
      let at_m : leb n m ≡ true = le-leb n m (let e : n ≤ lo = early.1 in omega (arith, e, le)) in
      k false false (λ e. e) (rw at_m at f) (rw early.0 at g)
  | inr late ↦ elim (leb_tells n m) [
    | inl within ↦ k false c (λ e. absurd (cc)) (rw within.0 at f) (rw late.0 at g)
    | inr behind ↦ k b c h (rw behind.0 at f) (rw late.0 at g)
  ]
]

rise-at : (x o b c : Bool) (n m lo hi : ℕ) (F G : Bool → Bool) (s : Bool) → lo ≤ m → m < hi → (b ≡ true → c ≡ true)
    → F (if x && leb n m then o else b) ≡ true → G (if x && leb n lo then o else c) ≡ false
    → ((p q : Bool) → (p ≡ true → q ≡ true) → F p ≡ true → G q ≡ false → s ≡ true) → ((x && o && leb lo n && ltb n hi) || s) ≡ true
rise-at true o b c n m lo hi F G s le lt h f g k = rise-of o b c n m lo hi F G s le lt h f g k
rise-at false o b c n m lo hi F G s le lt h f g k = k b c h f g

rise : (b c : Bool) (wire : Wire) (m lo hi : ℕ) (es : List InputEvent) → lo ≤ m → m < hi → (b ≡ true → c ≡ true) → on_at b wire m es ≡ true → on_at c wire lo es ≡ false
    → switched_on wire lo hi es ≡ true
rise b c wire m lo hi [] le lt h on off = absurd (let up : c ≡ true = h on in cc)
rise b c wire m lo hi (e ∷ es) le lt h on off =
    rise-at (is_of wire e) e.on b c e.nanos m lo hi (λ p. on_at p wire m es) (λ q. on_at q wire lo es) (switched_on wire lo hi es) le lt h on off
    (λ p q up f g. rise p q wire m lo hi es le lt up f g)

-- ## The event that switched it on

-- an event that switches the wire on, at such a moment
abbrev Switches : Wire → ℕ → ℕ → InputEvent → Type 0
Switches wire lo hi event = (is_of wire event ≡ true) × (event.on ≡ true) × ((lo ≤ event.nanos) × (event.nanos < hi))

later : (e x : InputEvent) (es : List InputEvent) → Contains es x → Contains (e ∷ es) x
later e x es (k, below, is) = (suc k, (let lt : k < length es = below in omega (arith, lt)), is)

switch-of : (wire : Wire) (lo hi : ℕ) (es : List InputEvent) → switched_on wire lo hi es ≡ true → (event : InputEvent) × Contains es event × Switches wire lo hi event
switch-of wire lo hi [] on = absurd (cc)
switch-of wire lo hi (e ∷ es) on = elim (or-either (is_of wire e && e.on && leb lo e.nanos && ltb e.nanos hi) (switched_on wire lo hi es) on) [
  | inl here ↦
      let (early, to) = and_parts (is_of wire e && e.on && leb lo e.nanos) (ltb e.nanos hi) here in
      let (rises, from) = and_parts (is_of wire e && e.on) (leb lo e.nanos) early in
      let (own, up) = and_parts (is_of wire e) e.on rises in
      let low : lo ≤ e.nanos = elim (leb_tells lo e.nanos) [ inl z ↦ z.1 | inr z ↦ absurd (let no : leb lo e.nanos ≡ false = z.0 in cc) ] in
      let high : e.nanos < hi = elim (leb_tells (suc e.nanos) hi) [ inl z ↦ z.1 | inr z ↦ absurd (let no : ltb e.nanos hi ≡ false = z.0 in cc) ] in
      (e, (0, omega arith, refl), (own, up, (low, high)))
  | inr there ↦ let (event, among, is) = switch-of wire lo hi es there in (event, later e event es among, is)
]

switched-by : (wire : Wire) (lo hi : ℕ) (event : InputEvent) (es : List InputEvent) (k : ℕ) → k < length es → get_or es k event ≡ event → Switches wire lo hi event → switched_on wire lo hi es ≡ true
switched-by wire lo hi event [] k lt is s = absurd (omega (arith, lt))
switched-by wire lo hi event (e ∷ es) zero lt is s =
    let same : e ≡ event = is in
    let own : is_of wire e ≡ true = ap (is_of wire) same ∙ s.0 in
    let up : e.on ≡ true = ap (λ (x : InputEvent). x.on) same ∙ s.1 in
    let at : e.nanos ≡ event.nanos = ap (λ (x : InputEvent). x.nanos) same in
    let low : lo ≤ event.nanos = s.2.0 in
    let high : event.nanos < hi = s.2.1 in
    let from : leb lo e.nanos ≡ true = le-leb lo e.nanos (omega (arith, at, low)) in
    let to : ltb e.nanos hi ≡ true = lt-ltb e.nanos hi (omega (arith, at, high)) in
    or_left (is_of wire e && e.on && leb lo e.nanos && ltb e.nanos hi) (switched_on wire lo hi es) (every (is_of wire e) e.on (leb lo e.nanos) (ltb e.nanos hi) own up from to)
  where
    every : (x o p q : Bool) → x ≡ true → o ≡ true → p ≡ true → q ≡ true → (x && o && p && q) ≡ true
    every true true true true a b c d = refl
    every true true true false a b c d = d
    every true true false q a b c d = absurd (cc)
    every true false p q a b c d = absurd (cc)
    every false o p q a b c d = absurd (cc)
switched-by wire lo hi event (e ∷ es) (suc k) lt is s =
    or_right (is_of wire e && e.on && leb lo e.nanos && ltb e.nanos hi) (switched_on wire lo hi es)
    (switched-by wire lo hi event es k (omega (arith, lt)) is s)

-- ## Both ways

some-moment : (from : ℕ) (wire : Wire) (tick : ℕ) (events : List InputEvent) → 1 ≤ tick → is_on_in from wire tick events ≡ true → OnAtSomeMoment from wire tick events
some-moment from wire tick events one on =
    elim (or-either (on_at false wire (begin_of from tick) events) (switched_on wire (begin_of from tick) (begin_of from (tick + 1)) events) on) [
      | inl begun ↦ inl (begin_of from tick, (omega arith, omega (arith, one)), begun)
      | inr switched ↦ let (event, among, is) = switch-of wire (begin_of from tick) (begin_of from (tick + 1)) events switched in inr (event, among, is.0, is.1, is.2)
    ]

moment-on : (from : ℕ) (wire : Wire) (tick : ℕ) (events : List InputEvent) (moment : ℕ) → IsIn from tick moment → on_at false wire moment events ≡ true → is_on_in from wire tick events ≡ true
moment-on from wire tick events moment within on = begun (on_at false wire (begin_of from tick) events) refl
  where
    begun : (b : Bool) → on_at false wire (begin_of from tick) events ≡ b → is_on_in from wire tick events ≡ true
    begun true e = or_left (on_at false wire (begin_of from tick) events) (switched_on wire (begin_of from tick) (begin_of from (tick + 1)) events) e
    begun false e =
        or_right (on_at false wire (begin_of from tick) events) (switched_on wire (begin_of from tick) (begin_of from (tick + 1)) events)
        (rise false false wire moment (begin_of from tick) (begin_of from (tick + 1)) events within.0 within.1 (λ up. up) on e)

pub on-at-some-moment : AreOnAtSomeMoment
on-at-some-moment from wire tick events one = (
  some-moment from wire tick events one,
  λ on. elim on [
    | inl at ↦ moment-on from wire tick events at.0 at.1 at.2
    | inr by ↦
        or_right (on_at false wire (begin_of from tick) events) (switched_on wire (begin_of from tick) (begin_of from (tick + 1)) events)
        (switched-by wire (begin_of from tick) (begin_of from (tick + 1)) by.0 events by.1.0 by.1.1 by.1.2 (by.2, by.3, by.4))
  ],
)
