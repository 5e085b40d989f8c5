-- The events of display lines, as the events of the same codes of what a log sees.
use Rattle.std.proofs.Common.{◌≡◌, ◌∙◌, ◌⊎◌, ℕ, ◌≤◌, ◌==◌, nat_le, Bool, true, false, not, ◌&&◌, ◌||◌, List, [], ◌∷◌, ◌++◌, map, filter, Option, Some, None, IfSome, option_map, if◌then◌else◌, refl, sym, ap, arith, inl, inr, append_assoc}
use Rattle.std.proofs.lemmas.Bool.{cases_Bool, cases_eq, eq-eqb, ne_eqb, and_right}
use Rattle.std.proofs.lemmas.List.Elements.{filter-append}
use Rattle.tsb_step.specs.tsb_types.Clip.{Agree}
use Rattle.tsb_step.specs.tsb_types.Events.{event, told, begins, ends, either, numbers_with}
use Rattle.tsb_step.specs.tsb_types.Lists.{among, is, run_from}
use Rattle.tsb_step.specs.tsb_types.declared.event.Event.{Event}
use Rattle.tsb_step.specs.tsb_types.declared.event.TheConstants as codes
use Rattle.tsb_step.specs.tsb_types.declared.limits.TheConstants.{PREEMPTS}
use Rattle.tsb_step.specs.tsb_types.declared.stage.Stage.{Stage}
use Rattle.tsb_step.proofs.tsb_types.NumberLemmas.{filter-none, numbers-least}
use Rattle.tsb_step.specs.Events as events
use Rattle.tsb_step.specs.declared.log_form.Noted.{Noted}
use Rattle.tsb_step.specs.Events.{View, Found, Selected, lit_overlaps, serves}
use Rattle.tsb_events.proofs.AgreeLemmas.{begun-same, agree-either}
use Rattle.tsb_events.proofs.OrderLemmas.{alarm-span, button-span, call-span, crossing-span, cycle-span, ending-span, pattern-span, request-span, vehicle-span, zero-span}
use Rattle.tsb_field_display.specs.declared.shown.Shown.{Shown}
use Rattle.tsb_field_display.specs.declared.shown.Signals.{Signals}
use Rattle.tsb_field_display.specs.Events as lines
use Rattle.tsb_field_display.specs.Events.{is_green, is_yellow, is_walk, is_clearance, is_overlap_green, is_overlap_yellow, is_overlap_arrow, is_overlap_lit, is_in_flash}
use Rattle.tsb_laws.specs.Told.{is_on_line, is_of_line}
use Rattle.tsb_laws.proofs.events.KeptLemmas.{Kept, both, first-alone, second-alone, all-told, none-told, none-of, not-among}

-- ## What is kept of the events of an input

-- display lines have events of these codes
abbrev line_codes : List ℕ
line_codes = 1 ∷ 7 ∷ 8 ∷ 9 ∷ 21 ∷ 22 ∷ 23 ∷ 32 ∷ 33 ∷ 61 ∷ 63 ∷ 64 ∷ 105 ∷ 173 ∷ []

abbrev pub by_line : ℕ → Bool
by_line c = among c line_codes

abbrev vehicles_of : ℕ → View → View → List Event
vehicles_of tick v w =
    told tick 1 (begins v.greens w.greens) ++ told tick 7 (ends v.greens w.greens) ++ told tick 8 (begins v.yellows w.yellows)
    ++ told tick 9 (ends v.yellows w.yellows)

abbrev pedestrians_of : ℕ → View → View → List Event
pedestrians_of tick v w =
    told tick 21 (begins v.walks w.walks) ++ told tick 22 (begins v.clearances w.clearances)
    ++ told tick 23 (ends (either v.walks v.clearances) (either w.walks w.clearances))

abbrev overlaps_of : ℕ → View → View → List Event
overlaps_of tick v w =
    told tick 61 (begins v.overlap_greens w.overlap_greens) ++ told tick 63 (begins v.overlap_yellows w.overlap_yellows)
    ++ told tick 64 (ends (lit_overlaps v) (lit_overlaps w))

-- the events of display lines, of what a log sees
abbrev pub lines_of : ℕ → View → View → List Event
lines_of tick v w =
    vehicles_of tick v w ++ pedestrians_of tick v w ++ events.arrow_events tick v w ++ overlaps_of tick v w ++ told tick 105 (begins v.preempts w.preempts)
    ++ events.flash_events tick v w

abbrev of_greens : ℕ → View → View → List Event
of_greens tick v w = told tick 1 (begins v.greens w.greens)

abbrev of_clearings : ℕ → View → View → List Event
of_clearings tick v w =
    told tick 7 (ends v.greens w.greens) ++ told tick 8 (begins v.yellows w.yellows) ++ told tick 9 (ends v.yellows w.yellows)

kept-green : (tick : ℕ) (v w : View) → Kept by_line (events.green_events tick v w) (of_greens tick v w)
kept-green tick v w =
    first-alone (second-alone (none-told by_line tick codes.PHASE_ON _ refl) (all-told by_line tick codes.GREEN_BEGINS _ refl))
    (none-told by_line tick codes.CONFLICT_BEGINS _ refl)

kept-clearing : (tick : ℕ) (v w : View) → Kept by_line (events.clearing_events tick v w) (of_clearings tick v w)
kept-clearing tick v w =
    first-alone (first-alone (first-alone (both (both (all-told by_line tick codes.GREEN_ENDS _ refl)
    (all-told by_line tick codes.YELLOW_BEGINS _ refl)) (all-told by_line tick codes.YELLOW_ENDS _ refl))
    (none-told by_line tick codes.RED_CLEARANCE_BEGINS _ refl)) (none-told by_line tick codes.RED_CLEARANCE_ENDS _ refl))
    (none-told by_line tick codes.PHASE_OFF _ refl)

kept-pedestrian : (tick : ℕ) (v w : View) → Kept by_line (events.pedestrian_events tick v w) (pedestrians_of tick v w)
kept-pedestrian tick v w =
    both (both (all-told by_line tick codes.WALK_BEGINS _ refl) (all-told by_line tick codes.CLEARANCE_BEGINS _ refl))
    (all-told by_line tick codes.DONT_WALK_BEGINS _ refl)

kept-overlap : (tick : ℕ) (v w : View) → Kept by_line (events.overlap_events tick v w) (overlaps_of tick v w)
kept-overlap tick v w =
    first-alone (both (both (first-alone (all-told by_line tick codes.OVERLAP_GREEN_BEGINS _ refl)
    (none-told by_line tick codes.OVERLAP_TRAIL_BEGINS _ refl)) (all-told by_line tick codes.OVERLAP_YELLOW_BEGINS _ refl))
    (all-told by_line tick codes.OVERLAP_RED_BEGINS _ refl)) (none-told by_line tick codes.OVERLAP_OFF _ refl)

kept-arrow : (tick : ℕ) (v w : View) → Kept by_line (events.arrow_events tick v w) (events.arrow_events tick v w)
kept-arrow tick v w = both (all-told by_line tick codes.ARROW_BEGINS _ refl) (all-told by_line tick codes.ARROW_ENDS _ refl)

kept-preempt : (tick : ℕ) (v w : View) → Kept by_line (events.preempt_events tick v w) (told tick 105 (begins v.preempts w.preempts))
kept-preempt tick v w =
    first-alone (first-alone (all-told by_line tick codes.PREEMPT_ENTERS _ refl) (none-told by_line tick codes.TRACK_BEGINS _ refl))
    (none-told by_line tick codes.DWELL_BEGINS _ refl)

kept-flash : (tick : ℕ) (v w : View) → Kept by_line (events.flash_events tick v w) (events.flash_events tick v w)
kept-flash tick v w = go (w.flashes && not v.flashes) (v.flashes && not w.flashes)
  where
    go : (a b : Bool) → Kept by_line
        (if a then event tick codes.FLASH_CHANGES codes.FLASH ∷ [] else (if b then event tick codes.FLASH_CHANGES codes.NO_FLASH ∷ [] else []))
        (if a then event tick codes.FLASH_CHANGES codes.FLASH ∷ [] else (if b then event tick codes.FLASH_CHANGES codes.NO_FLASH ∷ [] else []))
    go true b = record { kept = refl }
    go false true = record { kept = refl }
    go false false = record { kept = refl }

-- green begins before the rest of the vehicle heads
in-order : (a b c d : List Event) → a ++ (b ++ c ++ d) ≡ a ++ b ++ c ++ d
in-order a b c d = sym (append_assoc a (b ++ c) d) ∙ ap (λ (es : List Event). es ++ d) (sym (append_assoc a b c))

abbrev parted : ℕ → View → View → List Event
parted tick v w =
    of_greens tick v w ++ of_clearings tick v w ++ pedestrians_of tick v w ++ events.arrow_events tick v w ++ overlaps_of tick v w
    ++ told tick 105 (begins v.preempts w.preempts) ++ events.flash_events tick v w

whole : (tick : ℕ) (v w : View) → parted tick v w ≡ lines_of tick v w
whole tick v w =
    ap (λ (es : List Event). es ++ pedestrians_of tick v w ++ events.arrow_events tick v w ++ overlaps_of tick v w ++ told tick 105 (begins v.preempts w.preempts)
    ++ events.flash_events tick v w)
    (in-order (of_greens tick v w) (told tick 7 (ends v.greens w.greens)) (told tick 8 (begins v.yellows w.yellows))
    (told tick 9 (ends v.yellows w.yellows)))

pub ticks-kept : (tick : ℕ) (f : Found) (v w : View) → filter (λ e. by_line e.code) (events.tick_events tick f v w) ≡ lines_of tick v w
ticks-kept tick f v w = all.kept ∙ whole tick v w
  where
    to_overlaps : Kept by_line
        (events.green_events tick v w ++ events.ending_events tick f ++ events.clearing_events tick v w ++ events.pedestrian_events tick v w
        ++ events.crossing_events tick v w ++ events.arrow_events tick v w ++ events.call_events tick f.noted.form v w
        ++ events.overlap_events tick v w)
        (of_greens tick v w ++ of_clearings tick v w ++ pedestrians_of tick v w ++ events.arrow_events tick v w ++ overlaps_of tick v w)
    to_overlaps =
        both (first-alone (both (first-alone (both (both (first-alone (kept-green tick v w) (none-of (ending-span tick f) (not-among 3 7 line_codes refl))) (kept-clearing tick v w))
        (kept-pedestrian tick v w)) (none-of (crossing-span tick v w) (not-among 31 32 line_codes refl))) (kept-arrow tick v w))
        (none-of (call-span tick f.noted.form v w) (not-among 43 46 line_codes refl))) (kept-overlap tick v w)

    all : Kept by_line (events.tick_events tick f v w) (parted tick v w)
    all =
        both (first-alone (first-alone (first-alone (first-alone (both (first-alone (first-alone (first-alone (first-alone to_overlaps
        (none-of (vehicle-span tick f.noted f.row v w) (not-among 81 83 line_codes refl))) (none-of (alarm-span tick v w) (not-among 83 85 line_codes refl)))
        (none-of (button-span tick f) (not-among 89 91 line_codes refl))) (none-of (request-span tick f.noted.row f.row v w) (not-among 102 105 line_codes refl))) (kept-preempt tick v w)) (none-told by_line tick codes.PRESENCE_EXCEEDED _ refl))
        (none-told by_line tick codes.EXIT_BEGINS _ refl)) (none-of (zero-span tick f v w) (not-among 150 151 line_codes refl)))
        (none-told by_line tick codes.YIELD_POINT _ refl)) (kept-flash tick v w)

pub others-kept : (tick : ℕ) (noted : Noted) (v w : View) (s t : Selected) → filter (λ e. by_line e.code) (events.other_events tick noted v w s t) ≡ lines_of tick v w
others-kept tick noted v w s t = all.kept ∙ whole tick v w
  where
    all : Kept by_line (events.other_events tick noted v w s t) (parted tick v w)
    all =
        both (first-alone (first-alone (first-alone (both (first-alone (first-alone (first-alone (both (first-alone (both (both (both (kept-green tick v w) (kept-clearing tick v w))
        (kept-pedestrian tick v w)) (kept-arrow tick v w)) (none-of (call-span tick noted.form v w) (not-among 43 46 line_codes refl))) (kept-overlap tick v w))
        (none-of (vehicle-span tick noted noted.row v w) (not-among 81 83 line_codes refl))) (none-of (alarm-span tick v w) (not-among 83 85 line_codes refl)))
        (none-of (request-span tick noted.row noted.row v w) (not-among 102 105 line_codes refl))) (kept-preempt tick v w))
        (none-told by_line tick codes.EXIT_BEGINS _ refl))
        (none-of (pattern-span tick s t) (not-among 131 150 line_codes refl)))
        (none-of (cycle-span tick v w) (not-among 150 151 line_codes refl)))
        (kept-flash tick v w)

-- ## Of what the line shows

-- a line shows overlaps 1 to 4, and a wide line all
abbrev lit_on : Bool → (ℕ → Bool) → ℕ → Bool
lit_on is_wide test o = (is_wide || nat_le o 4) && test o

-- what a line shows of a view
abbrev pub on_line : Bool → View → View
on_line is_wide v = record v {
  overlap_greens = lit_on is_wide v.overlap_greens;
  overlap_yellows = lit_on is_wide v.overlap_yellows;
  overlap_arrows = lit_on is_wide v.overlap_arrows;
}

filter-twice : (p q : Event → Bool) (es : List Event) → filter (λ e. p e && q e) es ≡ filter q (filter p es)
filter-twice p q [] = refl
filter-twice p q (e ∷ es) = elim (cases_Bool (p e)) [
  | inl h ↦ elim (cases_Bool (q e)) [
    | inl k ↦ rw (h, k) (ap (λ (fs : List Event). e ∷ fs) (filter-twice p q es))
    | inr k ↦ rw (h, k) (filter-twice p q es)
  ]
  | inr h ↦ rw h (filter-twice p q es)
]

filter-whole : (es : List Event) → filter (λ e. true) es ≡ es
filter-whole [] = refl
filter-whole (e ∷ es) = ap (λ (fs : List Event). e ∷ fs) (filter-whole es)

-- a test that passes all events of a code
all-of : (test : Event → Bool) (tick code : ℕ) → ((n : ℕ) → test (event tick code n) ≡ true) → (ns : List ℕ) →
    filter test (map (λ n. event tick code n) ns) ≡ map (λ n. event tick code n) ns
all-of test tick code passes [] = refl
all-of test tick code passes (n ∷ ns) = rw (passes n) (ap (λ (es : List Event). event tick code n ∷ es) (all-of test tick code passes ns))

-- one that passes those of the numbers that pass another
few-of : (test : Event → Bool) (tick code : ℕ) (f g few : ℕ → Bool) → ((n : ℕ) → test (event tick code n) ≡ few n) → ((n : ℕ) → g n ≡ (few n && f n)) →
    (ns : List ℕ) → filter test (map (λ n. event tick code n) (filter f ns)) ≡ map (λ n. event tick code n) (filter g ns)
few-of test tick code f g few passes each [] = refl
few-of test tick code f g few passes each (n ∷ ns) =
    let rest : filter test (map (λ n. event tick code n) (filter f ns)) ≡ map (λ n. event tick code n) (filter g ns) = few-of test tick code f g few passes each ns in
    elim (cases_Bool (f n)) [
      | inl h ↦ elim (cases_Bool (few n)) [
        | inl k ↦
            let on : test (event tick code n) ≡ true = passes n ∙ k in
            let also : g n ≡ true = each n ∙ and-of (few n) (f n) k h in
            rw (h, on, also) (ap (λ (es : List Event). event tick code n ∷ es) rest)
        | inr k ↦
            let off : test (event tick code n) ≡ false = passes n ∙ k in
            let also : g n ≡ false = each n ∙ and-left (few n) (f n) k in
            rw (h, off, also) rest
      ]
      | inr h ↦ let also : g n ≡ false = each n ∙ and_right (few n) (f n) h in rw (h, also) rest
    ]
  where
    and-of : (a b : Bool) → a ≡ true → b ≡ true → (a && b) ≡ true
    and-of a b h k = rw (h, k) refl

    and-left : (a b : Bool) → a ≡ false → (a && b) ≡ false
    and-left a b h = rw h refl

begins-few : (f g : ℕ → Bool) (o : ℕ) → begins (lit_on false f) (lit_on false g) o ≡ (nat_le o 4 && begins f g o)
begins-few f g o = go (nat_le o 4) (f o) (g o)
  where
    go : (few a b : Bool) → ((few && b) && not (few && a)) ≡ (few && (b && not a))
    go true a b = refl
    go false a b = refl

either-few : (f g h k l m : ℕ → Bool) (o : ℕ) →
    begins (either (either (lit_on false f) (lit_on false g)) (lit_on false h)) (either (either (lit_on false k) (lit_on false l)) (lit_on false m)) o
    ≡ (nat_le o 4 && begins (either (either f g) h) (either (either k l) m) o)
either-few f g h k l m o = go (nat_le o 4) (f o) (g o) (h o) (k o) (l o) (m o)
  where
    go : (few a b c d e i : Bool) → ((((few && d) || (few && e)) || (few && i)) && not (((few && a) || (few && b)) || (few && c)))
        ≡ (few && (((d || e) || i) && not ((a || b) || c)))
    go true a b c d e i = refl
    go false a b c d e i = refl

-- the events of lines, one after the other
record Shows (es fs : List Event) : Type 0 where
  shown : filter (is_on_line false) es ≡ fs

join : {es fs gs hs : List Event} → Shows es gs → Shows fs hs → Shows (es ++ fs) (gs ++ hs)
join {es = es} {fs = fs} one other = record { shown = filter-append (is_on_line false) es fs ∙ λ i. one.shown i ++ other.shown i }

all-shown : (tick code : ℕ) (f : ℕ → Bool) → ((n : ℕ) → is_on_line false (event tick code n) ≡ true) → Shows (told tick code f) (told tick code f)
all-shown tick code f passes = record { shown = all-of (is_on_line false) tick code passes (numbers_with f) }

few-shown : (tick code : ℕ) (f g : ℕ → Bool) → ((n : ℕ) → is_on_line false (event tick code n) ≡ nat_le n 4) → ((n : ℕ) → g n ≡ (nat_le n 4 && f n)) →
    Shows (told tick code f) (told tick code g)
few-shown tick code f g passes each = record { shown = few-of (is_on_line false) tick code f g (λ n. nat_le n 4) passes each (run_from 1 16) }

flash-shown : (tick : ℕ) (v w : View) → Shows (events.flash_events tick v w) (events.flash_events tick v w)
flash-shown tick v w = go (w.flashes && not v.flashes) (v.flashes && not w.flashes)
  where
    go : (a b : Bool) → Shows
        (if a then event tick codes.FLASH_CHANGES codes.FLASH ∷ [] else (if b then event tick codes.FLASH_CHANGES codes.NO_FLASH ∷ [] else []))
        (if a then event tick codes.FLASH_CHANGES codes.FLASH ∷ [] else (if b then event tick codes.FLASH_CHANGES codes.NO_FLASH ∷ [] else []))
    go true b = record { shown = refl }
    go false true = record { shown = refl }
    go false false = record { shown = refl }

lines-shown : (tick : ℕ) (v w : View) → Shows (lines_of tick v w) (lines_of tick (on_line false v) (on_line false w))
lines-shown tick v w =
    join (join (join (join (join (join (join (join (all-shown tick 1 _ (λ n. refl)) (all-shown tick 7 _ (λ n. refl))) (all-shown tick 8 _ (λ n. refl))) (all-shown tick 9 _ (λ n. refl)))
    (join (join (all-shown tick 21 _ (λ n. refl)) (all-shown tick 22 _ (λ n. refl))) (all-shown tick 23 _ (λ n. refl))))
    (join (few-shown tick 32 _ _ (λ n. refl) (begins-few v.overlap_arrows w.overlap_arrows))
    (few-shown tick 33 _ _ (λ n. refl) (begins-few w.overlap_arrows v.overlap_arrows))))
    (join (join (few-shown tick 61 _ _ (λ n. refl) (begins-few v.overlap_greens w.overlap_greens))
    (few-shown tick 63 _ _ (λ n. refl) (begins-few v.overlap_yellows w.overlap_yellows)))
    (few-shown tick 64 _ _ (λ n. refl) (either-few w.overlap_greens w.overlap_yellows w.overlap_arrows v.overlap_greens v.overlap_yellows v.overlap_arrows))))
    (all-shown tick 105 _ (λ n. refl))) (flash-shown tick v w)

-- a wide line shows all that events of lines are about
pub wide-whole : (es : List Event) → filter (is_of_line true) es ≡ filter (λ e. by_line e.code) es
wide-whole es = filter-twice (λ (e : Event). by_line e.code) (is_on_line true) es ∙ filter-whole (filter (λ e. by_line e.code) es)

-- so of the events of lines those of what the line shows are the events of what it shows
pub shown-kept : (is_wide : Bool) (es : List Event) (tick : ℕ) (v w : View) → filter (λ e. by_line e.code) es ≡ lines_of tick v w →
    filter (is_of_line is_wide) es ≡ lines_of tick (on_line is_wide v) (on_line is_wide w)
shown-kept true es tick v w e = wide-whole es ∙ e
shown-kept false es tick v w e =
    filter-twice (λ (e : Event). by_line e.code) (is_on_line false) es ∙ ap (filter (is_on_line false)) e ∙ (lines-shown tick v w).shown

-- ## What lines show is what a log sees

-- a preempt in service is one of them
abbrev pub IsKnown : Option (ℕ × Stage) → Type 0
IsKnown served = IfSome (option_map (λ (service : ℕ × Stage). service.0) served) (λ n. (1 ≤ n) × (n ≤ PREEMPTS))

-- these signals show what this view sees; `served` is the preempt in service and its stage
pub record Sees (s : Signals) (v : View) (served : Option (ℕ × Stage)) : Type 0 where
  pub greens : Agree (is_green s) v.greens
  pub yellows : Agree (is_yellow s) v.yellows
  pub walks : Agree (is_walk s) v.walks
  pub clearances : Agree (is_clearance s) v.clearances
  pub overlap_greens : Agree (is_overlap_green s) v.overlap_greens
  pub overlap_yellows : Agree (is_overlap_yellow s) v.overlap_yellows
  pub overlap_arrows : Agree (is_overlap_arrow s) v.overlap_arrows
  pub preempt : s.preempt ≡ option_map (λ (service : ℕ × Stage). service.0) served
  pub known : IsKnown served
  pub preempts : v.preempts ≡ serves (λ k. true) served
  pub flash : is_in_flash s ≡ v.flashes

abbrev number : Option (ℕ × Stage) → Option ℕ
number served = option_map (λ (service : ℕ × Stage). service.0) served

serves-it : (o : Option (ℕ × Stage)) (n : ℕ) → serves (λ k. true) o n ≡ is n (number o)
serves-it None n = refl
serves-it (Some x) n = go (x.0 == n)
  where
    go : (b : Bool) → (b && true) ≡ b
    go true = refl
    go false = refl

-- of the preempts that begin, only this can be one
only-it : (was : Option (ℕ × Stage)) (x : ℕ × Stage) → 1 ≤ x.0 → x.0 ≤ 16 →
    numbers_with (begins (serves (λ k. true) was) (serves (λ k. true) (Some x))) ≡ (if is x.0 (number was) then [] else x.0 ∷ [])
only-it was x from within = elim (cases_Bool (is x.0 (number was))) [
  | inl b ↦ rw b (filter-none test 1 16 (λ n first below. none b n (cases_eq x.0 n)))
  | inr b ↦ rw b (numbers-least test (λ n. false) x.0 from within (had b) refl
      (λ k below. other k (λ same. absurd (omega (arith, same, below)))) (λ k differs. sym (other k (λ same. differs (sym same))))
      ∙ ap (λ (ns : List ℕ). x.0 ∷ ns) (filter-none (λ n. false) 1 16 (λ n first below. refl)))
]
  where
    test : ℕ → Bool
    test n = (x.0 == n && true) && not (serves (λ k. true) was n)

    other : (k : ℕ) → (x.0 ≡ k → ⊥) → test k ≡ false
    other k differs = rw (ne_eqb x.0 k differs) refl

    had : is x.0 (number was) ≡ false → test x.0 ≡ true
    had b = rw (eq-eqb x.0 x.0 refl, serves-it was x.0 ∙ b) refl

    none : is x.0 (number was) ≡ true → (n : ℕ) → (x.0 ≡ n) ⊎ (x.0 ≡ n → ⊥) → test n ≡ false
    none b n (inl same) =
        ap (λ (t : Bool). (x.0 == n && true) && not t) (ap (serves (λ k. true) was) (sym same) ∙ serves-it was x.0 ∙ b) ∙ and_right (x.0 == n && true) false refl
    none b n (inr differs) = other n differs

-- another preempt is in service than before, or none
preempt-told : (tick : ℕ) (was now : Option (ℕ × Stage)) → IsKnown now →
    lines.preempt_events (number was) tick (number now) ≡ told tick 105 (begins (serves (λ k. true) was) (serves (λ k. true) now))
preempt-told tick was None known = sym (ap (λ (ns : List ℕ). map (λ n. event tick 105 n) ns) (filter-none (λ n. false) 1 16 (λ n from below. refl)))
preempt-told tick was (Some x) known =
    told_if (is x.0 (number was)) ∙ sym (ap (λ (ns : List ℕ). map (λ n. event tick 105 n) ns) (only-it was x known.0 (omega (arith, known.1))))
  where
    told_if : (b : Bool) → (if b then [] else event tick 105 x.0 ∷ []) ≡ map (λ n. event tick 105 n) (if b then [] else x.0 ∷ [])
    told_if true = refl
    told_if false = refl

lit-agree : (s : Signals) (v : View) (served : Option (ℕ × Stage)) → Sees s v served → Agree (is_overlap_lit s) (lit_overlaps v)
lit-agree s v served sees = agree-either _ _ _ _ (agree-either _ _ _ _ sees.overlap_greens sees.overlap_yellows) sees.overlap_arrows

-- the events of display lines, of the views that these show
pub lines-same : (was : Signals) (now : Shown) (v w : View) (p q : Option (ℕ × Stage)) → Sees was v p → Sees now.signals w q →
    lines.events_of was now ≡ lines_of now.tick v w
unfolding lines.events_of
lines-same was now v w p q one other =
    λ i. (begun-same now.tick 1 _ _ _ _ one.greens other.greens i ++ begun-same now.tick 7 _ _ _ _ other.greens one.greens i
    ++ begun-same now.tick 8 _ _ _ _ one.yellows other.yellows i ++ begun-same now.tick 9 _ _ _ _ other.yellows one.yellows i)
    ++ (begun-same now.tick 21 _ _ _ _ one.walks other.walks i ++ begun-same now.tick 22 _ _ _ _ one.clearances other.clearances i
    ++ begun-same now.tick 23 _ _ _ _ (agree-either _ _ _ _ other.walks other.clearances) (agree-either _ _ _ _ one.walks one.clearances) i)
    ++ (begun-same now.tick 32 _ _ _ _ one.overlap_arrows other.overlap_arrows i
    ++ begun-same now.tick 33 _ _ _ _ other.overlap_arrows one.overlap_arrows i)
    ++ (begun-same now.tick 61 _ _ _ _ one.overlap_greens other.overlap_greens i
    ++ begun-same now.tick 63 _ _ _ _ one.overlap_yellows other.overlap_yellows i
    ++ begun-same now.tick 64 _ _ _ _ (lit-agree now.signals w q other) (lit-agree was v p one) i)
    ++ preempts i
    ++ lines.flash_events (one.flash i) now.tick (other.flash i)
  where
    preempts : lines.preempt_events was.preempt now.tick now.signals.preempt ≡ told now.tick 105 (begins v.preempts w.preempts)
    preempts =
        (λ i. lines.preempt_events (one.preempt i) now.tick (other.preempt i)) ∙ preempt-told now.tick p q other.known
        ∙ sym (λ i. told now.tick 105 (begins (one.preempts i) (other.preempts i)))
