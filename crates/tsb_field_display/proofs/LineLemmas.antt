-- What is read of a display line is what it shows.
use Rattle.std.proofs.Common.{◌≡◌, ◌∙◌, ℕ, ◌+◌, ◌-◌, ◌/◌, ◌%◌, ◌<◌, ◌≤◌, ◌==◌, nat_le, Bool, true, false, ◌&&◌, zero, suc, List, [], ◌∷◌, map, length, slice_index, codes, Option, Some, None, IfSome, if◌then◌else◌, refl, sym, ap, arith}
use Rattle.std.specs.List.{list_all}
use Rattle.std.proofs.lemmas.Bool.{and_from, eq-eqb, ne_eqb, le-leb, true≢false}
use Rattle.tsb_lines.specs.Words.{number_of}
use Rattle.tsb_lines.proofs.DigitLemmas.{seven-digits-read}
use Rattle.tsb_types.proofs.RunLemmas.{at-run}
use Rattle.tsb_types.specs.Lists.{run_from, among}
use Rattle.tsb_types.specs.Sets.{has, has_number}
use Rattle.tsb_types.specs.declared.limits.TheConstants.{PREEMPTS}
use Rattle.tsb_types.specs.declared.lamp.Aspect.{Aspect}
use Rattle.tsb_types.specs.declared.lamp.Aspect.TheVariants.{Dark, Red, Yellow, Green, FlashingRed, FlashingYellow}
use Rattle.tsb_types.specs.declared.lamp.PedestrianAspect.{PedestrianAspect}
use Rattle.tsb_types.specs.declared.lamp.PedestrianAspect.TheVariants as pedestrian_aspects
use Rattle.tsb_display_text.specs.tsb_heads.declared.display.Display.{Display}
use Rattle.tsb_display_text.specs.tsb_heads.Colours.{is_flashing_yellow}
use Rattle.tsb_display_text.specs.tsb_heads.Heads.{Heads}
use Rattle.tsb_display_text.specs.tsb_heads.Reading.{heads_of}
use Rattle.tsb_display_text.proofs.LetterLemmas.{never-arrow}
use Rattle.tsb_lines.specs.Digits.{digit}
use Rattle.tsb_display_text.specs.Line.{line_in, line_of, wide_line_of, letter, pedestrian_letter, tick_field, vehicle_field, pedestrian_field, overlap_field, local_field, preempt_digit}
use Rattle.tsb_field_display.specs.Shows.{aspect_of, pedestrian_aspect_of}
use Rattle.tsb_field_display.specs.Reading.{heads_with, vehicles_of, pedestrians_of, is_spelled, is_preempt, preempt_of, is_local, field, has_space, is_display, is_whole, overlap_letters, overlaps_in, signals_of, shown_at, shown_of}
use Rattle.tsb_field_display.specs.Laws.{Tells, AreRead, DisplaysAreRead, HaveNoArrows}
use Rattle.tsb_field_display.proofs.LetterLemmas.{names-letter}

-- ## The tick

tick-number : (now : ℕ) → now < 10000000 → number_of (tick_field now) ≡ Some now
tick-number now small = seven-digits-read now small

-- ## Letters are those of heads

spelled-letter : (a : Aspect) → is_flashing_yellow a ≡ false → among (letter a) (codes "-RYGF") ≡ true
spelled-letter Dark never = refl
spelled-letter Red never = refl
spelled-letter Yellow never = refl
spelled-letter Green never = refl
spelled-letter FlashingRed never = refl
spelled-letter FlashingYellow never = absurd (true≢false never)

spelled-overlap_letter : (a : Aspect) → among (letter a) (codes "-RYGPF") ≡ true
spelled-overlap_letter Dark = refl
spelled-overlap_letter Red = refl
spelled-overlap_letter Yellow = refl
spelled-overlap_letter Green = refl
spelled-overlap_letter FlashingRed = refl
spelled-overlap_letter FlashingYellow = refl

spelled-pedestrian_letter : (a : PedestrianAspect) → among (pedestrian_letter a) (codes "-DCW") ≡ true
spelled-pedestrian_letter pedestrian_aspects.Dark = refl
spelled-pedestrian_letter pedestrian_aspects.DontWalk = refl
spelled-pedestrian_letter pedestrian_aspects.Clearance = refl
spelled-pedestrian_letter pedestrian_aspects.Walk = refl

all-mapped : (test : ℕ → Bool) (f : ℕ → ℕ) (ns : List ℕ) → ((n : ℕ) → test (f n) ≡ true) → list_all test (map f ns) ≡ true
all-mapped test f [] each = refl
all-mapped test f (n ∷ ns) each = and_from _ _ (each n) (all-mapped test f ns each)

is-digit : (n unit : ℕ) → (nat_le 48 (digit n unit) && nat_le (digit n unit) 57) ≡ true
is-digit n unit =
    let small : n / unit % 10 < 10 = omega arith in
    and_from _ _ (le-leb 48 (digit n unit) (omega arith)) (le-leb (digit n unit) 57 (omega (arith, small)))

local-digits : (local : Option ℕ) → is_local (local_field local) ≡ true
local-digits None = refl
local-digits (Some n) =
    let digits : list_all (λ b. nat_le 48 b && nat_le b 57) (map (digit n) (1000 ∷ 100 ∷ 10 ∷ 1 ∷ [])) ≡ true =
    all-mapped (λ b. nat_le 48 b && nat_le b 57) (digit n) (1000 ∷ 100 ∷ 10 ∷ 1 ∷ []) (is-digit n) in
    rw digits refl

preempt-digit : (preempt : Option ℕ) → IfSome preempt (λ n. (1 ≤ n) × (n ≤ PREEMPTS)) → is_preempt (preempt_digit preempt) ≡ true
preempt-digit None known = refl
preempt-digit (Some n) known = and_from _ _ (le-leb 48 (48 + n) (omega arith)) (le-leb (48 + n) (48 + PREEMPTS) (omega (arith, known.1)))

pub preempt-read : (preempt : Option ℕ) → IfSome preempt (λ n. (1 ≤ n) × (n ≤ PREEMPTS)) → preempt_of (preempt_digit preempt) ≡ preempt
preempt-read None known = refl
preempt-read (Some n) known =
    let other : (48 + n == 48) ≡ false = ne_eqb (48 + n) 48 (λ e. absurd (omega (arith, e, known.0))) in
    let same : 48 + n - 48 ≡ n = omega arith in
    rw (other, same) refl

-- ## Heads are read by their letters

pub mapped-length : (f : ℕ → ℕ) (a n : ℕ) → length (map f (run_from a n)) ≡ n
unfolding run_from
mapped-length f a zero = refl
mapped-length f a (suc n) = ap suc (mapped-length f (a + 1) n)

pub head-letter : (code : ℕ) (f : ℕ → ℕ) (n p : ℕ) → 1 ≤ p → p ≤ n → has_number (heads_with code (map f (run_from 1 n))) p ≡ (f p == code)
head-letter code f n zero from within = absurd (omega (arith, from))
head-letter code f n (suc k) from within =
    let whole : length (map f (run_from 1 n)) ≡ n = mapped-length f 1 n in
    let one : 1 + k ≡ suc k = omega arith in
    names-letter code (map f (run_from 1 n)) k (omega (arith, whole, within))
    ∙ ap (λ (b : ℕ). b == code) (at-run f 1 n k (omega (arith, within)) ∙ ap f one)

aspect-by : (a : Aspect) → (if letter a == 71 then Green else (if letter a == 89 then Yellow else (if letter a == 82 then Red else (if letter a == 70 then FlashingRed else (if letter a == 80 then FlashingYellow else Dark))))) ≡ a
aspect-by Dark = refl
aspect-by Red = refl
aspect-by Yellow = refl
aspect-by Green = refl
aspect-by FlashingRed = refl
aspect-by FlashingYellow = refl

pedestrian_aspect-by : (a : PedestrianAspect) → (if pedestrian_letter a == 87 then pedestrian_aspects.Walk else
    (if pedestrian_letter a == 67 then pedestrian_aspects.Clearance else
    (if pedestrian_letter a == 68 then pedestrian_aspects.DontWalk else pedestrian_aspects.Dark))) ≡ a
pedestrian_aspect-by pedestrian_aspects.Dark = refl
pedestrian_aspect-by pedestrian_aspects.DontWalk = refl
pedestrian_aspect-by pedestrian_aspects.Clearance = refl
pedestrian_aspect-by pedestrian_aspects.Walk = refl

heads-read : (f : ℕ → Aspect) (n p : ℕ) → 1 ≤ p → p ≤ n → aspect_of (vehicles_of (map (λ q. letter (f q)) (run_from 1 n))) p ≡ f p
heads-read f n p from within =
    rw (
      head-letter 71 (λ q. letter (f q)) n p from within,
      head-letter 89 (λ q. letter (f q)) n p from within,
      head-letter 82 (λ q. letter (f q)) n p from within,
      head-letter 70 (λ q. letter (f q)) n p from within,
      head-letter 80 (λ q. letter (f q)) n p from within,
    ) (aspect-by (f p))

pedestrians-read : (f : ℕ → PedestrianAspect) (n p : ℕ) → 1 ≤ p → p ≤ n → pedestrian_aspect_of (pedestrians_of (map (λ q. pedestrian_letter (f q)) (run_from 1 n))) p ≡ f p
pedestrians-read f n p from within =
    rw (
      head-letter 87 (λ q. pedestrian_letter (f q)) n p from within,
      head-letter 67 (λ q. pedestrian_letter (f q)) n p from within,
      head-letter 68 (λ q. pedestrian_letter (f q)) n p from within,
    ) (pedestrian_aspect-by (f p))

-- ## The line

pub record Fields (is_wide : Bool) (now : ℕ) (heads : Heads) (preempt local : Option ℕ) (line : List ℕ) : Type 0 where
  pub long : length line ≡ (if is_wide then 70 else 53)
  pub spaced : (has_space 7 line && has_space 24 line && has_space 41 line && has_space 46 line && has_space 48 line) ≡ true
  pub behind : is_wide ≡ true → has_space 53 line ≡ true
  pub tick : field 0 7 line ≡ tick_field now
  pub vehicles : field 8 16 line ≡ vehicle_field heads.vehicle
  pub pedestrians : field 25 16 line ≡ pedestrian_field heads.pedestrian
  pub first_overlaps : field 42 4 line ≡ overlap_field heads.overlap
  pub overlaps : overlap_letters is_wide line ≡ map (λ o. letter (heads.overlap o)) (run_from 1 (overlaps_in is_wide))
  pub served : slice_index line 47 ≡ preempt_digit preempt
  pub counter : field 49 4 line ≡ local_field local

narrow-fields : (now : ℕ) (heads : Heads) (preempt local : Option ℕ) → Fields false now heads preempt local (line_of now heads preempt local)
unfolding line_of run_from
narrow-fields now heads preempt None = record {
  long = refl;
  spaced = refl;
  behind = λ e. absurd (true≢false (sym e));
  tick = refl;
  vehicles = refl;
  pedestrians = refl;
  first_overlaps = refl;
  overlaps = refl;
  served = refl;
  counter = refl;
}
narrow-fields now heads preempt (Some n) = record {
  long = refl;
  spaced = refl;
  behind = λ e. absurd (true≢false (sym e));
  tick = refl;
  vehicles = refl;
  pedestrians = refl;
  first_overlaps = refl;
  overlaps = refl;
  served = refl;
  counter = refl;
}

wide-fields : (now : ℕ) (heads : Heads) (preempt local : Option ℕ) → Fields true now heads preempt local (wide_line_of now heads preempt local)
unfolding wide_line_of line_of run_from
wide-fields now heads preempt None = record {
  long = refl;
  spaced = refl;
  behind = λ e. refl;
  tick = refl;
  vehicles = refl;
  pedestrians = refl;
  first_overlaps = refl;
  overlaps = refl;
  served = refl;
  counter = refl;
}
wide-fields now heads preempt (Some n) = record {
  long = refl;
  spaced = refl;
  behind = λ e. refl;
  tick = refl;
  vehicles = refl;
  pedestrians = refl;
  first_overlaps = refl;
  overlaps = refl;
  served = refl;
  counter = refl;
}

pub fields : (is_wide : Bool) (now : ℕ) (heads : Heads) (preempt local : Option ℕ) → Fields is_wide now heads preempt local (line_in is_wide now heads preempt local)
fields true now heads preempt local = wide-fields now heads preempt local
fields false now heads preempt local = narrow-fields now heads preempt local

-- letters of heads are letters
spelled : (f : ℕ → Aspect) (ns : List ℕ) (letters : List ℕ) → ((n : ℕ) → is_flashing_yellow (f n) ≡ false) →
    letters ≡ map (λ n. letter (f n)) ns → is_spelled (codes "-RYGF") letters ≡ true
spelled f ns letters never e =
    ap (is_spelled (codes "-RYGF")) e ∙ all-mapped (λ b. among b (codes "-RYGF")) (λ n. letter (f n)) ns (λ n. spelled-letter (f n) (never n))

spelled-overlaps : (f : ℕ → Aspect) (ns : List ℕ) (letters : List ℕ) → letters ≡ map (λ n. letter (f n)) ns → is_spelled (codes "-RYGPF") letters ≡ true
spelled-overlaps f ns letters e =
    ap (is_spelled (codes "-RYGPF")) e ∙ all-mapped (λ b. among b (codes "-RYGPF")) (λ n. letter (f n)) ns (λ n. spelled-overlap_letter (f n))

whole : (is_wide : Bool) (now : ℕ) (heads : Heads) (preempt local : Option ℕ) (line : List ℕ) → Fields is_wide now heads preempt local line →
    is_whole is_wide line ≡ true
whole true now heads preempt local line is_line =
    and_from _ _ (and_from _ _ (eq-eqb _ _ is_line.long) (is_line.behind refl)) (spelled-overlaps heads.overlap (run_from 1 16) (field 54 16 line) is_line.overlaps)
whole false now heads preempt local line is_line = eq-eqb _ _ is_line.long

all-ten : (b c d e f g h i j k : Bool) → (b && c && d && e && f) ≡ true → g ≡ true → h ≡ true → i ≡ true → j ≡ true → k ≡ true →
    (b && c && d && e && f && g && h && i && j && k) ≡ true
all-ten b c d e f g h i j k pb pg ph pi pj pk = rw (pg, ph, pi, pj, pk) (rw pb refl)

display : (is_wide : Bool) (now : ℕ) (heads : Heads) (preempt local : Option ℕ) (line : List ℕ) → IfSome preempt (λ n. (1 ≤ n) × (n ≤ PREEMPTS)) →
    HaveNoArrows heads → Fields is_wide now heads preempt local line → is_display line ≡ true
unfolding is_display
display is_wide now heads preempt local line known never is_line =
    all-ten (has_space 7 line) (has_space 24 line) (has_space 41 line) (has_space 46 line) (has_space 48 line) _ _ _ _ _ is_line.spaced
    (spelled heads.vehicle (run_from 1 16) (field 8 16 line) never is_line.vehicles)
    (ap (is_spelled (codes "-DCW")) is_line.pedestrians ∙ all-mapped (λ b. among b (codes "-DCW")) (λ p. pedestrian_letter (heads.pedestrian p)) (run_from 1 16) (λ p. spelled-pedestrian_letter (heads.pedestrian p)))
    (spelled-overlaps heads.overlap (run_from 1 4) (field 42 4 line) is_line.first_overlaps)
    (ap is_preempt is_line.served ∙ preempt-digit preempt known)
    (ap is_local is_line.counter ∙ local-digits local)

tells : (is_wide : Bool) (now : ℕ) (heads : Heads) (preempt local : Option ℕ) (line : List ℕ) → IfSome preempt (λ n. (1 ≤ n) × (n ≤ PREEMPTS)) →
    Fields is_wide now heads preempt local line → Tells is_wide (record { tick = now; signals = signals_of is_wide line }) now heads preempt
tells is_wide now heads preempt local line known is_line = record {
  tick = refl;
  vehicles = λ p from within. ap (λ (bs : List ℕ). aspect_of (vehicles_of bs) p) is_line.vehicles ∙ heads-read heads.vehicle 16 p from within;
  pedestrians = λ p from within. ap (λ (bs : List ℕ). pedestrian_aspect_of (pedestrians_of bs) p) is_line.pedestrians ∙ pedestrians-read heads.pedestrian 16 p from within;
  overlaps = λ o from within. ap (λ (bs : List ℕ). aspect_of (vehicles_of bs) o) is_line.overlaps ∙ heads-read heads.overlap (overlaps_in is_wide) o from within;
  preempt = ap preempt_of is_line.served ∙ preempt-read preempt known;
}

pub read : (is_wide : Bool) (now : ℕ) (heads : Heads) (preempt local : Option ℕ) (line : List ℕ) → now < 10000000 → IfSome preempt (λ n. (1 ≤ n) × (n ≤ PREEMPTS)) →
    HaveNoArrows heads → Fields is_wide now heads preempt local line → shown_of is_wide line ≡ Some (record { tick = now; signals = signals_of is_wide line })
unfolding shown_of
read is_wide now heads preempt local line small known never is_line =
    ap (λ (b : Bool). if b then shown_at (number_of (field 0 7 line)) (signals_of is_wide line) else None)
    (and_from _ _ (whole is_wide now heads preempt local line is_line) (display is_wide now heads preempt local line known never is_line))
    ∙ ap (λ (o : Option ℕ). shown_at o (signals_of is_wide line)) (ap number_of is_line.tick ∙ tick-number now small)

pub are-read : AreRead
are-read is_wide now heads preempt local never small known =
    let line : List ℕ = line_in is_wide now heads preempt local in
    let is_line = fields is_wide now heads preempt local in (
      record { tick = now; signals = signals_of is_wide line },
      read is_wide now heads preempt local line small known never is_line,
      tells is_wide now heads preempt local line known is_line,
    )

-- of phases no head of a display flashes yellow
pub displays-never : (d : Display) → HaveNoArrows (heads_of d)
displays-never d p = never-arrow d.flashing (has d.red p) (has d.yellow p) (has d.green p)

pub displays-read : DisplaysAreRead
displays-read is_wide now d preempt local small known = are-read is_wide now (heads_of d) preempt local (displays-never d) small known
