-- A display line is ASCII text of 53 bytes, and of heads it has only those of phases 1 to 16 and of overlaps 1 to 4. A wide
-- line has 70, and overlaps 1 to 16.
use Rattle.std.proofs.Common.{◌≡◌, ◌∙◌, ℕ, ◌+◌, ◌-◌, ◌%◌, ◌<◌, ◌≤◌, Bool, true, false, if◌then◌else◌, List, [], ◌∷◌, ◌++◌, map, length, refl, ap, sym, arith, zero, suc, Option, Some, None, IfSome, take, drop, set, replicate}
use Rattle.std.specs.Str.{IsUtf8, IsAscii}
use Rattle.std.proofs.lemmas.Str.{IsUtf8-from_ascii}
use Rattle.tsb_types.specs.Lists.{run_from}
use Rattle.tsb_types.specs.declared.lamp.Aspect.{Aspect}
use Rattle.tsb_types.specs.declared.lamp.Aspect.TheVariants.{Dark, Red, Yellow, Green, FlashingRed, FlashingYellow}
use Rattle.tsb_types.specs.declared.lamp.PedestrianAspect.{PedestrianAspect}
use Rattle.tsb_types.specs.declared.lamp.PedestrianAspect.TheVariants as pedestrian_aspects
use Rattle.tsb_heads.specs.Heads.{Heads}
use Rattle.tsb_heads.specs.Promises.{IsSame}
use Rattle.tsb_lines.specs.Digits.{digit}
use Rattle.tsb_display_text.specs.Line.{line_in, line_of, wide_line_of, letter, pedestrian_letter, tick_field, vehicle_field, pedestrian_field, overlap_field, wide_overlap_field, local_field, preempt_digit}
use Rattle.tsb_display_text.specs.Rounds.{IsOfRound}
use Rattle.tsb_types.proofs.RunLemmas.{map-same}

pub line-length : (now : ℕ) (heads : Heads) (preempt local : Option ℕ) → length (line_of now heads preempt local) ≡ 53
unfolding line_of run_from
line-length now heads preempt None = refl
line-length now heads preempt (Some n) = refl

pub wide-length : (now : ℕ) (heads : Heads) (preempt local : Option ℕ) → length (wide_line_of now heads preempt local) ≡ 70
unfolding wide_line_of line_of run_from
wide-length now heads preempt None = refl
wide-length now heads preempt (Some n) = refl

-- a wide line begins with the line
pub wide-front : (now : ℕ) (heads : Heads) (preempt local : Option ℕ) → take 53 (wide_line_of now heads preempt local) ≡ line_of now heads preempt local
unfolding wide_line_of line_of run_from
wide-front now heads preempt None = refl
wide-front now heads preempt (Some n) = refl

-- so what it begins with has the length of a line
pub front-full : (now : ℕ) (heads : Heads) (preempt local : Option ℕ) (bytes : List ℕ) → bytes ≡ wide_line_of now heads preempt local →
    53 ≡ length (take 53 bytes)
front-full now heads preempt local bytes e =
    sym (ap (λ (bs : List ℕ). length (take 53 bs)) e ∙ ap length (wide-front now heads preempt local) ∙ line-length now heads preempt local)

-- what is shown of a wide line is the line that was asked for
pub shown-line : (is_wide : Bool) (now : ℕ) (heads : Heads) (preempt local : Option ℕ) (bytes : List ℕ) → bytes ≡ wide_line_of now heads preempt local
    → (if is_wide then bytes else take 53 bytes) ≡ line_in is_wide now heads preempt local
shown-line true now heads preempt local bytes e = e
shown-line false now heads preempt local bytes e = ap (take 53) e ∙ wide-front now heads preempt local

-- ## Text

small-letter : (a : Aspect) → letter a < 128
small-letter Dark = omega arith
small-letter Red = omega arith
small-letter Yellow = omega arith
small-letter Green = omega arith
small-letter FlashingRed = omega arith
small-letter FlashingYellow = omega arith

small-pedestrian_letter : (a : PedestrianAspect) → pedestrian_letter a < 128
small-pedestrian_letter pedestrian_aspects.Dark = omega arith
small-pedestrian_letter pedestrian_aspects.DontWalk = omega arith
small-pedestrian_letter pedestrian_aspects.Clearance = omega arith
small-pedestrian_letter pedestrian_aspects.Walk = omega arith

small-digit : (n unit : ℕ) → digit n unit < 128
small-digit n unit = omega arith

-- no preempt has a number above 8
small-preempt : (o : Option ℕ) → IfSome o (λ n. n ≤ 8) → preempt_digit o < 128
small-preempt None most = omega arith
small-preempt (Some n) most = omega arith

ascii-nil : IsAscii []
ascii-nil zero = omega arith
ascii-nil (suc i) = omega arith

ascii-cons : (b : ℕ) (bs : List ℕ) → b < 128 → IsAscii bs → IsAscii (b ∷ bs)
ascii-cons b bs h t zero = h
ascii-cons b bs h t (suc i) = t i

ascii-append : (bs ds : List ℕ) → IsAscii bs → IsAscii ds → IsAscii (bs ++ ds)
ascii-append [] ds h t = t
ascii-append (b ∷ bs) ds h t = ascii-cons b (bs ++ ds) (h 0) (ascii-append bs ds (λ i. h (suc i)) t)

ascii-map : (f : ℕ → ℕ) (ps : List ℕ) → ((p : ℕ) → f p < 128) → IsAscii (map f ps)
ascii-map f [] small = ascii-nil
ascii-map f (p ∷ ps) small = ascii-cons (f p) (map f ps) (small p) (ascii-map f ps small)

ascii-digits : (n : ℕ) (units : List ℕ) → IsAscii (map (digit n) units)
ascii-digits n units = ascii-map (digit n) units (λ unit. small-digit n unit)

ascii-local : (local : Option ℕ) → IsAscii (local_field local)
ascii-local None = ascii-map (λ k. 45) (1 ∷ 2 ∷ 3 ∷ 4 ∷ []) (λ k. omega arith)
ascii-local (Some n) = ascii-digits n (1000 ∷ 100 ∷ 10 ∷ 1 ∷ [])

-- after a space
ascii-spaced : (bs : List ℕ) → IsAscii bs → IsAscii (32 ∷ bs)
ascii-spaced bs t = ascii-cons 32 bs (omega arith) t

pub line-ascii : (now : ℕ) (heads : Heads) (preempt local : Option ℕ) → IfSome preempt (λ n. n ≤ 8) → IsAscii (line_of now heads preempt local)
unfolding line_of
line-ascii now heads preempt local most =
    let behind_preempt : List ℕ = 32 ∷ local_field local in
    let behind_overlaps : List ℕ = 32 ∷ preempt_digit preempt ∷ behind_preempt in
    let behind_pedestrians : List ℕ = 32 ∷ overlap_field heads.overlap ++ behind_overlaps in
    let behind_vehicles : List ℕ = 32 ∷ pedestrian_field heads.pedestrian ++ behind_pedestrians in
    let behind_tick : List ℕ = 32 ∷ vehicle_field heads.vehicle ++ behind_vehicles in
    let preempt_on : IsAscii behind_overlaps =
    ascii-spaced (preempt_digit preempt ∷ behind_preempt) (ascii-cons (preempt_digit preempt) behind_preempt (small-preempt preempt most) (ascii-spaced (local_field local) (ascii-local local))) in
    let overlaps_on : IsAscii behind_pedestrians =
    ascii-spaced (overlap_field heads.overlap ++ behind_overlaps) (ascii-append (overlap_field heads.overlap) behind_overlaps
    (ascii-map (λ o. letter (heads.overlap o)) (run_from 1 4) (λ o. small-letter (heads.overlap o))) preempt_on) in
    let pedestrians_on : IsAscii behind_vehicles =
    ascii-spaced (pedestrian_field heads.pedestrian ++ behind_pedestrians) (ascii-append (pedestrian_field heads.pedestrian) behind_pedestrians
    (ascii-map (λ p. pedestrian_letter (heads.pedestrian p)) (run_from 1 16) (λ p. small-pedestrian_letter (heads.pedestrian p))) overlaps_on) in
    let vehicles_on : IsAscii behind_tick =
    ascii-spaced (vehicle_field heads.vehicle ++ behind_vehicles) (ascii-append (vehicle_field heads.vehicle) behind_vehicles
    (ascii-map (λ p. letter (heads.vehicle p)) (run_from 1 16) (λ p. small-letter (heads.vehicle p))) pedestrians_on) in
    ascii-append (tick_field now) behind_tick (ascii-digits now (1000000 ∷ 100000 ∷ 10000 ∷ 1000 ∷ 100 ∷ 10 ∷ 1 ∷ [])) vehicles_on

pub line-utf8 : (now : ℕ) (heads : Heads) (preempt local : Option ℕ) → IfSome preempt (λ n. n ≤ 8) → IsUtf8 (line_of now heads preempt local)
line-utf8 now heads preempt local most =
    IsUtf8-from_ascii (line_of now heads preempt local) (line-ascii now heads preempt local most)

pub wide-utf8 : (now : ℕ) (heads : Heads) (preempt local : Option ℕ) → IfSome preempt (λ n. n ≤ 8) → IsUtf8 (wide_line_of now heads preempt local)
unfolding wide_line_of
wide-utf8 now heads preempt local most =
    IsUtf8-from_ascii (wide_line_of now heads preempt local) (ascii-append (line_of now heads preempt local) (32 ∷ wide_overlap_field heads.overlap) (line-ascii now heads preempt local most)
    (ascii-spaced (wide_overlap_field heads.overlap) (ascii-map (λ o. letter (heads.overlap o)) (run_from 1 16) (λ o. small-letter (heads.overlap o)))))

-- ## Heads

-- heads that show the same have the same line
pub line-same : (now : ℕ) (heads said : Heads) (preempt local : Option ℕ) → IsSame heads said →
    line_of now heads preempt local ≡ line_of now said preempt local
unfolding line_of
line-same now heads said preempt local same =
    let vehicles : vehicle_field heads.vehicle ≡ vehicle_field said.vehicle =
    map-same (λ p. letter (heads.vehicle p)) (λ p. letter (said.vehicle p)) 1 16 (λ p from below. ap letter (same.vehicle p from (omega arith))) in
    let pedestrians : pedestrian_field heads.pedestrian ≡ pedestrian_field said.pedestrian =
    map-same (λ p. pedestrian_letter (heads.pedestrian p)) (λ p. pedestrian_letter (said.pedestrian p)) 1 16 (λ p from below. ap pedestrian_letter (same.pedestrian p from (omega arith))) in
    let overlaps : overlap_field heads.overlap ≡ overlap_field said.overlap =
    map-same (λ o. letter (heads.overlap o)) (λ o. letter (said.overlap o)) 1 4 (λ o from below. ap letter (same.overlap o from (omega arith))) in
    λ i. tick_field now ++ (32 ∷ vehicles i ++ (32 ∷ pedestrians i ++ (32 ∷ overlaps i ++ (32 ∷ preempt_digit preempt ∷ 32 ∷ local_field local))))

-- and the same wide line
pub wide-same : (now : ℕ) (heads said : Heads) (preempt local : Option ℕ) → IsSame heads said →
    wide_line_of now heads preempt local ≡ wide_line_of now said preempt local
unfolding wide_line_of
wide-same now heads said preempt local same =
    let overlaps : wide_overlap_field heads.overlap ≡ wide_overlap_field said.overlap =
    map-same (λ o. letter (heads.overlap o)) (λ o. letter (said.overlap o)) 1 16 (λ o from below. ap letter (same.overlap o from (omega arith))) in
    λ i. line-same now heads said preempt local same i ++ (32 ∷ overlaps i)

-- ## Writing

-- a field of n bytes put into a line
abbrev pub placed : ℕ → ℕ → List ℕ → List ℕ → List ℕ
placed at n field line = take at line ++ (field ++ drop (at + n) line)

-- all fields put into a line of spaces
abbrev pub written : List ℕ → List ℕ → List ℕ → List ℕ → ℕ → List ℕ → List ℕ
written tick vehicles pedestrians overlaps preempt local =
    placed 54 16 overlaps (placed 49 4 local (set (placed 42 4 (take 4 overlaps) (placed 25 16 pedestrians (placed 8 16 vehicles (placed 0 7 tick (replicate 70 32))))) 47 preempt))

pub line-written : (now : ℕ) (heads : Heads) (preempt local : Option ℕ) →
    written (tick_field now) (vehicle_field heads.vehicle) (pedestrian_field heads.pedestrian) (wide_overlap_field heads.overlap) (preempt_digit preempt) (local_field local)
    ≡ wide_line_of now heads preempt local
unfolding wide_line_of line_of run_from
line-written now heads preempt None = refl
line-written now heads preempt (Some n) = refl

-- ## Lines that are made of one another

-- the wide line with these digits of the tick number
abbrev with_digits : List ℕ → Heads → Option ℕ → Option ℕ → List ℕ
with_digits digits heads preempt local =
    (digits ++ (32 ∷ vehicle_field heads.vehicle ++ (32 ∷ pedestrian_field heads.pedestrian
    ++ (32 ∷ overlap_field heads.overlap ++ (32 ∷ preempt_digit preempt ∷ 32 ∷ local_field local))))) ++ (32 ∷ wide_overlap_field heads.overlap)

-- a line gets another tick number
pub line-renumbered : (was now : ℕ) (heads : Heads) (preempt local : Option ℕ) →
    placed 0 7 (tick_field now) (wide_line_of was heads preempt local) ≡ wide_line_of now heads preempt local
unfolding wide_line_of line_of run_from
line-renumbered was now heads preempt None = refl
line-renumbered was now heads preempt (Some n) = refl

-- all digits but the last are those of each tick number of the round
round-digits : (was now : ℕ) → was - was % 10 ≡ now - now % 10 → set (tick_field was) 6 (digit now 1) ≡ tick_field now
round-digits was now same =
    let d1 : digit was 1000000 ≡ digit now 1000000 = omega arith in
    let d2 : digit was 100000 ≡ digit now 100000 = omega arith in
    let d3 : digit was 10000 ≡ digit now 10000 = omega arith in
    let d4 : digit was 1000 ≡ digit now 1000 = omega arith in
    let d5 : digit was 100 ≡ digit now 100 = omega arith in
    let d6 : digit was 10 ≡ digit now 10 = omega arith in
    λ i. d1 i ∷ d2 i ∷ d3 i ∷ d4 i ∷ d5 i ∷ d6 i ∷ digit now 1 ∷ []

-- a line gets its last digit, its preempt and its local counter
filled : (was units : ℕ) (heads : Heads) (preempt_was local_was preempt local : Option ℕ) →
    placed 49 4 (local_field local) (set (set (wide_line_of was heads preempt_was local_was) 6 units) 47 (preempt_digit preempt))
    ≡ with_digits (set (tick_field was) 6 units) heads preempt local
unfolding wide_line_of line_of run_from
filled was units heads preempt_was None preempt None = refl
filled was units heads preempt_was None preempt (Some n) = refl
filled was units heads preempt_was (Some m) preempt None = refl
filled was units heads preempt_was (Some m) preempt (Some n) = refl

with-digits : (now : ℕ) (heads : Heads) (preempt local : Option ℕ) → with_digits (tick_field now) heads preempt local ≡ wide_line_of now heads preempt local
unfolding wide_line_of line_of
with-digits now heads preempt local = refl

-- so a line of a round becomes that of another tick of it
pub line-filled : (line : List ℕ) (now : ℕ) (heads : Heads) (preempt local : Option ℕ) → IsOfRound line (now - now % 10) heads →
    placed 49 4 (local_field local) (set (set line 6 (digit now 1)) 47 (preempt_digit preempt)) ≡ wide_line_of now heads preempt local
unfolding IsOfRound
line-filled line now heads preempt local (was, preempt_was, local_was, round, is) =
    ap (λ (bytes : List ℕ). placed 49 4 (local_field local) (set (set bytes 6 (digit now 1)) 47 (preempt_digit preempt))) is
    ∙ filled was (digit now 1) heads preempt_was local_was preempt local
    ∙ ap (λ (digits : List ℕ). with_digits digits heads preempt local) (round-digits was now round)
    ∙ with-digits now heads preempt local

-- the line of a tick is one of its round
pub of-round : (line : List ℕ) (now : ℕ) (heads : Heads) (preempt local : Option ℕ) → line ≡ wide_line_of now heads preempt local → IsOfRound line (now - now % 10) heads
unfolding IsOfRound
of-round line now heads preempt local is = (now, preempt, local, refl, is)

-- that of a tick number that ends in 0 is one of its own
pub of-own-round : (line : List ℕ) (now : ℕ) (heads : Heads) (preempt local : Option ℕ) → line ≡ wide_line_of (now - now % 10) heads preempt local → IsOfRound line (now - now % 10) heads
unfolding IsOfRound
of-own-round line now heads preempt local is = (now - now % 10, preempt, local, omega arith, is)

-- a line gets the tick number of another round
pub round-renumbered : (line : List ℕ) (round now : ℕ) (heads : Heads) → IsOfRound line round heads →
    IsOfRound (placed 0 7 (tick_field (now - now % 10)) line) (now - now % 10) heads
unfolding IsOfRound
round-renumbered line round now heads (was, preempt, local, same, is) =
    of-own-round (placed 0 7 (tick_field (now - now % 10)) line) now heads preempt local
    (ap (placed 0 7 (tick_field (now - now % 10))) is ∙ line-renumbered was (now - now % 10) heads preempt local)
