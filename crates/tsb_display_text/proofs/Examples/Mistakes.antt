-- One-line mistakes, each with an example in which it differs from the definition.
use Rattle.std.specs.Prelude.{◌≡◌, ℕ, ◌+◌, ◌==◌, if◌then◌else◌, ◌∷◌, [], List, map, codes, Option, Some, None, refl}
use Rattle.tsb_types.specs.declared.lamp.Aspect.{Aspect}
use Rattle.tsb_types.specs.declared.lamp.Aspect.TheVariants.{Dark, Red, Yellow, Green, FlashingRed, FlashingYellow}
use Rattle.tsb_types.specs.declared.lamp.PedestrianAspect.{PedestrianAspect}
use Rattle.tsb_types.specs.declared.lamp.PedestrianAspect.TheVariants as pedestrian_aspects
use Rattle.tsb_types.specs.Lists.{run_from}
use Rattle.tsb_lines.specs.Digits.{digit}
use Rattle.tsb_display_text.specs.Line.{letter, pedestrian_field, vehicle_field, preempt_digit, local_field}

-- ## Clearance is W, and walk is C

abbrev pub pedestrian_letter_swapped : PedestrianAspect → ℕ
pedestrian_letter_swapped pedestrian_aspects.Dark = 45
pedestrian_letter_swapped pedestrian_aspects.DontWalk = 68
pedestrian_letter_swapped pedestrian_aspects.Clearance = 87
pedestrian_letter_swapped pedestrian_aspects.Walk = 67

abbrev pub all_walk : ℕ → PedestrianAspect
all_walk p = pedestrian_aspects.Walk

walks : pedestrian_field all_walk ≡ codes "WWWWWWWWWWWWWWWW"
unfolding run_from
walks = refl

clears : map (λ p. pedestrian_letter_swapped (all_walk p)) (run_from 1 16) ≡ codes "CCCCCCCCCCCCCCCC"
unfolding run_from
clears = refl

-- ## A head that flashes is written as a lamp of its colour: red is R, yellow Y

abbrev pub letter_of_lamp : Aspect → ℕ
letter_of_lamp Dark = 45
letter_of_lamp Red = 82
letter_of_lamp Yellow = 89
letter_of_lamp Green = 71
letter_of_lamp FlashingRed = 82
letter_of_lamp FlashingYellow = 89

flashes : letter FlashingRed ∷ [] ≡ codes "F"
flashes = refl

flashes_not : letter_of_lamp FlashingRed ∷ [] ≡ codes "R"
flashes_not = refl

arrow : letter FlashingYellow ∷ [] ≡ codes "P"
arrow = refl

arrow_not : letter_of_lamp FlashingYellow ∷ [] ≡ codes "Y"
arrow_not = refl

-- ## A head is written at the place before its phase's

abbrev pub vehicle_field_early : (ℕ → Aspect) → List ℕ
vehicle_field_early vehicle = map (λ p. letter (vehicle p)) (run_from 2 16)

abbrev pub green_on_2 : ℕ → Aspect
green_on_2 p = if p == 2 then Green else Red

in_place : vehicle_field green_on_2 ≡ codes "RGRRRRRRRRRRRRRR"
unfolding run_from
in_place = refl

early : vehicle_field_early green_on_2 ≡ codes "GRRRRRRRRRRRRRRR"
unfolding run_from
early = refl

-- ## A local counter of 0 is written as none

abbrev pub local_field_unless_zero : Option ℕ → List ℕ
local_field_unless_zero None = codes "----"
local_field_unless_zero (Some n) =
    if n == 0 then codes "----" else digit n 1000 ∷ digit n 100 ∷ digit n 10 ∷ digit n 1 ∷ []

zero_runs : local_field (Some 0) ≡ codes "0000"
zero_runs = refl

zero_stands : local_field_unless_zero (Some 0) ≡ codes "----"
zero_stands = refl

-- ## Preempts count from 0

abbrev pub preempt_digit_from_zero : Option ℕ → ℕ
preempt_digit_from_zero None = 48
preempt_digit_from_zero (Some n) = 47 + n

first_preempt : preempt_digit (Some 1) ∷ [] ≡ codes "1"
first_preempt = refl

first_preempt_not : preempt_digit_from_zero (Some 1) ∷ [] ≡ codes "0"
first_preempt_not = refl
