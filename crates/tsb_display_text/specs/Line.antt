-- The display line, 53 bytes wide (profile): the tick number, the vehicle heads of phases 1 to 16, their pedestrian
-- heads, the heads of overlaps 1 to 4, the preempt in service, and the local counter of the pattern that runs, in
-- tenths of a second. A wide line, 70 bytes, has the heads of overlaps 1 to 16 behind it.
use Rattle.std.specs.Prelude.{ℕ, ◌+◌, Bool, if◌then◌else◌, List, [], ◌∷◌, ◌++◌, map, Option, Some, None, codes}
use Rattle.tsb_lines.specs.Digits.{digit, seven_digits}
use Rattle.tsb_types.specs.declared.lamp.Aspect.{Aspect}
use Rattle.tsb_types.specs.declared.lamp.Aspect.TheVariants.{Dark, Red, Yellow, Green, FlashingRed, FlashingYellow}
use Rattle.tsb_types.specs.declared.lamp.PedestrianAspect.{PedestrianAspect}
use Rattle.tsb_types.specs.declared.lamp.PedestrianAspect.TheVariants as pedestrian_aspects
use Rattle.tsb_types.specs.Lists.{run_from}
use Rattle.tsb_heads.specs.Heads.{Heads}

-- ## Letters

-- `-` for one that is dark, R, Y, G, F for one that flashes red, and P for one that flashes yellow
abbrev pub letter : Aspect → ℕ
letter Dark = 45
letter Red = 82
letter Yellow = 89
letter Green = 71
letter FlashingRed = 70
letter FlashingYellow = 80

-- `-` for one that is dark, D, C for clearance, and W
abbrev pub pedestrian_letter : PedestrianAspect → ℕ
pedestrian_letter pedestrian_aspects.Dark = 45
pedestrian_letter pedestrian_aspects.DontWalk = 68
pedestrian_letter pedestrian_aspects.Clearance = 67
pedestrian_letter pedestrian_aspects.Walk = 87

-- ## Fields

-- the tick number, in 7 digits
abbrev pub tick_field : ℕ → List ℕ
tick_field now = seven_digits now

-- 16 letters, that of phase 1 first
abbrev pub vehicle_field : (ℕ → Aspect) → List ℕ
vehicle_field vehicle = map (λ p. letter (vehicle p)) (run_from 1 16)

-- 16 letters, that of the pedestrian head of phase 1 first
abbrev pub pedestrian_field : (ℕ → PedestrianAspect) → List ℕ
pedestrian_field pedestrian = map (λ p. pedestrian_letter (pedestrian p)) (run_from 1 16)

-- 4 letters, that of overlap 1 first
abbrev pub overlap_field : (ℕ → Aspect) → List ℕ
overlap_field overlap = map (λ o. letter (overlap o)) (run_from 1 4)

-- 16 letters, that of overlap 1 first
abbrev pub wide_overlap_field : (ℕ → Aspect) → List ℕ
wide_overlap_field overlap = map (λ o. letter (overlap o)) (run_from 1 16)

-- the number of the preempt in service, 0 where none is; one digit, as there are preempts 1 to 8
abbrev pub preempt_digit : Option ℕ → ℕ
preempt_digit None = 48
preempt_digit (Some n) = 48 + n

-- the local counter in 4 digits, and dashes where no pattern runs
abbrev pub local_field : Option ℕ → List ℕ
local_field None = codes "----"
local_field (Some n) = digit n 1000 ∷ digit n 100 ∷ digit n 10 ∷ digit n 1 ∷ []

-- ## The line

-- the fields, with a space before each but the first
unfoldable pub line_of : ℕ → Heads → Option ℕ → Option ℕ → List ℕ
line_of now heads preempt local =
    tick_field now ++ (32 ∷ vehicle_field heads.vehicle ++ (32 ∷ pedestrian_field heads.pedestrian
    ++ (32 ∷ overlap_field heads.overlap ++ (32 ∷ preempt_digit preempt ∷ 32 ∷ local_field local))))

-- the wide line
unfoldable pub wide_line_of : ℕ → Heads → Option ℕ → Option ℕ → List ℕ
wide_line_of now heads preempt local = line_of now heads preempt local ++ (32 ∷ wide_overlap_field heads.overlap)

-- the line, or the wide one
abbrev pub line_in : Bool → ℕ → Heads → Option ℕ → Option ℕ → List ℕ
line_in is_wide now heads preempt local = if is_wide then wide_line_of now heads preempt local else line_of now heads preempt local
