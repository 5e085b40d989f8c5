-- The letters of heads, by the sets of those that show each colour.
use Rattle.std.proofs.Common.{◌≡◌, ◌∙◌, ℕ, ◌+◌, ◌<◌, Bool, true, false, List, get_or, replicate, map, length, refl, ap, if◌then◌else◌}
use Rattle.std.proofs.lemmas.List.{get_or-replicate}
use Rattle.tsb_types.specs.Lists.{run_from}
use Rattle.tsb_types.specs.Sets.{has_number}
use Rattle.tsb_types.specs.declared.number_set.NumberSet.{NumberSet}
use Rattle.tsb_types.specs.declared.lamp.Aspect.{Aspect}
use Rattle.tsb_types.specs.declared.lamp.Aspect.TheVariants.{Dark, Red, Yellow, Green, FlashingRed, FlashingYellow}
use Rattle.tsb_types.specs.declared.lamp.PedestrianAspect.{PedestrianAspect}
use Rattle.tsb_types.specs.declared.lamp.PedestrianAspect.TheVariants as pedestrian_aspects
use Rattle.tsb_heads.specs.Monitoring.{is_red, is_green}
use Rattle.tsb_heads.specs.Colours.{is_yellow, is_flashing, is_flashing_yellow, shows_dont_walk, shows_clearance, shows_walk}
use Rattle.tsb_heads.specs.Reading.{aspect_in, flashed_if}
use Rattle.tsb_types.proofs.RunLemmas.{map-run_from}
use Rattle.tsb_display_text.specs.Line.{letter, pedestrian_letter}

-- a letter for each head of a set, and for the others what they had
pub record Lettered (set : ℕ → Bool) (byte : ℕ) (old new : List ℕ) (n : ℕ) : Type 0 where
  pub each : (k : ℕ) → k < n → get_or new k 0 ≡ (if set (1 + k) then byte else get_or old k 0)

abbrev pub dark : ℕ → List ℕ
dark n = replicate n 45

pub are_dark : (n k : ℕ) → k < n → get_or (dark n) k 0 ≡ 45
are_dark n k below = get_or-replicate n k 45 0 below

pub lettered : (set : NumberSet) (test : ℕ → Bool) (byte : ℕ) (old new : List ℕ) (n : ℕ) → ((p : ℕ) → has_number set p ≡ test p) →
    ((k : ℕ) → k < n → get_or new k 0 ≡ (if has_number set (1 + k) then byte else get_or old k 0)) → Lettered test byte old new n
lettered set test byte old new n same each = record {
  each = λ k below. each k below ∙ ap (λ (b : Bool). if b then byte else get_or old k 0) (same (1 + k));
}

-- where no head passes a test, all have what they had
pub unlettered : (test : ℕ → Bool) (byte : ℕ) (old : List ℕ) (n : ℕ) → ((p : ℕ) → test p ≡ false) → Lettered test byte old old n
unlettered test byte old n none = record { each = λ k below. rw (none (1 + k)) refl }

-- the head of a phase never flashes yellow
pub never-arrow : (flashing red yellow green : Bool) → is_flashing_yellow (flashed_if flashing (aspect_in red yellow green)) ≡ false
never-arrow true red yellow true = refl
never-arrow true red true false = refl
never-arrow true true false false = refl
never-arrow true false false false = refl
never-arrow false red yellow true = refl
never-arrow false red true false = refl
never-arrow false true false false = refl
never-arrow false false false false = refl

letter_by : (a : Aspect) →
    (if is_flashing a then 70 else (if is_flashing_yellow a then 80 else (if is_green a then 71 else (if is_yellow a then 89 else (if is_red a then 82 else 45))))) ≡ letter a
letter_by Dark = refl
letter_by Red = refl
letter_by Yellow = refl
letter_by Green = refl
letter_by FlashingRed = refl
letter_by FlashingYellow = refl

pedestrian_letter_by : (a : PedestrianAspect) → (if shows_walk a then 87 else (if shows_clearance a then 67 else (if shows_dont_walk a then 68 else 45))) ≡ pedestrian_letter a
pedestrian_letter_by pedestrian_aspects.Dark = refl
pedestrian_letter_by pedestrian_aspects.DontWalk = refl
pedestrian_letter_by pedestrian_aspects.Clearance = refl
pedestrian_letter_by pedestrian_aspects.Walk = refl

-- of heads that are all dark at first, red, yellow, green and then flashing ones, those that flash yellow first
pub letters-of : (heads : ℕ → Aspect) (n : ℕ) (off red yellow green arrow all : List ℕ) → length all ≡ n →
    ((k : ℕ) → k < n → get_or off k 0 ≡ 45) →
    Lettered (λ p. is_red (heads p)) 82 off red n → Lettered (λ p. is_yellow (heads p)) 89 red yellow n →
    Lettered (λ p. is_green (heads p)) 71 yellow green n → Lettered (λ p. is_flashing_yellow (heads p)) 80 green arrow n →
    Lettered (λ p. is_flashing (heads p)) 70 arrow all n →
    all ≡ map (λ p. letter (heads p)) (run_from 1 n)
letters-of heads n off red yellow green arrow all full first reds yellows greens arrows flashing =
    map-run_from (λ p. letter (heads p)) 1 n all full (λ k below.
    flashing.each k below
    ∙ ap (λ (b : ℕ). if is_flashing (heads (1 + k)) then 70 else b) (arrows.each k below)
    ∙ ap (λ (b : ℕ). if is_flashing (heads (1 + k)) then 70 else (if is_flashing_yellow (heads (1 + k)) then 80 else b)) (greens.each k below)
    ∙ ap (λ (b : ℕ). if is_flashing (heads (1 + k)) then 70 else (if is_flashing_yellow (heads (1 + k)) then 80 else
    (if is_green (heads (1 + k)) then 71 else b))) (yellows.each k below)
    ∙ ap (λ (b : ℕ). if is_flashing (heads (1 + k)) then 70 else (if is_flashing_yellow (heads (1 + k)) then 80 else
    (if is_green (heads (1 + k)) then 71 else (if is_yellow (heads (1 + k)) then 89 else b)))) (reds.each k below)
    ∙ ap (λ (b : ℕ). if is_flashing (heads (1 + k)) then 70 else (if is_flashing_yellow (heads (1 + k)) then 80 else
    (if is_green (heads (1 + k)) then 71 else (if is_yellow (heads (1 + k)) then 89 else (if is_red (heads (1 + k)) then 82 else b))))) (first k below)
    ∙ letter_by (heads (1 + k)))

-- of heads that are all dark at first, those where pedestrians wait, finish crossing, and then start to walk
pub pedestrian_letters-of : (heads : ℕ → PedestrianAspect) (n : ℕ) (off wait clear all : List ℕ) → length all ≡ n →
    ((k : ℕ) → k < n → get_or off k 0 ≡ 45) →
    Lettered (λ p. shows_dont_walk (heads p)) 68 off wait n → Lettered (λ p. shows_clearance (heads p)) 67 wait clear n →
    Lettered (λ p. shows_walk (heads p)) 87 clear all n →
    all ≡ map (λ p. pedestrian_letter (heads p)) (run_from 1 n)
pedestrian_letters-of heads n off wait clear all full first waits clears walks =
    map-run_from (λ p. pedestrian_letter (heads p)) 1 n all full (λ k below.
    walks.each k below
    ∙ ap (λ (b : ℕ). if shows_walk (heads (1 + k)) then 87 else b) (clears.each k below)
    ∙ ap (λ (b : ℕ). if shows_walk (heads (1 + k)) then 87 else (if shows_clearance (heads (1 + k)) then 67 else b)) (waits.each k below)
    ∙ ap (λ (b : ℕ). if shows_walk (heads (1 + k)) then 87 else (if shows_clearance (heads (1 + k)) then 67 else
    (if shows_dont_walk (heads (1 + k)) then 68 else b))) (first k below)
    ∙ pedestrian_letter_by (heads (1 + k)))
