-- What a display line shows of each head, colour by colour.
use Rattle.std.proofs.Common.{◌≡◌, ◌∙◌, ℕ, ◌<◌, ◌≤◌, ◌==◌, Bool, false, zero, suc, List, length, map, Option, IfSome, refl, ap, arith}
use Rattle.tsb_types.specs.Lists.{run_from}
use Rattle.tsb_types.specs.Sets.{has_number}
use Rattle.tsb_types.specs.declared.limits.TheConstants.{PREEMPTS}
use Rattle.tsb_types.specs.declared.lamp.Aspect.{Aspect}
use Rattle.tsb_types.specs.declared.lamp.Aspect.TheVariants.{Dark, Red, Yellow, Green, FlashingRed, FlashingYellow}
use Rattle.tsb_types.specs.declared.lamp.PedestrianAspect.{PedestrianAspect}
use Rattle.tsb_types.specs.declared.lamp.PedestrianAspect.TheVariants as pedestrian_aspects
use Rattle.tsb_display_text.specs.Line.{letter, line_in, pedestrian_letter}
use Rattle.tsb_display_text.specs.tsb_heads.Colours as colours
use Rattle.tsb_display_text.specs.tsb_heads.Heads.{Heads}
use Rattle.tsb_display_text.specs.tsb_heads.Monitoring as monitor
use Rattle.tsb_field_display.specs.Events.{is_green, is_yellow, is_walk, is_clearance, is_overlap_green, is_overlap_yellow, is_overlap_arrow}
use Rattle.tsb_field_display.specs.Reading.{heads_with, overlaps_in, preempt_of, signals_of}
use Rattle.tsb_field_display.specs.declared.shown.Signals.{Signals}
use Rattle.tsb_field_display.proofs.LetterLemmas.{names-beyond}
use Rattle.tsb_field_display.proofs.LineLemmas.{Fields, fields, head-letter, mapped-length, preempt-read}

-- ## Letters by what they spell

letter-green : (a : Aspect) → (letter a == 71) ≡ monitor.is_green a
letter-green Dark = refl
letter-green Red = refl
letter-green Yellow = refl
letter-green Green = refl
letter-green FlashingRed = refl
letter-green FlashingYellow = refl

letter-yellow : (a : Aspect) → (letter a == 89) ≡ colours.is_yellow a
letter-yellow Dark = refl
letter-yellow Red = refl
letter-yellow Yellow = refl
letter-yellow Green = refl
letter-yellow FlashingRed = refl
letter-yellow FlashingYellow = refl

letter-flashing : (a : Aspect) → (letter a == 70) ≡ colours.is_flashing a
letter-flashing Dark = refl
letter-flashing Red = refl
letter-flashing Yellow = refl
letter-flashing Green = refl
letter-flashing FlashingRed = refl
letter-flashing FlashingYellow = refl

letter-arrow : (a : Aspect) → (letter a == 80) ≡ colours.is_flashing_yellow a
letter-arrow Dark = refl
letter-arrow Red = refl
letter-arrow Yellow = refl
letter-arrow Green = refl
letter-arrow FlashingRed = refl
letter-arrow FlashingYellow = refl

letter-walk : (a : PedestrianAspect) → (pedestrian_letter a == 87) ≡ colours.shows_walk a
letter-walk pedestrian_aspects.Dark = refl
letter-walk pedestrian_aspects.DontWalk = refl
letter-walk pedestrian_aspects.Clearance = refl
letter-walk pedestrian_aspects.Walk = refl

letter-clearance : (a : PedestrianAspect) → (pedestrian_letter a == 67) ≡ colours.shows_clearance a
letter-clearance pedestrian_aspects.Dark = refl
letter-clearance pedestrian_aspects.DontWalk = refl
letter-clearance pedestrian_aspects.Clearance = refl
letter-clearance pedestrian_aspects.Walk = refl

-- ## Heads

-- these signals are those of heads, with this preempt in service; there are 16 heads, and as many overlaps as a line shows
pub record Shows (is_wide : Bool) (heads : Heads) (served : Option ℕ) (s : Signals) : Type 0 where
  pub greens : (p : ℕ) → 1 ≤ p → p ≤ 16 → is_green s p ≡ monitor.is_green (heads.vehicle p)
  pub yellows : (p : ℕ) → 1 ≤ p → p ≤ 16 → is_yellow s p ≡ colours.is_yellow (heads.vehicle p)
  pub flashing : (p : ℕ) → 1 ≤ p → p ≤ 16 → has_number s.vehicles.flashing p ≡ colours.is_flashing (heads.vehicle p)
  pub few_flashing : (p : ℕ) → 16 < p → has_number s.vehicles.flashing p ≡ false
  pub walks : (p : ℕ) → 1 ≤ p → p ≤ 16 → is_walk s p ≡ colours.shows_walk (heads.pedestrian p)
  pub clearances : (p : ℕ) → 1 ≤ p → p ≤ 16 → is_clearance s p ≡ colours.shows_clearance (heads.pedestrian p)
  pub overlap_greens : (o : ℕ) → 1 ≤ o → o ≤ overlaps_in is_wide → is_overlap_green s o ≡ monitor.is_green (heads.overlap o)
  pub overlap_yellows : (o : ℕ) → 1 ≤ o → o ≤ overlaps_in is_wide → is_overlap_yellow s o ≡ colours.is_yellow (heads.overlap o)
  pub overlap_arrows : (o : ℕ) → 1 ≤ o → o ≤ overlaps_in is_wide → is_overlap_arrow s o ≡ colours.is_flashing_yellow (heads.overlap o)
  pub few_overlap_greens : (o : ℕ) → overlaps_in is_wide < o → is_overlap_green s o ≡ false
  pub few_overlap_yellows : (o : ℕ) → overlaps_in is_wide < o → is_overlap_yellow s o ≡ false
  pub few_overlap_arrows : (o : ℕ) → overlaps_in is_wide < o → is_overlap_arrow s o ≡ false
  pub preempt : s.preempt ≡ served

-- a head has the letter of what it shows
spelled : {A : Type 0} (code : ℕ) (spell : A → ℕ) (test : A → Bool) → ((a : A) → (spell a == code) ≡ test a) → (f : ℕ → A) (n : ℕ) (letters : List ℕ) →
    letters ≡ map (λ p. spell (f p)) (run_from 1 n) → (p : ℕ) → 1 ≤ p → p ≤ n → has_number (heads_with code letters) p ≡ test (f p)
spelled code spell test same f n letters is p from within =
    ap (λ (bs : List ℕ). has_number (heads_with code bs) p) is ∙ head-letter code (λ q. spell (f q)) n p from within ∙ same (f p)

beyond : (code : ℕ) (spell : ℕ → ℕ) (n : ℕ) (letters : List ℕ) → letters ≡ map spell (run_from 1 n) → (p : ℕ) → n < p → has_number (heads_with code letters) p ≡ false
beyond code spell n letters is zero above = refl
beyond code spell n letters is (suc k) above =
    let whole : length (map spell (run_from 1 n)) ≡ n = mapped-length spell 1 n in
    ap (λ (bs : List ℕ). has_number (heads_with code bs) (suc k)) is
    ∙ names-beyond code (map spell (run_from 1 n)) k (omega (arith, whole, above))

shows : (is_wide : Bool) (now : ℕ) (heads : Heads) (preempt local : Option ℕ) (line : List ℕ) → IfSome preempt (λ n. (1 ≤ n) × (n ≤ PREEMPTS)) →
    Fields is_wide now heads preempt local line → Shows is_wide heads preempt (signals_of is_wide line)
shows is_wide now heads preempt local line known is_line = record {
  greens = spelled 71 letter monitor.is_green letter-green heads.vehicle 16 _ is_line.vehicles;
  yellows = spelled 89 letter colours.is_yellow letter-yellow heads.vehicle 16 _ is_line.vehicles;
  flashing = spelled 70 letter colours.is_flashing letter-flashing heads.vehicle 16 _ is_line.vehicles;
  few_flashing = beyond 70 (λ p. letter (heads.vehicle p)) 16 _ is_line.vehicles;
  walks = spelled 87 pedestrian_letter colours.shows_walk letter-walk heads.pedestrian 16 _ is_line.pedestrians;
  clearances = spelled 67 pedestrian_letter colours.shows_clearance letter-clearance heads.pedestrian 16 _ is_line.pedestrians;
  overlap_greens = spelled 71 letter monitor.is_green letter-green heads.overlap (overlaps_in is_wide) _ is_line.overlaps;
  overlap_yellows = spelled 89 letter colours.is_yellow letter-yellow heads.overlap (overlaps_in is_wide) _ is_line.overlaps;
  overlap_arrows = spelled 80 letter colours.is_flashing_yellow letter-arrow heads.overlap (overlaps_in is_wide) _ is_line.overlaps;
  few_overlap_greens = beyond 71 (λ o. letter (heads.overlap o)) (overlaps_in is_wide) _ is_line.overlaps;
  few_overlap_yellows = beyond 89 (λ o. letter (heads.overlap o)) (overlaps_in is_wide) _ is_line.overlaps;
  few_overlap_arrows = beyond 80 (λ o. letter (heads.overlap o)) (overlaps_in is_wide) _ is_line.overlaps;
  preempt = ap preempt_of is_line.served ∙ preempt-read preempt known;
}

pub line-shows : (is_wide : Bool) (now : ℕ) (heads : Heads) (preempt local : Option ℕ) → IfSome preempt (λ n. (1 ≤ n) × (n ≤ PREEMPTS)) →
    Shows is_wide heads preempt (signals_of is_wide (line_in is_wide now heads preempt local))
line-shows is_wide now heads preempt local known =
    shows is_wide now heads preempt local (line_in is_wide now heads preempt local) known (fields is_wide now heads preempt local)
