use Rattle.std.proofs.Common.{◌∙◌}
use Rattle.tsb_types.specs.Sets.{has}
use Rattle.tsb_heads.specs.Reading.{heads_of}
use Rattle.tsb_display_text.proofs.LetterLemmas.{dark, are_dark, lettered, letters-of, never-arrow, unlettered}
use Rattle.tsb_display_text.proofs.letters.vehicle_letters.Goals as goal

pub returns : goal.returns
returns c =
    letters-of (heads_of c.args.heads.now).vehicle 16 (dark 16) _ _ _ _ _ c.with_letter.ensures.full (are_dark 16)
    (lettered _ _ _ (dark 16) _ _ (λ p. c.numbers_of.ensures p ∙ c.vehicle_reds.ensures p) c.with_letter-red.ensures.each)
    (lettered _ _ _ _ _ _ (λ p. c.numbers_of-2.ensures p ∙ c.vehicle_yellows.ensures p) c.with_letter-yellow.ensures.each)
    (lettered _ _ _ _ _ _ (λ p. c.numbers_of-3.ensures p ∙ c.vehicle_greens.ensures p) c.with_letter-green.ensures.each)
    (unlettered _ _ _ _ (λ p. never-arrow c.args.heads.now.flashing (has c.args.heads.now.red p) (has c.args.heads.now.yellow p) (has c.args.heads.now.green p)))
    (lettered _ _ _ _ _ _ (λ p. c.numbers_of-4.ensures p ∙ c.vehicles_flashing.ensures p) c.with_letter.ensures.each)
