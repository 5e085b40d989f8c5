use Rattle.std.proofs.Common.{◌∙◌}
use Rattle.tsb_heads.specs.Reading.{heads_of}
use Rattle.tsb_display_text.proofs.LetterLemmas.{dark, are_dark, lettered, pedestrian_letters-of}
use Rattle.tsb_display_text.proofs.letters.pedestrian_letters.Goals as goal

pub returns : goal.returns
returns c =
    pedestrian_letters-of (heads_of c.args.heads.now).pedestrian 16 (dark 16) _ _ _ c.with_letter.ensures.full (are_dark 16)
    (lettered _ _ _ (dark 16) _ _ (λ p. c.numbers_of.ensures p ∙ c.dont_walks.ensures p) c.with_letter-wait.ensures.each)
    (lettered _ _ _ _ _ _ (λ p. c.numbers_of-2.ensures p ∙ c.clearances.ensures p) c.with_letter-clear.ensures.each)
    (lettered _ _ _ _ _ _ (λ p. c.numbers_of-3.ensures p ∙ c.walks.ensures p) c.with_letter.ensures.each)
