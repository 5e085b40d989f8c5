use Rattle.tsb_heads.specs.Reading.{heads_of}
use Rattle.tsb_display_text.proofs.LetterLemmas.{dark, are_dark, lettered, letters-of}
use Rattle.tsb_display_text.proofs.letters.overlap_letters.Goals as goal

pub returns : goal.returns
returns c =
    letters-of (heads_of c.args.heads.now).overlap 16 (dark 16) _ _ _ _ _ c.with_letter.ensures.full (are_dark 16)
    (lettered _ _ _ (dark 16) _ _ c.overlap_reds.ensures c.with_letter-red.ensures.each)
    (lettered _ _ _ _ _ _ c.overlap_yellows.ensures c.with_letter-yellow.ensures.each)
    (lettered _ _ _ _ _ _ c.overlap_greens.ensures c.with_letter-green.ensures.each)
    (lettered _ _ _ _ _ _ c.overlap_arrows.ensures c.with_letter-arrow.ensures.each)
    (lettered _ _ _ _ _ _ c.overlaps_flashing.ensures c.with_letter.ensures.each)
