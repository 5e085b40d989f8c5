use Rattle.std.proofs.Common.{ℕ, List}
use Rattle.tsb_field_diagram.specs.declared.ends.GreenEnd.{GreenEnd}
use Rattle.tsb_field_diagram.specs.declared.ends.Why.TheVariants.{Gap}
use Rattle.tsb_field_diagram.specs.Letters.{end_text, letters_text}
use Rattle.tsb_field_diagram.proofs.CountLemmas.{place-more, place-end}
use Rattle.tsb_field_diagram.proofs.LetterLemmas.{letters-more, letters-none}
use Rattle.tsb_field_diagram.proofs.letters.append_letters.Goals as goal

abbrev no_end : GreenEnd
no_end = record { tick = 0; phase = 0; why = Gap }

pub loop-given-preserved : goal.loop-given-preserved
loop-given-preserved c =
    let bands = c.args.bands.now in let seconds = c.args.seconds in let last = c.args.last in
    place-more (λ (k : ℕ) (x : GreenEnd). end_text bands seconds last x) (λ (k : ℕ) (xs : List GreenEnd). letters_text bands seconds last xs)
    (letters-more bands seconds last) c.loop-given.given-index c.args.ends.now no_end c.loop-given-test.true
    c.loop-given.text.items _ _ c.in_ok-append_end.ensures c.loop-given.invariant

pub returns : goal.returns
returns c =
    let bands = c.args.bands.now in let seconds = c.args.seconds in let last = c.args.last in
    place-end (λ (k : ℕ) (xs : List GreenEnd). letters_text bands seconds last xs) (letters-none bands seconds last)
    c.loop-given.given-index c.args.ends.now c.loop-given-test.false c.loop-given.text.items _ c.loop-given.invariant
