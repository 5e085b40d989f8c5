use Rattle.std.proofs.Common.{length}
use Rattle.tsb_field_diagram.specs.declared.band.Band.{Band}
use Rattle.tsb_field_diagram.specs.declared.band.BandKind.TheVariants as kinds
use Rattle.tsb_field_diagram.specs.Letters.{letter_among, letter_in}
use Rattle.tsb_field_diagram.proofs.CountLemmas.{place-more, place-end}
use Rattle.tsb_field_diagram.proofs.LetterLemmas.{among-more, among-none}
use Rattle.tsb_field_diagram.proofs.letters.append_among.Goals as goal

abbrev no_band : Band
no_band = record { kind = kinds.Preempt; number = 0 }

pub loop-place-preserved : goal.loop-place-preserved
loop-place-preserved c =
    let count = length c.args.bands.now in let seconds = c.args.seconds in let given = c.args.given in
    place-more (letter_in count seconds given) (letter_among count seconds given) (among-more count seconds given)
    c.loop-place.place c.args.bands.now no_band c.loop-place-test.true c.loop-place.text.items _ _ c.in_ok-append_in.ensures c.loop-place.invariant

pub returns : goal.returns
returns c =
    let count = length c.args.bands.now in let seconds = c.args.seconds in let given = c.args.given in
    place-end (letter_among count seconds given) (among-none count seconds given)
    c.loop-place.place c.args.bands.now c.loop-place-test.false c.loop-place.text.items _ c.loop-place.invariant
