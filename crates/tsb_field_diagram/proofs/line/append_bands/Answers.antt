use Rattle.tsb_field_diagram.specs.declared.band.Band.{Band}
use Rattle.tsb_field_diagram.specs.declared.band.BandKind.TheVariants as kinds
use Rattle.tsb_field_diagram.specs.Lines.{band_text, bands_text}
use Rattle.tsb_field_diagram.proofs.CountLemmas.{both, place-end, place-more}
use Rattle.tsb_field_diagram.proofs.LineLemmas.{bands-more, bands-none}
use Rattle.tsb_field_diagram.proofs.line.append_bands.Goals as goal

abbrev no_band : Band
no_band = record { kind = kinds.Preempt; number = 0 }

pub loop-place-preserved : goal.loop-place-preserved
loop-place-preserved c =
    let first = c.args.first in let end = c.args.end in let cs = c.args.changes.now in let rs = c.args.rows.now in
    place-more (band_text first end cs rs) (bands_text first end cs rs) (bands-more first end cs rs) c.loop-place.place c.args.bands.now no_band c.loop-place-test.true
    c.loop-place.text.items _ _ (both _ _ _ _ _ c.in_ok-append_bars.ensures c.in_ok-append_bars-2.ensures) c.loop-place.invariant

pub returns : goal.returns
returns c =
    let first = c.args.first in let end = c.args.end in let cs = c.args.changes.now in let rs = c.args.rows.now in
    place-end (bands_text first end cs rs) (bands-none first end cs rs) c.loop-place.place c.args.bands.now c.loop-place-test.false c.loop-place.text.items _ c.loop-place.invariant
