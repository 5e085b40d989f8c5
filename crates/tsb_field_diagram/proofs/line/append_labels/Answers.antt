use Rattle.tsb_field_diagram.specs.declared.band.Band.{Band}
use Rattle.tsb_field_diagram.specs.declared.band.BandKind.TheVariants as kinds
use Rattle.tsb_field_diagram.specs.Lines.{label_text, labels_text}
use Rattle.tsb_field_diagram.proofs.CountLemmas.{place-more, place-end}
use Rattle.tsb_field_diagram.proofs.LineLemmas.{labels-more, labels-none}
use Rattle.tsb_field_diagram.proofs.line.append_labels.Goals as goal

abbrev no_band : Band
no_band = record { kind = kinds.Preempt; number = 0 }

pub loop-place-preserved : goal.loop-place-preserved
loop-place-preserved c =
    place-more label_text labels_text labels-more c.loop-place.place c.args.bands.now no_band c.loop-place-test.true
    c.loop-place.text.items _ _ c.in_ok-append_label.ensures c.loop-place.invariant

pub returns : goal.returns
returns c = place-end labels_text labels-none c.loop-place.place c.args.bands.now c.loop-place-test.false c.loop-place.text.items _ c.loop-place.invariant
