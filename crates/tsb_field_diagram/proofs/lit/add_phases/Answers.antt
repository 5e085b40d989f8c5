use Rattle.std.proofs.Common.{◌∙◌, ℕ, ◌+◌, ◌++◌, List, ap, append_assoc}
use Rattle.tsb_field_diagram.specs.declared.band.Band.{Band}
use Rattle.tsb_field_diagram.specs.declared.band.BandKind.TheVariants as kinds
use Rattle.tsb_field_diagram.specs.Lit.{band_if, phases_on}
use Rattle.tsb_field_diagram.proofs.CountLemmas.{count-more, count-end}
use Rattle.tsb_field_diagram.proofs.LitLemmas.{phases-more, phases-none}
use Rattle.tsb_field_diagram.proofs.lit.add_phases.Goals as goal

pub loop-before-preserved : goal.loop-before-preserved
loop-before-preserved c =
    let cs = c.args.changes.now in let rs = c.args.rows.now in
    count-more (λ (k : ℕ). band_if cs rs kinds.Vehicle (k + 1) ++ band_if cs rs kinds.Pedestrian (k + 1)) (phases_on cs rs) (phases-more cs rs)
    c.loop-before.before 16 c.loop-before-test.true c.loop-before.bands.items _ _
    (c.in_ok-add-2.ensures
    ∙ ap (λ (bs : List Band). bs ++ band_if cs rs kinds.Pedestrian (c.loop-before.before + 1)) c.in_ok-add.ensures
    ∙ append_assoc c.loop-before.bands.items _ _) c.loop-before.invariant

pub returns : goal.returns
returns c =
    let cs = c.args.changes.now in let rs = c.args.rows.now in
    count-end (phases_on cs rs) (phases-none cs rs) c.loop-before.before 16 c.loop-before-test.false
    c.loop-before.bands.items _ c.loop-before.invariant
