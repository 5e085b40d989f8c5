use Rattle.std.proofs.Common.{ℕ, ◌+◌}
use Rattle.tsb_field_diagram.specs.Lit.{band_if, bands_on}
use Rattle.tsb_field_diagram.proofs.CountLemmas.{count-more, count-end}
use Rattle.tsb_field_diagram.proofs.LitLemmas.{bands-more, bands-none}
use Rattle.tsb_field_diagram.proofs.lit.add_all.Goals as goal

pub loop-before-preserved : goal.loop-before-preserved
loop-before-preserved c =
    let cs = c.args.changes.now in let rs = c.args.rows.now in
    count-more (λ (k : ℕ). band_if cs rs c.args.kind (k + 1)) (bands_on cs rs c.args.kind) (bands-more cs rs c.args.kind)
    c.loop-before.before c.args.count c.loop-before-test.true c.loop-before.bands.items _ _ c.in_ok-add.ensures c.loop-before.invariant

pub returns : goal.returns
returns c =
    let cs = c.args.changes.now in let rs = c.args.rows.now in
    count-end (bands_on cs rs c.args.kind) (bands-none cs rs c.args.kind) c.loop-before.before c.args.count c.loop-before-test.false
    c.loop-before.bands.items _ c.loop-before.invariant
