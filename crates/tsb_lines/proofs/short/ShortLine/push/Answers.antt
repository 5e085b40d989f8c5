use Rattle.std.proofs.Common.{◌≡◌, ℕ, ◌++◌, length, min, take, ap, ◌∙◌, arith, length-take}
use Rattle.tsb_lines.specs.ShortLines.{fitting}
use Rattle.tsb_lines.proofs.ShortLemmas.{on-ok, put}
use Rattle.tsb_lines.proofs.short.ShortLine.push.Goals as goal

pub returns-clause-line : goal.returns-clause-line
returns-clause-line g c =
    let taken : length (take c.min-room.result c.args.bytes.now) ≡ min c.min-room.result (length c.args.bytes.now) = length-take c.min-room.result c.args.bytes.now in
    let items : c.try_extend_from_slice-fits.new.self.items ≡ fitting g.row.MOST (c.self.inside.bytes.items ++ c.args.bytes.now) =
    on-ok c.try_extend_from_slice-fits.result (c.try_extend_from_slice-fits.ensures.variant.1 (omega (arith, taken, c.min-room.ensures, c.remaining_capacity.ensures))) c.try_extend_from_slice-fits.ensures.ok
    ∙ ap (λ (n : ℕ). c.self.inside.bytes.items ++ take n c.args.bytes.now) c.min-room.ensures
    ∙ put g.row.MOST c.remaining_capacity.result c.self.inside.bytes.items c.args.bytes.now c.remaining_capacity.ensures in
    record { line = rw (← c.self.view_is) items }
