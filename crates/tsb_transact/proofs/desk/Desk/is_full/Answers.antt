use Rattle.std.proofs.Common.{nat_le, ap, ◌∙◌}
use Rattle.tsb_transact.specs.declared.TheConstants.{MOST_EDITS}
use Rattle.tsb_transact.specs.Layer.{cells_of}
use Rattle.tsb_transact.proofs.DeskLemmas.{edits-count}
use Rattle.tsb_transact.proofs.desk.Desk.is_full.Goals as goal

pub returns : goal.returns
returns c =
    let d = c.args.self.now in
    ap (nat_le MOST_EDITS) (c.len.ensures.len ∙ edits-count d.edits (cells_of d) d.tied)
