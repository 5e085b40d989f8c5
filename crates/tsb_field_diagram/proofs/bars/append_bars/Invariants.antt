use Rattle.std.proofs.Common.{◌≡◌, ◌++◌, drop}
use Rattle.tsb_field_diagram.specs.Bars.{bars_on, bars_text}
use Rattle.tsb_field_diagram.proofs.bars.append_bars.Given as goal

-- the bars that are written, and those of what is left, are all
abbrev pub invariant-loop-item : goal.invariant-loop-item
invariant-loop-item g l =
    l.text.items ++ bars_text l.place (bars_on g.T.InForce.tick_of (g.T.InForce.mark_of l.band) l.begin l.now l.end (drop l.item-index l.item-items))
    ≡ l.initial.text.items
    ++ bars_text l.place (bars_on g.T.InForce.tick_of (g.T.InForce.mark_of l.band) l.initial.begin l.initial.now l.end l.item-items)
