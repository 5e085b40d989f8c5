use Rattle.std.proofs.Common.{◌∙◌, ap, ◌++◌, ℕ, List, codes}
use Rattle.tsb_field_diagram.specs.Lines.{frame_text}
use Rattle.tsb_field_diagram.specs.Week.{of_each, week_band}
use Rattle.tsb_field_diagram.proofs.CountLemmas.{then}
use Rattle.tsb_field_diagram.proofs.week.append_plot.Goals as goal

pub returns : goal.returns
returns c =
    let r2 : List ℕ = codes "</svg>\n" in
    let r1 : List ℕ = of_each week_band c.args.bands.now ++ r2 in
    then c.append.result c.args.text.now.items c.append_frame_of.new.text.items c.append.new.text.items (frame_text 224 0 1440) r1 (c.in_ok-append_frame_of.ensures ∙ ap (λ (n : ℕ). c.args.text.now.items ++ frame_text 224 0 n) c.from.ensures)
    (then c.append.result c.append_frame_of.new.text.items c.append_bands.new.text.items c.append.new.text.items (of_each week_band c.args.bands.now) r2 c.in_ok-append_bands.ensures c.append.ensures)
