use Rattle.std.proofs.Common.{◌++◌, ℕ, List, codes, length}
use Rattle.tsb_field_diagram.specs.Lines.{axis_text, head_text, labels_text, line_text, plot_text}
use Rattle.tsb_field_diagram.proofs.CountLemmas.{then}
use Rattle.tsb_field_diagram.proofs.line.append_line.Goals as goal

pub returns : goal.returns
unfolding line_text
returns c =
    let r4 : List ℕ = codes "</svg>\n" in
    let r3 : List ℕ = plot_text c.args.bands.now c.args.scale c.args.line c.args.changes.now c.args.rows.now ++ r4 in
    let r2 : List ℕ = axis_text (length c.args.bands.now) c.args.scale.clock c.args.scale.seconds c.args.line ++ r3 in
    let r1 : List ℕ = labels_text 0 c.args.bands.now ++ r2 in
    then c.append.result c.args.text.now.items c.append_head.new.text.items c.append.new.text.items (head_text (length c.args.bands.now) c.args.scale.clock c.args.scale.seconds c.args.line) r1 c.in_ok-append_head.ensures
    (then c.append.result c.append_head.new.text.items c.append_labels.new.text.items c.append.new.text.items (labels_text 0 c.args.bands.now) r2 c.in_ok-append_labels.ensures
    (then c.append.result c.append_labels.new.text.items c.append_axis.new.text.items c.append.new.text.items (axis_text (length c.args.bands.now) c.args.scale.clock c.args.scale.seconds c.args.line) r3 c.in_ok-append_axis.ensures
    (then c.append.result c.append_axis.new.text.items c.append_plot.new.text.items c.append.new.text.items (plot_text c.args.bands.now c.args.scale c.args.line c.args.changes.now c.args.rows.now) r4 c.in_ok-append_plot.ensures c.append.ensures)))
