use Rattle.std.proofs.Common.{◌∙◌, ap, ◌++◌, ℕ, List, codes}
use Rattle.tsb_field_diagram.specs.Text.{attribute_text}
use Rattle.tsb_field_diagram.specs.Lines.{line_clock, line_height, line_top}
use Rattle.tsb_field_diagram.proofs.CountLemmas.{then}
use Rattle.tsb_field_diagram.proofs.line.append_head.Goals as goal

pub returns : goal.returns
returns c =
    let r4 : List ℕ = codes "</text>\n" in
    let r3 : List ℕ = line_clock c.args.clock c.args.seconds c.args.line ++ r4 in
    let r2 : List ℕ = codes ">\n<text class=\"b\" x=\"4\" y=\"12\">" ++ r3 in
    let r1 : List ℕ = attribute_text (codes " y=\"") (line_top c.args.bands c.args.line) ++ r2 in
    then c.append-2.result c.args.text.now.items c.append_attribute.new.text.items c.append-2.new.text.items (attribute_text (codes "<svg width=\"1160\" height=\"") (line_height c.args.bands)) r1 (c.in_ok-append_attribute.ensures ∙ ap (λ (n : ℕ). c.args.text.now.items ++ attribute_text (codes "<svg width=\"1160\" height=\"") n) c.line_height.ensures.same)
    (then c.append-2.result c.append_attribute.new.text.items c.append_attribute-2.new.text.items c.append-2.new.text.items (attribute_text (codes " y=\"") (line_top c.args.bands c.args.line)) r2 (c.in_ok-append_attribute-2.ensures ∙ ap (λ (n : ℕ). c.append_attribute.new.text.items ++ attribute_text (codes " y=\"") n) c.line_top.ensures.same)
    (then c.append-2.result c.append_attribute-2.new.text.items c.append.new.text.items c.append-2.new.text.items (codes ">\n<text class=\"b\" x=\"4\" y=\"12\">") r3 c.in_ok-append.ensures
    (then c.append-2.result c.append.new.text.items c.append_line_clock.new.text.items c.append-2.new.text.items (line_clock c.args.clock c.args.seconds c.args.line) r4 c.in_ok-append_line_clock.ensures c.append-2.ensures)))
