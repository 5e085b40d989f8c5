use Rattle.std.proofs.Common.{◌++◌, ℕ, List, codes}
use Rattle.tsb_field_diagram.specs.Text.{attribute_text, named_text}
use Rattle.tsb_field_diagram.proofs.CountLemmas.{then}
use Rattle.tsb_field_diagram.proofs.line.append_frame_of.Goals as goal

pub returns : goal.returns
returns c =
    let r4 : List ℕ = codes "\">\n" in
    let r3 : List ℕ = named_text (codes " ") c.args.height ++ r4 in
    let r2 : List ℕ = named_text (codes " 0 ") c.args.units ++ r3 in
    let r1 : List ℕ = named_text (codes " viewBox=\"") c.args.first ++ r2 in
    then c.append.result c.args.text.now.items c.append_attribute.new.text.items c.append.new.text.items (attribute_text (codes "<svg x=\"140\" width=\"1000\" preserveAspectRatio=\"none\" height=\"") c.args.height) r1 c.in_ok-append_attribute.ensures
    (then c.append.result c.append_attribute.new.text.items c.append_named.new.text.items c.append.new.text.items (named_text (codes " viewBox=\"") c.args.first) r2 c.in_ok-append_named.ensures
    (then c.append.result c.append_named.new.text.items c.append_named-2.new.text.items c.append.new.text.items (named_text (codes " 0 ") c.args.units) r3 c.in_ok-append_named-2.ensures
    (then c.append.result c.append_named-2.new.text.items c.append_named-3.new.text.items c.append.new.text.items (named_text (codes " ") c.args.height) r4 c.in_ok-append_named-3.ensures c.append.ensures)))
