use Rattle.std.proofs.Common.{◌++◌, ℕ, List, codes}
use Rattle.tsb_field_diagram.specs.Text.{named_text}
use Rattle.tsb_field_diagram.proofs.CountLemmas.{then}
use Rattle.tsb_field_diagram.proofs.page.append_opening.Goals as goal

pub returns : goal.returns
returns c =
    let r2 : List ℕ = codes "\">\n" in
    let r1 : List ℕ = named_text (codes "\" viewBox=\"0 0 1160 ") c.args.height ++ r2 in
    then c.append.result c.args.text.now.items c.append_named.new.text.items c.append.new.text.items (named_text (codes "<svg xmlns=\"http://www.w3.org/2000/svg\" font-family=\"sans-serif\" font-size=\"11\" width=\"1160\" height=\"") c.args.height) r1 c.in_ok-append_named.ensures
    (then c.append.result c.append_named.new.text.items c.append_named-2.new.text.items c.append.new.text.items (named_text (codes "\" viewBox=\"0 0 1160 ") c.args.height) r2 c.in_ok-append_named-2.ensures c.append.ensures)
