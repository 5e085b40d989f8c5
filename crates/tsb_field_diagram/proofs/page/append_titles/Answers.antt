use Rattle.std.proofs.Common.{◌++◌, ℕ, List, codes}
use Rattle.tsb_field_diagram.specs.Text.{escaped}
use Rattle.tsb_field_diagram.proofs.CountLemmas.{then}
use Rattle.tsb_field_diagram.proofs.page.append_titles.Goals as goal

pub returns : goal.returns
returns c =
    let r4 : List ℕ = codes "</text>\n" in
    let r3 : List ℕ = escaped c.args.title.now ++ r4 in
    let r2 : List ℕ = codes "</title>\n<rect width=\"100%\" height=\"100%\" fill=\"#fff\"/>\n<text class=\"t\" x=\"4\" y=\"20\">" ++ r3 in
    let r1 : List ℕ = escaped c.args.title.now ++ r2 in
    then c.append-3.result c.args.text.now.items c.append.new.text.items c.append-3.new.text.items (codes "<title>") r1 c.in_ok-append.ensures
    (then c.append-3.result c.append.new.text.items c.append_title.new.text.items c.append-3.new.text.items (escaped c.args.title.now) r2 c.in_ok-append_title.ensures
    (then c.append-3.result c.append_title.new.text.items c.append-2.new.text.items c.append-3.new.text.items (codes "</title>\n<rect width=\"100%\" height=\"100%\" fill=\"#fff\"/>\n<text class=\"t\" x=\"4\" y=\"20\">") r3 c.in_ok-append-2.ensures
    (then c.append-3.result c.append-2.new.text.items c.append_title-2.new.text.items c.append-3.new.text.items (escaped c.args.title.now) r4 c.in_ok-append_title-2.ensures c.append-3.ensures)))
