use Rattle.std.proofs.Common.{◌++◌, ℕ, List}
use Rattle.tsb_field_diagram.specs.Page.{opening_text, titles_text, classes_text, legend_text, page_head}
use Rattle.tsb_field_diagram.proofs.CountLemmas.{then}
use Rattle.tsb_field_diagram.proofs.page.append_page_head.Goals as goal

pub returns : goal.returns
unfolding page_head
returns c =
    let r3 : List ℕ = legend_text c.args.seconds in
    let r2 : List ℕ = classes_text c.args.seconds ++ r3 in
    let r1 : List ℕ = titles_text c.args.title.now ++ r2 in
    then c.append_legend.result c.args.text.now.items c.append_opening.new.text.items c.append_legend.new.text.items (opening_text c.args.height) r1 c.in_ok-append_opening.ensures
    (then c.append_legend.result c.append_opening.new.text.items c.append_titles.new.text.items c.append_legend.new.text.items (titles_text c.args.title.now) r2 c.in_ok-append_titles.ensures
    (then c.append_legend.result c.append_titles.new.text.items c.append_classes.new.text.items c.append_legend.new.text.items (classes_text c.args.seconds) r3 c.in_ok-append_classes.ensures c.append_legend.ensures))
