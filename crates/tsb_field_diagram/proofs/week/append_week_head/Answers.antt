use Rattle.std.proofs.Common.{◌∙◌, ap, ◌++◌, ℕ, List, codes}
use Rattle.tsb_field_diagram.specs.Page.{opening_text, titles_text}
use Rattle.tsb_field_diagram.specs.Week.{week_head, week_style}
use Rattle.tsb_field_diagram.proofs.CountLemmas.{then}
use Rattle.tsb_field_diagram.proofs.week.append_week_head.Goals as goal

pub returns : goal.returns
unfolding week_head
returns c =
    let r3 : List ℕ = codes "<svg width=\"1160\" height=\"260\" y=\"32\">\n" in
    let r2 : List ℕ = week_style ++ r3 in
    let r1 : List ℕ = titles_text c.args.title.now ++ r2 in
    then c.append-2.result c.args.text.now.items c.append_opening.new.text.items c.append-2.new.text.items (opening_text 292) r1 c.in_ok-append_opening.ensures
    (then c.append-2.result c.append_opening.new.text.items c.append_titles.new.text.items c.append-2.new.text.items (titles_text c.args.title.now) r2 c.in_ok-append_titles.ensures
    (then c.append-2.result c.append_titles.new.text.items c.append.new.text.items c.append-2.new.text.items week_style r3 (c.in_ok-append.ensures ∙ ap (λ (ts : List ℕ). c.append_titles.new.text.items ++ ts) c.week_style.ensures) c.append-2.ensures))
