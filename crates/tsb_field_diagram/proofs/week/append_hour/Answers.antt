use Rattle.std.proofs.Common.{◌∙◌, ap, ◌++◌, ℕ, List, codes}
use Rattle.tsb_field_diagram.specs.Text.{attribute_text, number_text}
use Rattle.tsb_field_diagram.specs.Lines.{grid_text}
use Rattle.tsb_field_diagram.specs.Week.{hour_place}
use Rattle.tsb_field_diagram.proofs.CountLemmas.{then}
use Rattle.tsb_field_diagram.proofs.week.append_hour.Goals as goal

pub returns : goal.returns
returns c =
    let x : ℕ = hour_place c.args.hour in
    let r4 : List ℕ = codes "</text>\n" in
    let r3 : List ℕ = number_text c.args.hour ++ r4 in
    let r2 : List ℕ = codes " y=\"240\">" ++ r3 in
    let r1 : List ℕ = attribute_text (codes "<text class=\"k\" x=\"") x ++ r2 in
    then c.append-2.result c.args.text.now.items c.append_grid.new.text.items c.append-2.new.text.items (grid_text 14 x) r1 (c.in_ok-append_grid.ensures ∙ ap (λ (n : ℕ). c.args.text.now.items ++ grid_text 14 n) c.hour_place-place.ensures)
    (then c.append-2.result c.append_grid.new.text.items c.append_attribute.new.text.items c.append-2.new.text.items (attribute_text (codes "<text class=\"k\" x=\"") x) r2 (c.in_ok-append_attribute.ensures ∙ ap (λ (n : ℕ). c.append_grid.new.text.items ++ attribute_text (codes "<text class=\"k\" x=\"") n) c.hour_place-place.ensures)
    (then c.append-2.result c.append_attribute.new.text.items c.append.new.text.items c.append-2.new.text.items (codes " y=\"240\">") r3 c.in_ok-append.ensures
    (then c.append-2.result c.append.new.text.items c.append_number.new.text.items c.append-2.new.text.items (number_text c.args.hour) r4 (c.in_ok-append_number.ensures ∙ ap (λ (n : ℕ). c.append.new.text.items ++ number_text n) c.from.ensures) c.append-2.ensures)))
