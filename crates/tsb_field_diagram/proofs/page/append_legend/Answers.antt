use Rattle.std.proofs.Common.{◌≡◌, ◌∙◌, ap, ◌*◌, ◌++◌, ℕ, List, OnOk, codes, subst}
use Rattle.tsb_field_diagram.specs.Text.{named_text}
use Rattle.tsb_field_diagram.specs.Page.{shapes_text, names_text}
use Rattle.tsb_field_diagram.proofs.CountLemmas.{then}
use Rattle.tsb_field_diagram.proofs.page.append_legend.Goals as goal

pub returns : goal.returns
returns c =
    let r3 : List ℕ = names_text in
    let r2 : List ℕ = shapes_text ++ r3 in
    let r1 : List ℕ = codes " 16\">\n" ++ r2 in
    then c.append-3.result c.args.text.now.items c.append_named.new.text.items c.append-3.new.text.items (named_text (codes "<svg x=\"140\" y=\"32\" width=\"1000\" height=\"16\" preserveAspectRatio=\"none\" viewBox=\"0 0 ") (10 * c.args.seconds)) r1 (c.in_ok-append_named.ensures ∙ ap (λ (n : ℕ). c.args.text.now.items ++ named_text (codes "<svg x=\"140\" y=\"32\" width=\"1000\" height=\"16\" preserveAspectRatio=\"none\" viewBox=\"0 0 ") (10 * n)) c.from.ensures)
    (then c.append-3.result c.append_named.new.text.items c.append.new.text.items c.append-3.new.text.items (codes " 16\">\n") r2 c.in_ok-append.ensures
    (then c.append-3.result c.append.new.text.items c.append-2.new.text.items c.append-3.new.text.items (shapes_text) r3 (c.in_ok-append-2.ensures ∙ ap (λ (ts : List ℕ). c.append.new.text.items ++ ts) c.shapes.ensures) (subst (λ (ts : List ℕ). OnOk c.append-3.result (c.append-3.new.text.items ≡ c.append-2.new.text.items ++ ts)) c.names.ensures c.append-3.ensures)))
