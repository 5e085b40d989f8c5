use Rattle.std.proofs.Common.{◌∙◌, ap, ◌*◌, ◌++◌, ℕ, List, codes}
use Rattle.tsb_field_diagram.specs.Text.{named_text}
use Rattle.tsb_field_diagram.proofs.CountLemmas.{then}
use Rattle.tsb_field_diagram.proofs.arrow_key.append_sample.Goals as goal

abbrev opening : List ℕ
opening = codes "<svg x=\"140\" y=\"48\" width=\"1000\" height=\"16\" preserveAspectRatio=\"none\" viewBox=\"0 0 "

abbrev shape : List ℕ
shape = codes " 16\"><rect class=\"q\" height=\"8\" y=\"4\" x=\"55%\" width=\"3%\"/></svg>\n"

pub returns : goal.returns
returns c =
    then c.append.result c.args.text.now.items c.append_named.new.text.items c.append.new.text.items (named_text opening (10 * c.args.seconds)) shape
    (c.in_ok-append_named.ensures ∙ ap (λ (n : ℕ). c.args.text.now.items ++ named_text opening (10 * n)) c.from.ensures) c.append.ensures
