use Rattle.std.proofs.Common.{◌∙◌, ap, ◌++◌, ℕ, List, codes, length}
use Rattle.tsb_field_diagram.specs.Page.{page_head, page_height, picture_text}
use Rattle.tsb_field_diagram.specs.ArrowKey.{key_text}
use Rattle.tsb_field_diagram.specs.Letters.{ends_text}
use Rattle.tsb_field_diagram.specs.Lines.{all_lines}
use Rattle.tsb_field_diagram.proofs.CountLemmas.{then}
use Rattle.tsb_field_diagram.proofs.page.append_picture.Goals as goal

pub returns : goal.returns
unfolding picture_text
returns c =
    let bands = c.args.bands.now in let seconds = c.args.scale.seconds in let last = c.args.scale.last in let session = c.session.inside in
    let r3 : List ℕ = codes "</svg>\n" in
    let r2 : List ℕ = ends_text bands seconds last session.ends.now ++ r3 in
    let r1 : List ℕ = all_lines bands c.args.scale session.changes.now session.rows.now ++ r2 in
    let r0 : List ℕ = key_text bands seconds session.changes.now ++ r1 in
    rw (← c.session.view_is)
    (then c.append.result c.args.text.now.items c.append_page_head.new.text.items c.append.new.text.items (page_head c.args.title.now seconds (page_height (length bands) seconds last)) r0 (c.in_ok-append_page_head.ensures ∙ ap (λ (n : ℕ). c.args.text.now.items ++ page_head c.args.title.now seconds n) c.page_height-height.ensures)
    (then c.append.result c.append_page_head.new.text.items c.append_arrow_key.new.text.items c.append.new.text.items (key_text bands seconds session.changes.now) r1 c.in_ok-append_arrow_key.ensures
    (then c.append.result c.append_arrow_key.new.text.items c.append_lines.new.text.items c.append.new.text.items (all_lines bands c.args.scale session.changes.now session.rows.now) r2 c.in_ok-append_lines.ensures
    (then c.append.result c.append_lines.new.text.items c.append_ends.new.text.items c.append.new.text.items (ends_text bands seconds last session.ends.now) r3 c.in_ok-append_ends.ensures c.append.ensures))))
