use Rattle.std.proofs.Common.{◌∙◌, ap, ◌++◌, ℕ, List}
use Rattle.tsb_field_diagram.specs.Page.{style_text, flash_text, yellow_text, clearance_text}
use Rattle.tsb_field_diagram.proofs.CountLemmas.{then}
use Rattle.tsb_field_diagram.proofs.page.append_classes.Goals as goal

pub returns : goal.returns
returns c =
    let r3 : List ℕ = clearance_text c.args.seconds in
    let r2 : List ℕ = yellow_text c.args.seconds ++ r3 in
    let r1 : List ℕ = flash_text c.args.seconds ++ r2 in
    then c.append_clearance.result c.args.text.now.items c.append.new.text.items c.append_clearance.new.text.items (style_text) r1 (c.in_ok-append.ensures ∙ ap (λ (ts : List ℕ). c.args.text.now.items ++ ts) c.style.ensures)
    (then c.append_clearance.result c.append.new.text.items c.append_flash.new.text.items c.append_clearance.new.text.items (flash_text c.args.seconds) r2 c.in_ok-append_flash.ensures
    (then c.append_clearance.result c.append_flash.new.text.items c.append_yellow.new.text.items c.append_clearance.new.text.items (yellow_text c.args.seconds) r3 c.in_ok-append_yellow.ensures c.append_clearance.ensures))
