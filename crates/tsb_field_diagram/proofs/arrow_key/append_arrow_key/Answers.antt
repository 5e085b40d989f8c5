use Rattle.std.proofs.Common.{◌∙◌, ap, append-nil, sym, ◌++◌, ℕ, List}
use Rattle.tsb_field_diagram.specs.ArrowKey.{class_text, key_text, name_text, pattern_text, sample_text}
use Rattle.tsb_field_diagram.proofs.CountLemmas.{then}
use Rattle.tsb_field_diagram.proofs.arrow_key.append_arrow_key.Goals as goal

pub returns-then-not-has_arrow : goal.returns-then-not-has_arrow
unfolding key_text
returns-then-not-has_arrow c =
    rw (sym c.has_arrow.ensures ∙ c.if-not-has_arrow.true) (sym (append-nil c.args.text.now.items))

pub returns : goal.returns
unfolding key_text
returns c =
    let r3 : List ℕ = name_text in
    let r2 : List ℕ = sample_text c.args.seconds ++ r3 in
    let r1 : List ℕ = pattern_text c.args.seconds ++ r2 in
    rw (sym c.has_arrow.ensures ∙ c.if-not-has_arrow.false)
    (then c.append-2.result c.args.text.now.items c.append.new.text.items c.append-2.new.text.items class_text r1 (c.in_ok-append.ensures ∙ ap (λ (ts : List ℕ). c.args.text.now.items ++ ts) c.class.ensures)
    (then c.append-2.result c.append.new.text.items c.append_stripes.new.text.items c.append-2.new.text.items (pattern_text c.args.seconds) r2 c.in_ok-append_stripes.ensures
    (then c.append-2.result c.append_stripes.new.text.items c.append_sample.new.text.items c.append-2.new.text.items (sample_text c.args.seconds) r3 c.in_ok-append_sample.ensures (rw (sym c.name.ensures) c.append-2.ensures))))
