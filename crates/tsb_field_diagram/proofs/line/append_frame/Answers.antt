use Rattle.std.proofs.Common.{◌≡◌, ◌*◌, ◌++◌, ℕ, OnOk, subst}
use Rattle.tsb_field_diagram.specs.Lines.{frame_text, height_of}
use Rattle.tsb_field_diagram.proofs.line.append_frame.Goals as goal

pub returns : goal.returns
returns c =
    let r = c.append_frame_of.result in let old = c.args.text.now.items in let new = c.append_frame_of.new.text.items in let height = height_of c.args.bands in
    subst (λ (n : ℕ). OnOk r (new ≡ old ++ frame_text height n (10 * c.args.seconds))) c.from.ensures
    (subst (λ (n : ℕ). OnOk r (new ≡ old ++ frame_text height c.from.result (10 * n))) c.from-2.ensures c.append_frame_of.ensures)
