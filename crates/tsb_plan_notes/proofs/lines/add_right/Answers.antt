use Rattle.std.proofs.Common.{◌≡◌, ◌∙◌, ◌++◌, ap, codes}
use Rattle.std.proofs.lemmas.Result.{on_ok_weaker}
use Rattle.tsb_plan.specs.Names.{name_of}
use Rattle.tsb_plan_notes.specs.Notes.{right_text}
use Rattle.tsb_plan_notes.proofs.NoteLemmas.{three, where-ok}
use Rattle.tsb_plan_notes.proofs.lines.add_right.Goals as goal

pub returns : goal.returns
unfolding right_text
returns c =
    let named : c.extend_from_slice-2.new.self.items ≡ c.extend_from_slice.new.self.items ++ name_of c.args.object = c.in_ok-extend_from_slice-2.ensures.items ∙ ap (λ ts. c.extend_from_slice.new.self.items ++ ts) (c.as_bytes.ensures.value ∙ c.name.ensures) in
    on_ok_weaker c.extend_from_slice-3.result
    (three c.args.notes.now.items c.extend_from_slice.new.self.items c.extend_from_slice-2.new.self.items c.extend_from_slice-3.new.self.items (codes ", did you mean ") (name_of c.args.object) (codes "?")
    c.in_ok-extend_from_slice.ensures.items named)
    (where-ok c.extend_from_slice-3.result c.extend_from_slice-3.new.self.items _ _ c.extend_from_slice-3.ensures.items)
