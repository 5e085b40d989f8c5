use Rattle.std.proofs.Common.{◌≡◌, ◌∙◌, ◌∷◌, [], ◌++◌, ap, codes, decimal}
use Rattle.std.proofs.lemmas.Result.{on_ok_weaker}
use Rattle.tsb_plan_notes.specs.Notes.{range_end}
use Rattle.tsb_plan_notes.proofs.NoteLemmas.{three, where-ok}
use Rattle.tsb_plan_notes.proofs.lines.add_range.Goals as goal

pub returns : goal.returns
unfolding range_end
returns c =
    let most : c.extend_from_slice-2.new.self.items ≡ c.extend_from_slice.new.self.items ++ decimal c.args.indices = c.in_ok-extend_from_slice-2.ensures.items ∙ ap (λ ts. c.extend_from_slice.new.self.items ++ ts) (c.as_bytes.ensures.value ∙ c.format.ensures.text) in
    on_ok_weaker c.extend_from_slice-3.result
    (three c.args.notes.now.items c.extend_from_slice.new.self.items c.extend_from_slice-2.new.self.items c.extend_from_slice-3.new.self.items (codes ": no such index, 1 to ") (decimal c.args.indices) (10 ∷ [])
    c.in_ok-extend_from_slice.ensures.items most)
    (where-ok c.extend_from_slice-3.result c.extend_from_slice-3.new.self.items _ _ c.extend_from_slice-3.ensures.items)
