use Rattle.std.proofs.Common.{arith, ◌≡◌, ◌∙◌, ◌∷◌, [], ◌++◌, append_assoc, codes, decimal, List, ℕ, ap}
use Rattle.std.proofs.lemmas.Grind.{common_steps}
use Rattle.tsb_text.specs.tsb_step.tsb_plan.Names.{name_of}
use Rattle.tsb_live_text.specs.saved.Saved.{number_word}
use Rattle.tsb_step.proofs.tsb_plan.NameLemmas.{short-name}
use Rattle.tsb_live_text.proofs.saved.input_line.set_line.Goals as goal

pub push_number-requires : goal.push_number-requires
push_number-requires c = grind (arith, common_steps, short-name c.args.id.object)

pub push_number-requires-2 : goal.push_number-requires-2
push_number-requires-2 c = grind (arith, common_steps, short-name c.args.id.object)

pub returns-clause-line : goal.returns-clause-line
returns-clause-line c =
    let start : c.try_extend_from_slice-2.new.self.items ≡ ((codes "set " ++ decimal c.args.station) ++ 32 ∷ []) ++ name_of c.args.id.object = grind (arith, common_steps) in
    c.push_number-2.ensures.line
    ∙ ap (λ (v : List ℕ). v ++ number_word c.args.value) (c.push_number.ensures.line ∙ ap (λ (v : List ℕ). v ++ number_word c.args.id.index) start)
    ∙ simp append_assoc
