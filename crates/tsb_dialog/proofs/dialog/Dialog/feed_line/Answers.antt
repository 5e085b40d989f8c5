use Rattle.std.proofs.Common.{◌≡◌, ℕ, ◌+◌, List, [], length, min, take, refl, sym, ap, ◌∙◌, arith, rules}
use Rattle.std.proofs.lemmas.List.{nil_from_length, take_min}
use Rattle.std.proofs.lemmas.Result.{err_from_is_err_and}
use Rattle.tsb_lines.specs.Lines.{kept, without_return}
use Rattle.tsb_dialog.proofs.HeardLemmas.{fed-fault, fed-line, fed-whole}
use Rattle.tsb_dialog.specs.declared.dialog.TheConstants.{KEPT}
use Rattle.tsb_dialog.proofs.dialog.Dialog.feed_line.Goals as goal

-- the first bytes, as many as are kept
as-kept : (rest : List ℕ) (room : ℕ) → room ≡ min (length rest) KEPT → take room rest ≡ kept KEPT rest
as-kept rest room is = ap (λ (n : ℕ). take n rest) (omega (arith, is)) ∙ take_min KEPT rest

pub returns-in_err-flow-clause-fed : goal.returns-in_err-flow-clause-fed
returns-in_err-flow-clause-fed g c from now bytes text here h = let p = err_from_is_err_and c.from_residual.result c.from_residual.ensures.1 in
    rw p.1 (fed-fault KEPT g.A.Answers.stands g.A.Answers.says from now bytes text c.args.self.now.number (c.args.self.now.number + 1) c.args.self.now.line c.args.rest.now c.extend.new.self c.ended.result.now c.extend.new.self c.answer-2.new.self p.0 _ _ _ _
    c.requires.one c.extend.ensures.kept c.ended.ensures.line h (c.in_err-flow.ensures.answered now here))

pub returns-clause-fed : goal.returns-clause-fed
returns-clause-fed g c from now bytes text here h =
    fed-line c.in_ok-flow.flow KEPT g.A.Answers.stands g.A.Answers.says from now bytes text c.args.self.now.number c.args.self.now.line c.args.rest.now c.extend.new.self c.ended.result.now c.clear.new.self c.answer-2.new.self _ _ _ _
    c.requires.one c.extend.ensures.kept c.ended.ensures.line c.clear.ensures h (c.in_ok-flow.ensures.answered now here)

pub returns-then-is_empty-clause-fed : goal.returns-then-is_empty-clause-fed
returns-then-is_empty-clause-fed g c from now bytes text here h =
    let empty : c.args.self.now.line ≡ [] = sym c.last.ensures.line ∙ nil_from_length c.last.result.now (search (rules, c.is_empty.ensures, c.if-is_empty.true)) in
    fed-whole c.answer.result KEPT g.A.Answers.stands g.A.Answers.says from now bytes text c.args.self.now.number c.args.self.now.line c.args.rest.now (kept KEPT c.args.rest.now) c.without_return-line.result.now c.answer.new.self _ _ _ _
    c.requires.one empty refl (c.without_return-line.ensures ∙ ap without_return (as-kept c.args.rest.now c.min.result c.min.ensures)) h (c.answer.ensures.answered now here)
