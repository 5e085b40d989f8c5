use Rattle.std.proofs.Common.{◌∙◌, ℕ, ◌*◌, ◌-◌, ◌++◌, ap}
use Rattle.tsb_field_diagram.specs.Lines.{mark_text, marks_text, marks_before, marks_between}
use Rattle.tsb_field_diagram.proofs.CountLemmas.{count-more, count-end}
use Rattle.tsb_field_diagram.proofs.LineLemmas.{marks-more, marks-none}
use Rattle.tsb_field_diagram.proofs.axis.append_marks.Goals as goal

pub loop-index-preserved : goal.loop-index-preserved
loop-index-preserved c =
    let bands = c.args.bands in let clock = c.args.clock in let seconds = c.args.seconds in let begin = c.args.begin in let step = c.step_of-step.result in
    count-more (λ (k : ℕ). mark_text bands clock seconds begin (k * step)) (marks_text bands clock seconds begin step) (marks-more bands clock seconds begin step)
    c.loop-index.index c.marks_before-until.result c.loop-index-test.true c.loop-index.text.items _ _
    (c.in_ok-append_mark.ensures ∙ ap (λ (n : ℕ). c.loop-index.text.items ++ mark_text bands clock seconds begin n) c.second_of.ensures.same)
    c.loop-index.invariant

pub returns : goal.returns
returns c =
    let bands = c.args.bands in let clock = c.args.clock in let seconds = c.args.seconds in let begin = c.args.begin in let step = c.step_of-step.result in
    count-end (marks_text bands clock seconds begin step) (marks-none bands clock seconds begin step)
    c.loop-index.index c.marks_before-until.result c.loop-index-test.false c.loop-index.text.items _ c.loop-index.invariant
    ∙ ap (λ (n : ℕ). c.args.text.now.items ++ marks_text bands clock seconds begin step n (c.marks_before-until.result - n)) c.marks_before-from.ensures
    ∙ ap (λ (n : ℕ). c.args.text.now.items ++ marks_text bands clock seconds begin step (marks_before begin step) (n - marks_before begin step)) c.marks_before-until.ensures
    ∙ ap (λ (n : ℕ). c.args.text.now.items ++ marks_between bands clock seconds begin c.args.end n) c.step_of-step.ensures.same
