use Rattle.std.proofs.Common.{◌∙◌, Ok, Some, ap, inl, inr, sym}
use Rattle.std.proofs.lemmas.Result.{err_from_is_err_and}
use Rattle.tsb_text.specs.Obeyed.{besides_of}
use Rattle.tsb_text.proofs.CourseLemmas.{no-refusal, refusal-memory, told-memory}
use Rattle.tsb_text.proofs.AnswerLemmas.{ask-cut-before, ask-cut-line, ask-cut-next, ask-refused, ask-so, told-stop, wants-followers}
use Rattle.tsb_text.proofs.answers.ask.Goals as goal

pub returns-in-Some-clause-done : goal.returns-in-Some-clause-done
returns-in-Some-clause-done g c given log is s next =
    ask-refused c.say_refusal.result given log is c.args.command c.answer-answer.result c.answer-answer.new.self (besides_of c.args.course.now c.args.echo.now) c.in-Some.refusal _ _ _ _ (c.answer-answer.ensures.right given log is s next)
    (sym c.in-Some.is ∙ c.refusal_in.ensures) c.say_refusal.ensures.told c.say_refusal.ensures.said

pub returns-in-Some-clause-wanting : goal.returns-in-Some-clause-wanting
returns-in-Some-clause-wanting g c is =
    inl (c.answer-answer.ensures.wanting (refusal-memory c.answer-answer.result (sym c.refusal_in.ensures ∙ c.in-Some.is ∙ ap Some (told-memory c.say_refusal.result c.in-Some.refusal c.say_refusal.ensures.told is))))

pub returns-in_err-say_before-clause-done : goal.returns-in_err-say_before-clause-done
returns-in_err-say_before-clause-done g c given log is s next = let p = err_from_is_err_and c.from_residual.result c.from_residual.ensures.1 in
    rw p.1 (ask-cut-before given log is c.args.command c.answer-answer.result c.answer-answer.new.self c.args.course.now.mode c.args.echo.now c.answer-answer.ensures.mode (sym c.in-None.is ∙ c.refusal_in.ensures)
    (c.answer-answer.ensures.right given log is s next) (c.answer-answer.ensures.next given log is s) p.0 _ _ _ _ c.in_err-say_before.ensures.said)

pub returns-in_err-stop-clause-done : goal.returns-in_err-stop-clause-done
returns-in_err-stop-clause-done g c given log is s next = let p = err_from_is_err_and c.from_residual-in_err-stop.result c.from_residual-in_err-stop.ensures.1 in
    rw p.1 (ask-cut-next given log is c.args.command c.answer-answer.result c.answer-answer.new.self c.args.course.now.mode c.args.echo.now c.answer-answer.ensures.mode (sym c.in-None.is ∙ c.refusal_in.ensures)
    (c.answer-answer.ensures.right given log is s next) (c.answer-answer.ensures.next given log is s) c.follow.new.course p.0 _ _ _ _ _ _ c.in_ok-say_before.ensures.said
    (c.in_err-stop.ensures.done given log _ (c.answer-answer.ensures.right given log is s next).stands))

pub returns-in_err-say_answer-clause-done : goal.returns-in_err-say_answer-clause-done
returns-in_err-say_answer-clause-done g c given log is s next = let p = err_from_is_err_and c.from_residual-in_err-say_answer.result c.from_residual-in_err-say_answer.ensures.1 in
    rw p.1 (ask-cut-line given log is c.args.command c.answer-answer.result c.answer-answer.new.self c.args.course.now.mode c.args.echo.now c.answer-answer.ensures.mode (sym c.in-None.is ∙ c.refusal_in.ensures)
    (c.answer-answer.ensures.right given log is s next) (c.answer-answer.ensures.next given log is s) c.follow.new.course c.in_ok-stop.stop _ _ _ _ _ _ _ _ c.in_ok-say_before.ensures.said
    (c.in_ok-stop.ensures.done given log _ (c.answer-answer.ensures.right given log is s next).stands) p.0 c.in_err-say_answer.ensures.said)

pub returns-clause-done : goal.returns-clause-done
returns-clause-done g c given log is s next =
    ask-so given log is c.args.command c.answer-answer.result c.answer-answer.new.self c.args.course.now.mode c.args.echo.now c.answer-answer.ensures.mode (sym c.in-None.is ∙ c.refusal_in.ensures)
    (c.answer-answer.ensures.right given log is s next) (c.answer-answer.ensures.next given log is s) c.follow.new.course c.in_ok-stop.stop _ _ _ _ _ _ _ _ c.in_ok-say_before.ensures.said
    (c.in_ok-stop.ensures.done given log _ (c.answer-answer.ensures.right given log is s next).stands) c.say_if_refused.result _ _ c.in_ok-say_answer.ensures.said c.say_if_refused.ensures.told c.say_if_refused.ensures.said

pub returns-clause-wanting : goal.returns-clause-wanting
returns-clause-wanting g c is =
    inr (wants-followers c.follow.new.course c.answer-answer.new.self.next (c.in_ok-stop.ensures.wanting (ap Ok (told-stop c.say_if_refused.result c.in_ok-stop.stop c.say_if_refused.ensures.told is))))

pub returns-in_err-say_before-clause-wanting : goal.returns-in_err-say_before-clause-wanting
returns-in_err-say_before-clause-wanting g c is = let p = err_from_is_err_and c.from_residual.result c.from_residual.ensures.1 in
    absurd (no-refusal c.from_residual.result p.0 p.1 is)

pub returns-in_err-stop-clause-wanting : goal.returns-in_err-stop-clause-wanting
returns-in_err-stop-clause-wanting g c is = let p = err_from_is_err_and c.from_residual-in_err-stop.result c.from_residual-in_err-stop.ensures.1 in
    absurd (no-refusal c.from_residual-in_err-stop.result p.0 p.1 is)

pub returns-in_err-say_answer-clause-wanting : goal.returns-in_err-say_answer-clause-wanting
returns-in_err-say_answer-clause-wanting g c is = let p = err_from_is_err_and c.from_residual-in_err-say_answer.result c.from_residual-in_err-say_answer.ensures.1 in
    absurd (no-refusal c.from_residual-in_err-say_answer.result p.0 p.1 is)
