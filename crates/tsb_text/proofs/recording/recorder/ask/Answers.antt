use Rattle.std.proofs.Common.{◌∙◌, inl, inr, sym}
use Rattle.tsb_text.proofs.CourseLemmas.{refusal-memory}
use Rattle.tsb_text.proofs.ObeyLemmas.{when-left}
use Rattle.tsb_step.specs.Play.{remaining_after}
use Rattle.tsb_text.specs.Obeyed.{Answered}
use Rattle.tsb_text.proofs.AnswerLemmas.{wants-followers}
use Rattle.tsb_text.proofs.recording.RecorderLemmas.{asked-left, refused-left}
use Rattle.tsb_text.proofs.recording.recorder.ask.Goals as goal

pub returns-in-When-clause-done : goal.returns-in-When-clause-done
returns-in-When-clause-done c given log is s next = rw c.in-When.is (is, s, when-left given is _)

pub returns-in-Some-clause-done : goal.returns-in-Some-clause-done
returns-in-Some-clause-done c given log is s next =
    refused-left given log is c.answer.new.self c.args.command c.answer.result c.in-Some.refusal (sym c.refusal_in.ensures ∙ c.in-Some.is) (c.answer.ensures.right given log is s next)

pub returns-in-Some-clause-wanting : goal.returns-in-Some-clause-wanting
returns-in-Some-clause-wanting c is = inl (c.answer.ensures.wanting (refusal-memory c.answer.result (sym c.refusal_in.ensures ∙ c.in-Some.is ∙ is)))

pub returns-in-None-clause-done : goal.returns-in-None-clause-done
returns-in-None-clause-done c given log is s next =
    let answered : Answered given log c.answer.new.self is c.args.command c.answer.result = c.answer.ensures.right given log is s next in
    asked-left c.follow_all.result given log is c.answer.new.self c.follow_all.new.course c.args.command c.answer.result (sym c.refusal_in.ensures ∙ c.in-None.is) answered (c.answer.ensures.next given log is s)
    (c.follow_all.ensures.followed given log (remaining_after given.plan is c.args.command c.answer.result) answered.stands)

pub returns-in-None-clause-wanting : goal.returns-in-None-clause-wanting
returns-in-None-clause-wanting c is = inr (wants-followers c.follow_all.new.course c.answer.new.self.next (c.follow_all.ensures.wanting is))
