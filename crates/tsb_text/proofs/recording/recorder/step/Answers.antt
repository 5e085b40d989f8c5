use Rattle.std.proofs.Common.{◌+◌, ◌-◌, ◌∙◌, ◌∷◌, Ok, arith, inl, inr, refl}
use Rattle.tsb_text.specs.Answers.{next_tick}
use Rattle.tsb_text.specs.Obeyed.{Took}
use Rattle.tsb_text.proofs.AnswerLemmas.{wants-followers}
use Rattle.tsb_text.proofs.recording.RecorderLemmas.{Stepping, steps-alone, steps-end, steps-more, steps-refused, steps-start}
use Rattle.tsb_text.proofs.recording.recorder.step.Goals as goal

pub loop-i-init : goal.loop-i-init
loop-i-init c = (λ given log is s. steps-start given log is c.args.ticks _ c.args.course.now (omega arith) s, refl)

pub loop-i-preserved : goal.loop-i-preserved
loop-i-preserved c = (
  λ given log is s.
      let before : Stepping given log is c.args.ticks c.loop-i.course (c.args.ticks - c.loop-i._i) = c.loop-i.invariant.0 given log is s in
      let took : Took (Ok tt) given log c.tick.new.self before.now (next_tick given before.now) = c.in-Ok.ensures.took given log before.now before.stands in
      steps-more given log is c.args.ticks c.loop-i.course c.tick.new.self c.follow_all.new.course (c.args.ticks - c.loop-i._i) (c.args.ticks - (c.loop-i._i + 1)) (omega arith) before took
      (c.in-Ok.ensures.next given log before.now before.stands) (c.in-None.ensures.followed given log (next_tick given before.now ∷ before.now) took.1),
  c.follow_all.ensures.mode ∙ (c.tick.ensures.mode ∙ c.loop-i.invariant.1),
)

pub returns-in-Err-clause-done : goal.returns-in-Err-clause-done
returns-in-Err-clause-done c given log is s =
    let before : Stepping given log is c.args.ticks c.loop-i.course (c.args.ticks - c.loop-i._i) = c.loop-i.invariant.0 given log is s in
    steps-refused given log is c.args.ticks c.loop-i.course c.tick.new.self (c.args.ticks - c.loop-i._i) (c.args.ticks - (c.loop-i._i + 1)) c.in-Err.refusal (omega arith) before (c.in-Err.ensures.took given log before.now before.stands)

pub returns-in-Some-clause-done : goal.returns-in-Some-clause-done
returns-in-Some-clause-done c given log is s =
    let before : Stepping given log is c.args.ticks c.loop-i.course (c.args.ticks - c.loop-i._i) = c.loop-i.invariant.0 given log is s in
    let took : Took (Ok tt) given log c.tick.new.self before.now (next_tick given before.now) = c.in-Ok.ensures.took given log before.now before.stands in
    steps-alone given log is c.args.ticks c.loop-i.course c.tick.new.self c.follow_all.new.course (c.args.ticks - c.loop-i._i) (c.args.ticks - (c.loop-i._i + 1)) c.in-Some.refusal (omega arith) before took
    (c.in-Ok.ensures.next given log before.now before.stands) (c.in-Some.ensures.followed given log (next_tick given before.now ∷ before.now) took.1)

pub returns-in-Err-clause-wanting : goal.returns-in-Err-clause-wanting
returns-in-Err-clause-wanting c is = inl (c.in-Err.ensures.wanting (grind (arith, is)))

pub returns-in-Some-clause-wanting : goal.returns-in-Some-clause-wanting
returns-in-Some-clause-wanting c is = inr (wants-followers c.follow_all.new.course c.tick.new.self.next (c.in-Some.ensures.wanting (grind (arith, is))))

pub returns-clause-done : goal.returns-clause-done
returns-clause-done c given log is s = steps-end given log is c.args.ticks c.loop-i.course (c.args.ticks - c.loop-i._i) (omega arith) (c.loop-i.invariant.0 given log is s)
