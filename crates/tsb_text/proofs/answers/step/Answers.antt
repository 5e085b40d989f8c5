use Rattle.std.proofs.Common.{◌≡◌, ◌+◌, ◌-◌, ◌∙◌, Err, Ok, ap, arith, inl, inr, refl}
use Rattle.std.proofs.lemmas.Result.{err_from_is_err_and}
use Rattle.tsb_text.specs.Obeyed.{besides_of, tells_in}
use Rattle.tsb_objects.specs.tsb_types.declared.refusal.Refusal.TheVariants.{Memory}
use Rattle.tsb_text.proofs.CourseLemmas.{no-refusal, told-memory}
use Rattle.tsb_text.proofs.AnswerLemmas.{steps-end, steps-fault, steps-more, steps-over, steps-start, steps-stop, wants-followers}
use Rattle.tsb_text.proofs.answers.step.Goals as goal

pub loop-i-init : goal.loop-i-init
loop-i-init g c = record {
  steps = λ given log is s. steps-start given log (besides_of c.args.course.now c.args.echo.now) is c.args.ticks _ c.args.course.now _ c.args.pending.now (omega arith) s;
  rows = refl;
  mode = refl;
  well = λ w. w;
}

pub loop-i-preserved : goal.loop-i-preserved
loop-i-preserved g c = record {
  steps = λ given log is s.
      steps-more given log (besides_of c.args.course.now c.args.echo.now) is c.args.ticks c.loop-i.course c.tick.new.self c.say_tick.new.course _ _ _ _ _ _ _ _ (c.loop-i.invariant.steps given log is s)
      (omega arith) (ap tells_in (c.tick.ensures.mode ∙ c.loop-i.invariant.mode)) (λ given log inputs stands. c.in-Ok.ensures.took given log inputs stands) (λ given log inputs stands. c.in-Ok.ensures.next given log inputs stands)
      _ c.in-None.is (λ given log inputs stands. c.in_ok-refusal-in-Ok.ensures.done given log inputs stands);
  rows = c.say_tick.ensures.rows ∙ c.tick.ensures.rows ∙ c.loop-i.invariant.rows;
  mode = c.say_tick.ensures.mode ∙ c.tick.ensures.mode ∙ c.loop-i.invariant.mode;
  well = λ w. c.in_ok-refusal-in-Ok.ensures.blame (c.loop-i.invariant.well w);
}

pub returns-in_err-refusal-in-Ok-clause-done : goal.returns-in_err-refusal-in-Ok-clause-done
returns-in_err-refusal-in-Ok-clause-done g c given log is s = let p = err_from_is_err_and c.from_residual.result c.from_residual.ensures.1 in
    rw p.1 (steps-fault given log (besides_of c.args.course.now c.args.echo.now) is c.args.ticks c.loop-i.course c.tick.new.self c.say_tick.new.course _ (c.args.ticks - (c.loop-i._i + 1)) _ _ _ _ _ _ (c.loop-i.invariant.steps given log is s)
    (omega arith) (ap tells_in (c.tick.ensures.mode ∙ c.loop-i.invariant.mode)) (λ given log inputs stands. c.in-Ok.ensures.took given log inputs stands) (λ given log inputs stands. c.in-Ok.ensures.next given log inputs stands)
    p.0 (λ given log inputs stands. c.in_err-refusal-in-Ok.ensures.done given log inputs stands))

pub returns-in-Some-clause-done : goal.returns-in-Some-clause-done
returns-in-Some-clause-done g c given log is s =
    steps-over given log (besides_of c.args.course.now c.args.echo.now) is c.args.ticks c.loop-i.course c.tick.new.self c.say_tick.new.course _ (c.args.ticks - (c.loop-i._i + 1)) _ _ _ _ _ _ (c.loop-i.invariant.steps given log is s)
    (omega arith) (ap tells_in (c.tick.ensures.mode ∙ c.loop-i.invariant.mode)) (λ given log inputs stands. c.in-Ok.ensures.took given log inputs stands) (λ given log inputs stands. c.in-Ok.ensures.next given log inputs stands)
    _ c.in-Some.refusal c.in-Some.is (λ given log inputs stands. c.in_ok-refusal-in-Ok.ensures.done given log inputs stands)

pub returns-in-Some-clause-wanting : goal.returns-in-Some-clause-wanting
returns-in-Some-clause-wanting g c is = inr (wants-followers c.say_tick.new.course c.tick.new.self.next (c.in_ok-refusal-in-Ok.ensures.wanting (ap Ok c.in-Some.is ∙ is)))

pub returns-in-Err-clause-done : goal.returns-in-Err-clause-done
returns-in-Err-clause-done g c given log is s =
    steps-stop c.say_refusal.result given log (besides_of c.args.course.now c.args.echo.now) is c.args.ticks c.loop-i.course c.tick.new.self _ (c.args.ticks - (c.loop-i._i + 1)) _ _ _ _ _ _ c.in-Err.refusal
    (c.loop-i.invariant.steps given log is s) (omega arith) (λ given log inputs stands. c.in-Err.ensures.took given log inputs stands) c.say_refusal.ensures.told c.say_refusal.ensures.said

pub returns-in-Err-clause-wanting : goal.returns-in-Err-clause-wanting
returns-in-Err-clause-wanting g c is =
    let same : c.in-Err.refusal ≡ Memory = told-memory c.say_refusal.result c.in-Err.refusal c.say_refusal.ensures.told is in
    inl (c.in-Err.ensures.wanting (λ j. Err (same j)))

pub returns-clause-done : goal.returns-clause-done
returns-clause-done g c given log is s = steps-end given log (besides_of c.args.course.now c.args.echo.now) is c.args.ticks c.loop-i.course _ _ _ _ _ (c.loop-i.invariant.steps given log is s) (omega arith)

pub returns-in_err-refusal-in-Ok-clause-wanting : goal.returns-in_err-refusal-in-Ok-clause-wanting
returns-in_err-refusal-in-Ok-clause-wanting g c is = let p = err_from_is_err_and c.from_residual.result c.from_residual.ensures.1 in
    absurd (no-refusal c.from_residual.result p.0 p.1 is)

pub returns-clause-wanting : goal.returns-clause-wanting
returns-clause-wanting g c is = absurd (grind (arith, is))
