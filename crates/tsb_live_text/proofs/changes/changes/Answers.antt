use Rattle.std.proofs.Common.{◌≡◌, ◌+◌, ◌-◌, ◌∙◌, ◌∷◌, Err, Ok, Some, ap, arith, inl, inr, refl}
use Rattle.std.proofs.lemmas.Result.{err_from_is_err_and}
use Rattle.tsb_bench.specs.Held.{state_of}
use Rattle.tsb_text.specs.Answers.{line_in}
use Rattle.tsb_text.specs.Obeyed.{besides_of, tells_in}
use Rattle.tsb_text.proofs.CourseLemmas.{no-refusal, told-memory}
use Rattle.tsb_types.specs.declared.refusal.Refusal.TheVariants.{Memory}
use Rattle.tsb_step.specs.declared.inputs.Input.TheVariants.{Tick}
use Rattle.tsb_text.proofs.AnswerLemmas.{wants-followers}
use Rattle.tsb_live_text.proofs.ChangeLemmas.{changes-end, changes-end-fault, changes-fault, changes-more, changes-started, changes-stop, changes-stop-after, held-next, held-took, line-long}
use Rattle.tsb_live_text.proofs.changes.changes.Goals as goal

pub loop-i-init : goal.loop-i-init
loop-i-init g c = record {
  changing = λ given log row is s held.
      changes-started given log (besides_of c.args.course.now c.args.echo.now) row is (line_in c.args.course.now.is_wide (state_of c.args.course.now.bench)) c.line_text-before.result c.args.ticks (c.args.ticks - 0) c.args.course.now _ _
      (c.line_text-before.ensures.line ∙ (λ j. line_in (c.is_wide.ensures j) (state_of (c.bench.ensures j)))) (omega arith) s;
  long = line-long c.is_wide.result (state_of c.bench.result.now) c.line_text-before.result c.line_text-before.ensures.line;
  short = c.line_text-before.ensures.short;
  mode = refl;
  well = λ w. w;
}

pub loop-i-preserved : goal.loop-i-preserved
loop-i-preserved g c = record {
  changing = λ given log row is s held.
      changes-more given log (besides_of c.args.course.now c.args.echo.now) row is (line_in c.args.course.now.is_wide (state_of c.args.course.now.bench)) c.args.ticks c.loop-i.course c.tick.new.self c.say_tick.new.course c.loop-i.before c.loop-i.is_owed (c.args.ticks - c.loop-i._i) (c.args.ticks - (c.loop-i._i + 1))
      c.line_text-now.result c.shows_same-is_owed.result c.in_ok-refusal.field-0 _ _ _ _ _ _ (c.loop-i.invariant.changing given log row is s held) (omega arith) (ap tells_in (c.tick.ensures.mode ∙ c.loop-i.invariant.mode))
      (λ inputs stands. held-next given log c.loop-i.course c.tick.new.self inputs row stands held (c.in_default.ensures.took given log inputs stands) (c.in_default.ensures.next given log inputs stands))
      (c.line_text-now.ensures.line ∙ (λ j. line_in (c.is_wide-in-loop-i.ensures j) (state_of (c.bench-in-loop-i.ensures j)))) c.shows_same-is_owed.ensures c.in-None.is (λ inputs stands. c.in_ok-refusal.ensures.done given log (Tick row ∷ inputs) stands);
  long = line-long c.is_wide-in-loop-i.result (state_of c.bench-in-loop-i.result.now) c.line_text-now.result c.line_text-now.ensures.line;
  short = c.line_text-now.ensures.short;
  mode = c.say_tick.ensures.mode ∙ c.tick.ensures.mode ∙ c.loop-i.invariant.mode;
  well = λ w. c.in_ok-refusal.ensures.blame (c.loop-i.invariant.well w);
}

pub shows_same-is_owed-requires-clause-line : goal.shows_same-is_owed-requires-clause-line
shows_same-is_owed-requires-clause-line g c =
    line-long c.is_wide-in-loop-i.result (state_of c.bench-in-loop-i.result.now) c.line_text-now.result c.line_text-now.ensures.line

pub returns-in-Err-clause-done : goal.returns-in-Err-clause-done
returns-in-Err-clause-done g c given log row is s held =
    changes-stop c.say_stop.result given log (besides_of c.args.course.now c.args.echo.now) row is (line_in c.args.course.now.is_wide (state_of c.args.course.now.bench)) c.args.ticks c.loop-i.course c.tick.new.self c.loop-i.before c.loop-i.is_owed (c.args.ticks - c.loop-i._i) (c.args.ticks - (c.loop-i._i + 1)) _ _ _ _ _ _ c.in-Err.refusal (c.loop-i.invariant.changing given log row is s held) (omega arith)
    (λ inputs stands. held-took (Err c.in-Err.refusal) given log c.loop-i.course c.tick.new.self inputs row stands held (c.in-Err.ensures.took given log inputs stands)) c.say_stop.ensures.told c.say_stop.ensures.said

pub returns-in-Err-clause-wanting : goal.returns-in-Err-clause-wanting
returns-in-Err-clause-wanting g c is =
    let same : c.in-Err.refusal ≡ Memory = told-memory c.say_stop.result c.in-Err.refusal c.say_stop.ensures.told is in
    inl (c.in-Err.ensures.wanting (λ j. Err (same j)))

pub returns-in-Some-clause-done : goal.returns-in-Some-clause-done
returns-in-Some-clause-done g c given log row is s held =
    changes-stop-after c.say_stop-in-Some.result given log (besides_of c.args.course.now c.args.echo.now) row is (line_in c.args.course.now.is_wide (state_of c.args.course.now.bench)) c.args.ticks c.loop-i.course c.tick.new.self c.say_tick.new.course c.loop-i.before c.loop-i.is_owed (c.args.ticks - c.loop-i._i) (c.args.ticks - (c.loop-i._i + 1))
    c.line_text-now.result c.shows_same-is_owed.result c.in_ok-refusal.field-0 _ _ _ _ _ _ _ _ c.in-Some.refusal (c.loop-i.invariant.changing given log row is s held) (omega arith) (ap tells_in (c.tick.ensures.mode ∙ c.loop-i.invariant.mode))
    (λ inputs stands. held-next given log c.loop-i.course c.tick.new.self inputs row stands held (c.in_default.ensures.took given log inputs stands) (c.in_default.ensures.next given log inputs stands))
    (c.line_text-now.ensures.line ∙ (λ j. line_in (c.is_wide-in-loop-i.ensures j) (state_of (c.bench-in-loop-i.ensures j)))) c.shows_same-is_owed.ensures c.in-Some.is (λ inputs stands. c.in_ok-refusal.ensures.done given log (Tick row ∷ inputs) stands)
    c.say_stop-in-Some.ensures.told c.say_stop-in-Some.ensures.said

pub returns-in-Some-clause-wanting : goal.returns-in-Some-clause-wanting
returns-in-Some-clause-wanting g c is =
    let same : c.in-Some.refusal ≡ Memory = told-memory c.say_stop-in-Some.result c.in-Some.refusal c.say_stop-in-Some.ensures.told is in
    inr (wants-followers c.say_tick.new.course c.tick.new.self.next (c.in_ok-refusal.ensures.wanting (ap Ok (c.in-Some.is ∙ ap Some same))))

pub returns-in_err-refusal-clause-wanting : goal.returns-in_err-refusal-clause-wanting
returns-in_err-refusal-clause-wanting g c is = let p = err_from_is_err_and c.from_residual.result c.from_residual.ensures.1 in
    absurd (no-refusal c.from_residual.result p.0 p.1 is)

pub returns-in_err-refusal-clause-done : goal.returns-in_err-refusal-clause-done
returns-in_err-refusal-clause-done g c given log row is s held = let p = err_from_is_err_and c.from_residual.result c.from_residual.ensures.1 in
    rw p.1 (changes-fault given log (besides_of c.args.course.now c.args.echo.now) row is (line_in c.args.course.now.is_wide (state_of c.args.course.now.bench)) c.args.ticks c.loop-i.course c.tick.new.self c.say_tick.new.course c.loop-i.before c.loop-i.is_owed (c.args.ticks - c.loop-i._i) (c.args.ticks - (c.loop-i._i + 1)) c.line_text-now.result c.shows_same-is_owed.result _ _ _ _ _ _ p.0 (c.loop-i.invariant.changing given log row is s held) (omega arith) (ap tells_in (c.tick.ensures.mode ∙ c.loop-i.invariant.mode))
    (λ inputs stands. held-next given log c.loop-i.course c.tick.new.self inputs row stands held (c.in_default.ensures.took given log inputs stands) (c.in_default.ensures.next given log inputs stands))
    (c.line_text-now.ensures.line ∙ (λ j. line_in (c.is_wide-in-loop-i.ensures j) (state_of (c.bench-in-loop-i.ensures j)))) c.shows_same-is_owed.ensures (λ inputs stands. c.in_err-refusal.ensures.done given log (Tick row ∷ inputs) stands))

pub returns-in_err-say_owed-clause-wanting : goal.returns-in_err-say_owed-clause-wanting
returns-in_err-say_owed-clause-wanting g c is = let p = err_from_is_err_and c.from_residual-in_err-say_owed.result c.from_residual-in_err-say_owed.ensures.1 in
    absurd (no-refusal c.from_residual-in_err-say_owed.result p.0 p.1 is)

pub returns-clause-wanting : goal.returns-clause-wanting
returns-clause-wanting g c is = absurd (grind (arith, is))

pub returns-in_err-say_owed-clause-done : goal.returns-in_err-say_owed-clause-done
returns-in_err-say_owed-clause-done g c given log row is s held = let p = err_from_is_err_and c.from_residual-in_err-say_owed.result c.from_residual-in_err-say_owed.ensures.1 in
    rw p.1 (changes-end-fault p.0 given log (besides_of c.args.course.now c.args.echo.now) row is (line_in c.args.course.now.is_wide (state_of c.args.course.now.bench)) c.args.ticks c.loop-i.course c.loop-i.before c.loop-i.is_owed (c.args.ticks - c.loop-i._i) _ _ _ _ _ _
    (c.loop-i.invariant.changing given log row is s held) (omega arith) c.in_err-say_owed.ensures.said)

pub returns-clause-done : goal.returns-clause-done
returns-clause-done g c given log row is s held =
    changes-end given log (besides_of c.args.course.now c.args.echo.now) row is (line_in c.args.course.now.is_wide (state_of c.args.course.now.bench)) c.args.ticks c.loop-i.course c.loop-i.before c.loop-i.is_owed (c.args.ticks - c.loop-i._i) _ _ _ _ _ _
    (c.loop-i.invariant.changing given log row is s held) (omega arith) c.in_ok-say_owed.ensures.said
