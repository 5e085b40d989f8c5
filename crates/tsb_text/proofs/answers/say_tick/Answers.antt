use Rattle.std.proofs.Common.{◌∙◌, Bool, Err, Ok, ap}
use Rattle.std.proofs.lemmas.Result.{err_from_is_err_and}
use Rattle.tsb_bench.specs.Held.{state_of}
use Rattle.tsb_text.specs.Answers.{line_in}
use Rattle.tsb_text.specs.Obeyed.{besides_of, news_in}
use Rattle.tsb_text.proofs.AnswerLemmas.{follow-there, trails-cut-line, trails-cut-news, trails-cut-next, trails-so}
use Rattle.tsb_text.proofs.answers.say_tick.Goals as goal

pub returns-in_err-say_news-clause-done : goal.returns-in_err-say_news-clause-done
returns-in_err-say_news-clause-done g c given log is s = let p = err_from_is_err_and c.from_residual.result c.from_residual.ensures.1 in
    rw p.1 (trails-cut-news given (besides_of c.args.course.now c.args.echo.now) is c.args.course.now.next (news_in c.args.course.now) (line_in given.is_wide (state_of c.args.course.now.bench)) p.0 log c.args.course.now _ _ _ _ c.in_err-say_news.ensures.said)

pub returns-in_err-refusal-clause-done : goal.returns-in_err-refusal-clause-done
returns-in_err-refusal-clause-done g c given log is s = let p = err_from_is_err_and c.from_residual-in_err-refusal.result c.from_residual-in_err-refusal.ensures.1 in
    rw p.1 (trails-cut-next given (besides_of c.args.course.now c.args.echo.now) is c.args.course.now.next (news_in c.args.course.now) (line_in given.is_wide (state_of c.args.course.now.bench)) log c.follow.new.course _ _ _ _ _ _ p.0
    c.in_ok-say_news.ensures.said (follow-there (Err p.0) c.args.course.now c.make_line.new.self c.follow.new.course _ _ _ _ c.make_line.ensures.same c.in_err-refusal.ensures.done given log is s))

pub returns-in_err-say-clause-done : goal.returns-in_err-say-clause-done
returns-in_err-say-clause-done g c given log is s = let p = err_from_is_err_and c.from_residual-in_err-say.result c.from_residual-in_err-say.ensures.1 in
    rw p.1 (trails-cut-line given (besides_of c.args.course.now c.args.echo.now) is c.args.course.now.next (news_in c.args.course.now) (line_in given.is_wide (state_of c.args.course.now.bench)) log c.follow.new.course c.in_ok-refusal.refusal _ _ _ _ _ _ _ _ p.0
    c.in_ok-say_news.ensures.said (follow-there (Ok c.in_ok-refusal.refusal) c.args.course.now c.make_line.new.self c.follow.new.course _ _ _ _ c.make_line.ensures.same c.in_ok-refusal.ensures.done given log is s) c.in_err-say.ensures.fault)

pub returns-clause-done : goal.returns-clause-done
returns-clause-done g c given log is s =
    trails-so given (besides_of c.args.course.now c.args.echo.now) is c.args.course.now.next (news_in c.args.course.now) (line_in given.is_wide (state_of c.args.course.now.bench)) log c.follow.new.course c.in_ok-refusal.refusal _ _ _ _ _ _ _ _ c.say_if_refused.result _ _ c.as_bytes.result.now
    (c.as_bytes.ensures ∙ c.make_line.ensures.line ∙ ap (λ (w : Bool). line_in w (state_of c.args.course.now.bench)) s.wide)
    c.in_ok-say_news.ensures.said (follow-there (Ok c.in_ok-refusal.refusal) c.args.course.now c.make_line.new.self c.follow.new.course _ _ _ _ c.make_line.ensures.same c.in_ok-refusal.ensures.done given log is s) c.in_ok-say.ensures.ok c.say_if_refused.ensures.told c.say_if_refused.ensures.said
