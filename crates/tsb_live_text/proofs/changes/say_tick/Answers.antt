use Rattle.std.proofs.lemmas.Result.{err_from_is_err_and}
use Rattle.tsb_text.specs.Obeyed.{news_in, tells_in}
use Rattle.tsb_text.proofs.CourseLemmas.{no-refusal}
use Rattle.tsb_live_text.specs.Changes.{owed}
use Rattle.tsb_live_text.proofs.TickLemmas.{tells-all, tells-cut, tells-cut-after, tells-cut-line}
use Rattle.tsb_live_text.proofs.changes.say_tick.Goals as goal

pub returns-in_err-say_news-clause-done : goal.returns-in_err-say_news-clause-done
returns-in_err-say_news-clause-done g c given log is s = let p = err_from_is_err_and c.from_residual.result c.from_residual.ensures.1 in
    rw p.1 (tells-cut p.0 given log c.args.course.now (tells_in c.args.course.now.mode) is c.args.course.now.next (news_in c.args.course.now) (owed c.args.is_owed c.args.line.now) _ _ _ _ c.in_err-say_news.ensures.said)

pub returns-in_err-refusal-clause-done : goal.returns-in_err-refusal-clause-done
returns-in_err-refusal-clause-done g c given log is s = let p = err_from_is_err_and c.from_residual-in_err-refusal.result c.from_residual-in_err-refusal.ensures.1 in
    rw p.1 (tells-cut-after p.0 given log c.follow.new.course (tells_in c.args.course.now.mode) is c.args.course.now.next (news_in c.args.course.now) (owed c.args.is_owed c.args.line.now) _ _ _ _ _ _
    c.in_ok-say_news.ensures.said (c.in_err-refusal.ensures.done given log is s))

pub returns-in_err-say_owed-clause-done : goal.returns-in_err-say_owed-clause-done
returns-in_err-say_owed-clause-done g c given log is s = let p = err_from_is_err_and c.from_residual-in_err-say_owed.result c.from_residual-in_err-say_owed.ensures.1 in
    rw p.1 (tells-cut-line p.0 c.in_ok-refusal.refusal given log _ (tells_in c.args.course.now.mode) is c.args.course.now.next (news_in c.args.course.now) (owed c.args.is_owed c.args.line.now) _ _ _ _ _ _ _ _
    c.in_ok-say_news.ensures.said (c.in_ok-refusal.ensures.done given log is s) c.in_err-say_owed.ensures.said)

pub returns-clause-done : goal.returns-clause-done
returns-clause-done g c given log is s =
    tells-all c.in_ok-refusal.refusal given log _ (tells_in c.args.course.now.mode) is c.args.course.now.next (news_in c.args.course.now) (owed c.args.is_owed c.args.line.now) _ _ _ _ _ _ _ _
    c.in_ok-say_news.ensures.said (c.in_ok-refusal.ensures.done given log is s) c.in_ok-say_owed.ensures.said

pub returns-in_err-say_news-clause-wanting : goal.returns-in_err-say_news-clause-wanting
returns-in_err-say_news-clause-wanting g c is = let p = err_from_is_err_and c.from_residual.result c.from_residual.ensures.1 in
    absurd (no-refusal c.from_residual.result p.0 p.1 is)

pub returns-in_err-refusal-clause-wanting : goal.returns-in_err-refusal-clause-wanting
returns-in_err-refusal-clause-wanting g c is = let p = err_from_is_err_and c.from_residual-in_err-refusal.result c.from_residual-in_err-refusal.ensures.1 in
    absurd (no-refusal c.from_residual-in_err-refusal.result p.0 p.1 is)

pub returns-in_err-say_owed-clause-wanting : goal.returns-in_err-say_owed-clause-wanting
returns-in_err-say_owed-clause-wanting g c is = let p = err_from_is_err_and c.from_residual-in_err-say_owed.result c.from_residual-in_err-say_owed.ensures.1 in
    absurd (no-refusal c.from_residual-in_err-say_owed.result p.0 p.1 is)
