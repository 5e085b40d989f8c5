use Rattle.std.proofs.Common.{◌≡◌, ◌∙◌, Bool, Ok, ap, arith, false, refl, subst, true}
use Rattle.std.proofs.lemmas.Result.{err_from_is_err_and}
use Rattle.std.specs.declared.result.Result.{Result}
use Rattle.tsb_objects.specs.tsb_types.declared.refusal.Refusal.{Refusal}
use Rattle.tsb_text.specs.Obeyed.{Followed, NextAfter, tells_in}
use Rattle.tsb_text.proofs.AnswerLemmas.{trailed-fault, trailed-more, trailed-none, trailed-refused, trailed-start}
use Rattle.tsb_text.proofs.CourseLemmas.{no-refusal}
use Rattle.tsb_text.proofs.FollowLemmas.{shorter, wants-later}
use Rattle.tsb_text.proofs.answers.follow.Goals as goal

pub loop-course-init : goal.loop-course-init
loop-course-init g c = record {
  trailed = λ given log is s. trailed-start given log (tells_in c.args.course.now.mode) is c.args.course.now (g.W.Write.contents c.args.writer.now.device) c.args.pending.now s;
  wants = λ course wants. wants;
  rows = refl;
  mode = refl;
  acts = refl;
  well = λ w. w;
}

pub loop-course-preserved : goal.loop-course-preserved
loop-course-preserved g c =
    let taken : c.follow.result ≡ Ok true = c.in-Ok-true.is ∙ ap Ok c.in-Ok-true.field-0-test in
    let after : NextAfter (Ok true) c.loop-course.course.next c.follow.new.self.next = subst (λ (r : Result Bool Refusal). NextAfter r c.loop-course.course.next c.follow.new.self.next) taken c.follow.ensures.next in
    record {
      trailed = λ given log is s.
          (let so = c.loop-course.invariant.trailed given log is s in
          trailed-more given log c.args.course.now.mode is c.args.course.now.next so.now c.follow.new.self (c.follow.ensures.mode ∙ c.loop-course.invariant.mode) _ _ _ _ _ _ c.loop-course.course.next so.wrote.text
          (subst (λ (r : Result Bool Refusal). Followed r given log c.loop-course.course.next c.follow.new.self so.now) taken (c.follow.ensures.followed given log so.now so.stands)) after so.wrote.said so.wrote.so
          c.in_ok-say_news-in-Ok-true.ensures.said);
      wants = λ course wants. c.loop-course.invariant.wants course (wants-later course c.loop-course.course.next c.follow.new.self.next after wants);
      rows = c.follow.ensures.rows ∙ c.loop-course.invariant.rows;
      mode = c.follow.ensures.mode ∙ c.loop-course.invariant.mode;
      acts = c.follow.ensures.acts ∙ c.loop-course.invariant.acts;
      well = λ w. c.in_ok-say_news-in-Ok-true.ensures.blame (c.loop-course.invariant.well w);
    }

pub loop-course-smaller : goal.loop-course-smaller
loop-course-smaller g c =
    let taken : c.follow.result ≡ Ok true = c.in-Ok-true.is ∙ ap Ok c.in-Ok-true.field-0-test in
    shorter c.loop-course.course.next c.follow.new.self.next (subst (λ (r : Result Bool Refusal). NextAfter r c.loop-course.course.next c.follow.new.self.next) taken c.follow.ensures.next)

pub returns-in_err-say_news-in-Ok-true-clause-done : goal.returns-in_err-say_news-in-Ok-true-clause-done
returns-in_err-say_news-in-Ok-true-clause-done g c given log is s = let p = err_from_is_err_and c.from_residual.result c.from_residual.ensures.1 in
    let taken : c.follow.result ≡ Ok true = c.in-Ok-true.is ∙ ap Ok c.in-Ok-true.field-0-test in
    let so = c.loop-course.invariant.trailed given log is s in
    rw p.1 (trailed-fault given log c.args.course.now.mode is c.args.course.now.next so.now c.follow.new.self (c.follow.ensures.mode ∙ c.loop-course.invariant.mode) _ _ _ _ _ _ p.0 c.loop-course.course.next so.wrote.text
    (subst (λ (r : Result Bool Refusal). Followed r given log c.loop-course.course.next c.follow.new.self so.now) taken (c.follow.ensures.followed given log so.now so.stands))
    (subst (λ (r : Result Bool Refusal). NextAfter r c.loop-course.course.next c.follow.new.self.next) taken c.follow.ensures.next) so.wrote.said so.wrote.so c.in_err-say_news-in-Ok-true.ensures.said)

pub returns-in_err-say_news-in-Ok-true-clause-wanting : goal.returns-in_err-say_news-in-Ok-true-clause-wanting
returns-in_err-say_news-in-Ok-true-clause-wanting g c is = let p = err_from_is_err_and c.from_residual.result c.from_residual.ensures.1 in
    absurd (no-refusal c.from_residual.result p.0 p.1 is)

pub returns-in-Ok-false-clause-done : goal.returns-in-Ok-false-clause-done
returns-in-Ok-false-clause-done g c given log is s =
    let none : c.follow.result ≡ Ok false = c.in-Ok-false.is ∙ ap Ok c.in-Ok-false.field-0-test in
    let so = c.loop-course.invariant.trailed given log is s in
    trailed-none given log c.args.course.now.mode is c.args.course.now.next so.now c.follow.new.self _ _ _ _ c.loop-course.course.next so.wrote.text
    (subst (λ (r : Result Bool Refusal). Followed r given log c.loop-course.course.next c.follow.new.self so.now) none (c.follow.ensures.followed given log so.now so.stands))
    (subst (λ (r : Result Bool Refusal). NextAfter r c.loop-course.course.next c.follow.new.self.next) none c.follow.ensures.next) so.wrote.said so.wrote.so

pub returns-in-Err-clause-done : goal.returns-in-Err-clause-done
returns-in-Err-clause-done g c given log is s =
    let so = c.loop-course.invariant.trailed given log is s in
    trailed-refused given log c.args.course.now.mode is c.args.course.now.next so.now c.follow.new.self _ _ _ _ c.in-Err.refusal c.loop-course.course.next so.wrote.text
    (c.in-Err.ensures.followed given log so.now so.stands) so.wrote.said so.wrote.so

pub returns-in-Err-clause-wanting : goal.returns-in-Err-clause-wanting
returns-in-Err-clause-wanting g c memory = c.loop-course.invariant.wants c.follow.new.self (c.in-Err.ensures.wanting (grind (arith, memory)))
