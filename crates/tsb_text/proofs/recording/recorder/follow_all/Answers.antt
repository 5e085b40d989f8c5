use Rattle.std.proofs.Common.{◌≡◌, ◌∙◌, Bool, Ok, ap, arith, false, true, refl, subst}
use Rattle.std.specs.declared.result.Result.{Result}
use Rattle.tsb_types.specs.declared.refusal.Refusal.{Refusal}
use Rattle.tsb_text.specs.Obeyed.{Followed, NextAfter}
use Rattle.tsb_text.proofs.FollowLemmas.{Following, following-more, following-none, following-refused, following-start, shorter, wants-later}
use Rattle.tsb_text.proofs.recording.recorder.follow_all.Goals as goal

pub loop-refusal-init : goal.loop-refusal-init
loop-refusal-init c = record { on = λ given log is s. following-start given log is c.args.course.now s; wants = λ course wants. wants; mode = refl }

pub loop-refusal-preserved : goal.loop-refusal-preserved
loop-refusal-preserved c =
    let taken : c.follow.result ≡ Ok true = c.in-Ok-true.is ∙ ap Ok c.in-Ok-true.field-0-test in
    let after : NextAfter (Ok true) c.loop-refusal.course.next c.follow.new.self.next = subst (λ (r : Result Bool Refusal). NextAfter r c.loop-refusal.course.next c.follow.new.self.next) taken c.follow.ensures.next in
    record {
      on = λ given log is s.
          (let so : Following given log is c.args.course.now.next c.loop-refusal.course = c.loop-refusal.invariant.on given log is s in
          following-more given log is c.args.course.now.next so.now c.follow.new.self c.loop-refusal.course.next
          (subst (λ (r : Result Bool Refusal). Followed r given log c.loop-refusal.course.next c.follow.new.self so.now) taken (c.follow.ensures.followed given log so.now so.stands)) after so.on);
      wants = λ course wants. c.loop-refusal.invariant.wants course (wants-later course c.loop-refusal.course.next c.follow.new.self.next after wants);
      mode = c.follow.ensures.mode ∙ c.loop-refusal.invariant.mode;
    }

pub loop-refusal-smaller : goal.loop-refusal-smaller
loop-refusal-smaller c =
    let taken : c.follow.result ≡ Ok true = c.in-Ok-true.is ∙ ap Ok c.in-Ok-true.field-0-test in
    shorter c.loop-refusal.course.next c.follow.new.self.next (subst (λ (r : Result Bool Refusal). NextAfter r c.loop-refusal.course.next c.follow.new.self.next) taken c.follow.ensures.next)

pub returns-in-Ok-false-clause-followed : goal.returns-in-Ok-false-clause-followed
returns-in-Ok-false-clause-followed c given log is s =
    let none : c.follow.result ≡ Ok false = c.in-Ok-false.is ∙ ap Ok c.in-Ok-false.field-0-test in
    let so : Following given log is c.args.course.now.next c.loop-refusal.course = c.loop-refusal.invariant.on given log is s in
    following-none given log is c.args.course.now.next so.now c.follow.new.self c.loop-refusal.course.next
    (subst (λ (r : Result Bool Refusal). Followed r given log c.loop-refusal.course.next c.follow.new.self so.now) none (c.follow.ensures.followed given log so.now so.stands))
    (subst (λ (r : Result Bool Refusal). NextAfter r c.loop-refusal.course.next c.follow.new.self.next) none c.follow.ensures.next) so.on

pub returns-in-Err-clause-followed : goal.returns-in-Err-clause-followed
returns-in-Err-clause-followed c given log is s =
    let so : Following given log is c.args.course.now.next c.loop-refusal.course = c.loop-refusal.invariant.on given log is s in
    following-refused given log is c.args.course.now.next so.now c.follow.new.self c.in-Err.refusal c.loop-refusal.course.next (c.in-Err.ensures.followed given log so.now so.stands) so.on

pub returns-in-Err-clause-wanting : goal.returns-in-Err-clause-wanting
returns-in-Err-clause-wanting c memory = c.loop-refusal.invariant.wants c.follow.new.self (c.in-Err.ensures.wanting (grind (arith, memory)))
