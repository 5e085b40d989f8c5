use Rattle.std.proofs.Common.{◌∙◌, List, ap, arith, subst, sym}
use Rattle.tsb_bench.specs.Held.{whole}
use Rattle.tsb_bench.specs.tsb_step.declared.inputs.Input.{Input}
use Rattle.tsb_log_text.specs.declared.log.LogRow.{LogRow}
use Rattle.tsb_text.specs.Answers.{Setup}
use Rattle.tsb_text.specs.Rows.{rows_in}
use Rattle.tsb_text.specs.Obeyed.{Answered, AsksNext, OnCourse, Stands}
use Rattle.tsb_text.specs.Wanting.{WantsTo}
use Rattle.tsb_text.proofs.FollowLemmas.{none-after-command}
use Rattle.tsb_text.proofs.CourseLemmas.{answered-refused, answered-there, answered-took, not-refused}
use Rattle.tsb_text.proofs.course.Course.answer.Goals as goal

pub returns-in-Ok-clause-right : goal.returns-in-Ok-clause-right
returns-in-Ok-clause-right c given log is s next =
    rw c.in-Apply.is (answered-took given log _ is c.in-Apply.input (c.in-Ok.ensures.took given log is s (subst (AsksNext c.args.self.now.mode given is) c.in-Apply.is next)))

pub returns-in-Err-clause-right : goal.returns-in-Err-clause-right
returns-in-Err-clause-right c given log is s next =
    rw c.in-Apply.is (answered-refused given log _ is c.in-Apply.input c.in-Err.refusal (c.in-Err.ensures.took given log is s (subst (AsksNext c.args.self.now.mode given is) c.in-Apply.is next)))

pub returns-in-Ok-clause-wanting : goal.returns-in-Ok-clause-wanting
returns-in-Ok-clause-wanting c is = absurd (cc)

pub returns-in-Err-clause-wanting : goal.returns-in-Err-clause-wanting
returns-in-Err-clause-wanting c is = subst (WantsTo c.take.new.self) (sym c.in-Apply.is) (c.in-Err.ensures.wanting (grind (arith, is)))

pub returns-in_default : goal.returns-in_default
returns-in_default c = record {
  wanting = λ is. absurd (not-refused (whole c.self.inside.bench) (whole c.answer-given.new.bench) c.args.command c.answer-given.result c.in_default.not-Apply c.answer-given.ensures.does is);
  right = λ given log is s next. right given log is (subst (λ (v : OnCourse). Stands given log v is) (sym c.self.view_is) s);
  mode = c.forget.ensures.mode ∙ ap (λ (v : OnCourse). v.mode) c.self.view_is;
  rows = c.forget.ensures.rows ∙ ap (λ (v : OnCourse). v.rows) c.self.view_is;
  acts = c.forget.ensures.acts ∙ ap (λ (v : OnCourse). v.acts) c.self.view_is;
  wide = c.forget.ensures.wide ∙ ap (λ (v : OnCourse). v.is_wide) c.self.view_is;
  next = λ given log is s. c.forget.ensures.next ∙ c.none-self-inside.ensures ∙ sym (none-after-command given is c.args.command c.answer-given.result c.in_default.not-Apply);
}
  where
    right : (given : Setup) (log : List LogRow) (is : List Input) → Stands given log (record { bench = c.self.inside.bench; rows = rows_in c.self.inside.rows; kept = c.self.inside.kept; told = c.self.inside.told; mode = c.self.inside.mode; news = c.self.inside.news.items; acts = c.self.inside.acts; is_wide = c.self.inside.is_wide; next = c.self.inside.next }) is
        → Answered given log c.forget.new.self is c.args.command c.answer-given.result
    right given log is s = answered-there given log is (record { bench = c.self.inside.bench; rows = rows_in c.self.inside.rows; kept = c.self.inside.kept; told = c.self.inside.told; mode = c.self.inside.mode; news = c.self.inside.news.items; acts = c.self.inside.acts; is_wide = c.self.inside.is_wide; next = c.self.inside.next }) c.forget.new.self c.answer-given.new.bench c.args.command c.answer-given.result s
        c.in_default.not-Apply c.forget.ensures.mode c.forget.ensures.rows c.forget.ensures.acts c.forget.ensures.wide c.forget.ensures.bench c.answer-given.ensures.right c.forget.ensures.kept c.forget.ensures.told

pub returns-in-Ok-clause-next : goal.returns-in-Ok-clause-next
returns-in-Ok-clause-next c given log is s = rw c.in-Apply.is (c.in-Ok.ensures.next given log is s)

pub returns-in-Err-clause-next : goal.returns-in-Err-clause-next
returns-in-Err-clause-next c given log is s = rw c.in-Apply.is c.in-Err.ensures.none
