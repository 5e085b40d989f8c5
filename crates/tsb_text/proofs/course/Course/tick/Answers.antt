use Rattle.std.proofs.Common.{◌≡◌, ◌∙◌, OnErr, OnOk, ap, subst, sym}
use Rattle.tsb_bench.specs.Held.{whole}
use Rattle.tsb_bench.specs.tsb_step.declared.inputs.Input.{Input}
use Rattle.tsb_bench.specs.tsb_step.declared.inputs.Input.TheVariants.{Tick}
use Rattle.tsb_text.specs.Answers.{followers, next_tick}
use Rattle.tsb_text.specs.Obeyed.{IsNext, OnCourse, Stands, Took}
use Rattle.tsb_text.proofs.recording.OfLogLemmas.{tick-of-log}
use Rattle.tsb_text.proofs.CourseLemmas.{tick-next, tick-wants}
use Rattle.tsb_text.proofs.course.Course.tick.Goals as goal

pub returns-clause-took : goal.returns-clause-took
returns-clause-took c given log is s =
    let same : Tick c.next_row-row.result ≡ next_tick given is = tick-next given log is c.args.self.now c.next_row-row.result s c.next_row-row.ensures.row in
    subst (λ (i : Input). Took c.take.result given log c.take.new.self is i) same
    (c.take.ensures.took given log is (subst (λ (v : OnCourse). Stands given log v is) (sym c.next_row-row.ensures.same) s)
    (subst (λ (i : Input). IsNext c.next_row-row.new.self.mode given is i) (sym same) (tick-of-log c.next_row-row.new.self.mode given is)))

pub returns-clause-wanting : goal.returns-clause-wanting
returns-clause-wanting c memory =
    tick-wants c.take.result c.args.self.now c.take.new.self c.next_row-row.result (c.take.ensures.rows ∙ ap (λ (v : OnCourse). v.rows) c.next_row-row.ensures.same)
    (subst (λ (v : OnCourse). OnErr c.take.result (whole c.take.new.self.bench ≡ whole v.bench)) c.next_row-row.ensures.same c.take.ensures.still) c.next_row-row.ensures.row c.take.ensures.wanting memory

pub returns-clause-next : goal.returns-clause-next
returns-clause-next c given log is s =
    subst (λ (i : Input). OnOk c.take.result (c.take.new.self.next ≡ followers given is i)) (tick-next given log is c.args.self.now c.next_row-row.result s c.next_row-row.ensures.row)
    (c.take.ensures.next given log is (subst (λ (v : OnCourse). Stands given log v is) (sym c.next_row-row.ensures.same) s))
