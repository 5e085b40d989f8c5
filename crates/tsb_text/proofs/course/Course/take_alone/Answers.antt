use Rattle.std.proofs.Common.{◌≡◌, OnErr, OnOk, inl, refl, subst, sym, rules}
use Rattle.tsb_bench.specs.Held.{state_of, whole}
use Rattle.tsb_bench.specs.tsb_step.Step.{step}
use Rattle.tsb_text.specs.Rows.{rows_in}
use Rattle.tsb_text.specs.Obeyed.{OnCourse, Stands}
use Rattle.tsb_text.proofs.CourseLemmas.{bench-took, bench-wants, plain-took, same-whole}
use Rattle.tsb_text.proofs.course.Course.take_alone.Goals as goal

pub returns-in-Plain-clause-took : goal.returns-in-Plain-clause-took
returns-in-Plain-clause-took c given log is s next =
    let old : OnCourse = record { bench = c.self.inside.bench; rows = rows_in c.self.inside.rows; kept = c.self.inside.kept; told = c.self.inside.told; mode = c.self.inside.mode; news = c.self.inside.news.items; acts = c.self.inside.acts; is_wide = c.self.inside.is_wide; next = c.self.inside.next } in
    let here : Stands given log old is = subst (λ (v : OnCourse). Stands given log v is) (sym c.self.view_is) s in
    plain-took c.apply.result given log is old _ c.args.input here c.in-Plain.is refl refl refl
    (bench-took c.apply.result given.plan is c.self.inside.bench c.apply.new.self c.args.input here.follows c.apply.ensures.allowed c.apply.ensures.state c.apply.ensures.records c.apply.ensures.back c.apply.ensures.refused c.apply.ensures.err)

pub returns-in-Plain-clause-wanting : goal.returns-in-Plain-clause-wanting
returns-in-Plain-clause-wanting c memory = inl (bench-wants c.apply.result c.self.inside.bench c.apply.new.self c.args.input c.apply.ensures.err c.apply.ensures.wanting memory)

pub returns-in-Plain-clause-still : goal.returns-in-Plain-clause-still
returns-in-Plain-clause-still c =
    subst (λ (v : OnCourse). OnErr c.apply.result (whole c.apply.new.self ≡ whole v.bench)) c.self.view_is (same-whole c.apply.result c.self.inside.bench c.apply.new.self c.apply.ensures.err)

pub returns-in-Plain-clause-state : goal.returns-in-Plain-clause-state
returns-in-Plain-clause-state c =
    subst (λ (v : OnCourse). OnOk c.apply.result (state_of c.apply.new.self ≡ step (state_of v.bench) c.args.input)) c.self.view_is c.apply.ensures.state

pub returns-in-Keeping-clause-took : goal.returns-in-Keeping-clause-took
returns-in-Keeping-clause-took c = search rules fits 100

pub returns-in-Recording-clause-took : goal.returns-in-Recording-clause-took
returns-in-Recording-clause-took c = search rules fits 100
