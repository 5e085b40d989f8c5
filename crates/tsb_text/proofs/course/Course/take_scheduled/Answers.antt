use Rattle.std.proofs.Common.{◌≡◌, ◌∙◌, Ok, ap, subst, sym}
use Rattle.tsb_bench.specs.Held.{state_of, whole}
use Rattle.tsb_text.specs.Rows.{rows_in}
use Rattle.tsb_text.specs.Obeyed.{IsNext, OnCourse, Stands, Took}
use Rattle.tsb_text.proofs.FollowLemmas.{some-follows, stands-before, took-before}
use Rattle.tsb_text.proofs.course.Course.take_scheduled.Goals as goal

pub returns-in-Ok-clause-took : goal.returns-in-Ok-clause-took
returns-in-Ok-clause-took c given log is s next =
    let old : OnCourse = record { bench = c.self.inside.bench; rows = rows_in c.self.inside.rows; kept = c.self.inside.kept; told = c.self.inside.told; mode = c.self.inside.mode; news = c.self.inside.news.items; acts = c.self.inside.acts; is_wide = c.self.inside.is_wide; next = c.self.inside.next } in
    let here : Stands given log old is = subst (λ (v : OnCourse). Stands given log v is) (sym c.self.view_is) s in
    let there : IsNext old.mode given is c.args.input = subst (λ (v : OnCourse). IsNext v.mode given is c.args.input) (sym c.self.view_is) next in
    let took : Took (Ok tt) given log c.take_alone.new.self is c.args.input = c.in-Ok.ensures.took given log is (stands-before given log old _ is here) there in
    took-before given log (record { bench = c.self-2.inside.bench; rows = rows_in c.self-2.inside.rows; kept = c.self-2.inside.kept; told = c.self-2.inside.told; mode = c.self-2.inside.mode; news = c.self-2.inside.news.items; acts = c.self-2.inside.acts; is_wide = c.self-2.inside.is_wide; next = c.self-2.inside.next }) c.after-self-inside.result is c.args.input
    (subst (λ (v : OnCourse). Took (Ok tt) given log v is c.args.input) (sym c.self-2.view_is) took)

pub returns-in-Ok-clause-next : goal.returns-in-Ok-clause-next
returns-in-Ok-clause-next c given log is s =
    let old : OnCourse = record { bench = c.self.inside.bench; rows = rows_in c.self.inside.rows; kept = c.self.inside.kept; told = c.self.inside.told; mode = c.self.inside.mode; news = c.self.inside.news.items; acts = c.self.inside.acts; is_wide = c.self.inside.is_wide; next = c.self.inside.next } in
    let here : Stands given log old is = subst (λ (v : OnCourse). Stands given log v is) (sym c.self.view_is) s in
    c.after-self-inside.ensures
    ∙ some-follows given log is old c.args.input (state_of c.self-2.inside.bench) c.action-before.result here (ap (λ (v : OnCourse). v.acts) c.self.view_is ∙ c.requires.acts)
    (ap (λ (v : OnCourse). state_of v.bench) c.self-2.view_is ∙ c.in-Ok.ensures.state) c.action-before.ensures.value

pub returns-in-Err-clause-took : goal.returns-in-Err-clause-took
returns-in-Err-clause-took c given log is s next =
    let old : OnCourse = record { bench = c.self.inside.bench; rows = rows_in c.self.inside.rows; kept = c.self.inside.kept; told = c.self.inside.told; mode = c.self.inside.mode; news = c.self.inside.news.items; acts = c.self.inside.acts; is_wide = c.self.inside.is_wide; next = c.self.inside.next } in
    let here : Stands given log old is = subst (λ (v : OnCourse). Stands given log v is) (sym c.self.view_is) s in
    let there : IsNext old.mode given is c.args.input = subst (λ (v : OnCourse). IsNext v.mode given is c.args.input) (sym c.self.view_is) next in
    c.in-Err.ensures.took given log is (stands-before given log old _ is here) there

pub returns-in-Err-clause-still : goal.returns-in-Err-clause-still
returns-in-Err-clause-still c = subst (λ (v : OnCourse). whole c.take_alone.new.self.bench ≡ whole v.bench) c.self.view_is c.in-Err.ensures.still
