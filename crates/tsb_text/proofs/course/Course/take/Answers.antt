use Rattle.std.proofs.Common.{◌≡◌, ◌∙◌, OnErr, subst, sym}
use Rattle.tsb_bench.specs.Held.{whole}
use Rattle.tsb_text.specs.Rows.{rows_in}
use Rattle.tsb_text.specs.Obeyed.{IsNext, OnCourse, Stands}
use Rattle.tsb_bench.proofs.TellingLemmas.{always}
use Rattle.tsb_text.proofs.FollowLemmas.{none-follows, stands-before, where-err}
use Rattle.tsb_text.proofs.course.Course.take.Goals as goal

pub returns-clause-took : goal.returns-clause-took
returns-clause-took c given log is s next =
    let old : OnCourse = record { bench = c.self.inside.bench; rows = rows_in c.self.inside.rows; kept = c.self.inside.kept; told = c.self.inside.told; mode = c.self.inside.mode; news = c.self.inside.news.items; acts = c.self.inside.acts; is_wide = c.self.inside.is_wide; next = c.self.inside.next } in
    let here : Stands given log old is = subst (λ (v : OnCourse). Stands given log v is) (sym c.self.view_is) s in
    let there : IsNext old.mode given is c.args.input = subst (λ (v : OnCourse). IsNext v.mode given is c.args.input) (sym c.self.view_is) next in
    c.take_alone.ensures.took given log is (stands-before given log old _ is here) there

pub returns-clause-next : goal.returns-clause-next
returns-clause-next c given log is s =
    always c.take_alone.result (c.take_alone.ensures.next ∙ c.none-self-inside.ensures ∙ none-follows given log is c.args.self.now c.args.input s (c.may_follow.ensures.none c.if-may_follow.false))

pub returns-clause-none : goal.returns-clause-none
returns-clause-none c = where-err c.take_alone.result (c.take_alone.ensures.next ∙ c.none-self-inside.ensures)

pub returns-clause-still : goal.returns-clause-still
returns-clause-still c = subst (λ (v : OnCourse). OnErr c.take_alone.result (whole c.take_alone.new.self.bench ≡ whole v.bench)) c.self.view_is c.take_alone.ensures.still
