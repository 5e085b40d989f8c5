use Rattle.std.proofs.Common.{◌≡◌, ◌∙◌, Err, OnErr, OnOk, ap, inl, refl, subst, sym}
use Rattle.tsb_bench.specs.Held.{state_of, whole}
use Rattle.tsb_bench.specs.tsb_step.declared.log_form.Noted.{Noted}
use Rattle.tsb_bench.specs.tsb_step.Events.{events_of}
use Rattle.tsb_text.specs.Rows.{rows_in}
use Rattle.tsb_text.specs.recording.Told.{Stored}
use Rattle.tsb_text.specs.Obeyed.{OnCourse, Stands}
use Rattle.tsb_bench.specs.tsb_step.Step.{step}
use Rattle.tsb_text.proofs.FollowLemmas.{stepped}
use Rattle.tsb_text.proofs.CourseLemmas.{bench-took, bench-wants, keep-wants, keeps-telling, kept-news, kept-refused, kept-so, still-there}
use Rattle.tsb_text.proofs.course.Course.take_telling.Goals as goal

pub returns-in-Err-clause-took : goal.returns-in-Err-clause-took
returns-in-Err-clause-took c given log is s next =
    let old : OnCourse = record { bench = c.self.inside.bench; rows = rows_in c.self.inside.rows; kept = c.self.inside.kept; told = c.self.inside.told; mode = c.self.inside.mode; news = c.self.inside.news.items; acts = c.self.inside.acts; is_wide = c.self.inside.is_wide; next = c.self.inside.next } in
    let here : Stands given log old is = subst (λ (v : OnCourse). Stands given log v is) (sym c.self.view_is) s in
    kept-refused c.in-Err.refusal given log is old _ c.args.input here refl refl refl refl refl refl
    (bench-took (Err c.in-Err.refusal) given.plan is c.self.inside.bench c.apply_telling.new.self c.args.input here.follows tt tt tt tt c.in-Err.ensures.refused c.in-Err.ensures.err)

pub returns-in-Err-clause-wanting : goal.returns-in-Err-clause-wanting
returns-in-Err-clause-wanting c memory = inl (bench-wants (Err c.in-Err.refusal) c.self.inside.bench c.apply_telling.new.self c.args.input c.in-Err.ensures.err c.in-Err.ensures.wanting memory)

pub returns-in-Err-clause-still : goal.returns-in-Err-clause-still
returns-in-Err-clause-still c = subst (λ (v : OnCourse). whole c.apply_telling.new.self ≡ whole v.bench) c.self.view_is (ap whole c.in-Err.ensures.err)

pub returns-in-Ok-clause-took : goal.returns-in-Ok-clause-took
returns-in-Ok-clause-took c given log is s next =
    let old : OnCourse = record { bench = c.self.inside.bench; rows = rows_in c.self.inside.rows; kept = c.self.inside.kept; told = c.self.inside.told; mode = c.self.inside.mode; news = c.self.inside.news.items; acts = c.self.inside.acts; is_wide = c.self.inside.is_wide; next = c.self.inside.next } in
    let here : Stands given log old is = subst (λ (v : OnCourse). Stands given log v is) (sym c.self.view_is) s in
    kept-so c.keep.result given log is old _ c.apply_telling.new.self c.now-tick.result c.args.input here (keeps-telling c.self.inside.mode (ap (λ (v : OnCourse). v.mode) c.self.view_is ∙ c.requires.telling)) c.keep.ensures.mode c.keep.ensures.rows c.keep.ensures.acts c.keep.ensures.wide (ap (λ (x : Stored). x.told) c.keep.ensures.told) c.now-tick.ensures.now
    c.in-Ok.ensures.allowed c.in-Ok.ensures.state c.in-Ok.ensures.records c.in-Ok.ensures.back
    (λ tells. kept-news given log is old c.args.input c.last_row-last.result _ here (keeps-telling c.self.inside.mode (ap (λ (v : OnCourse). v.mode) c.self.view_is ∙ c.requires.telling)) c.last_row-last.ensures (c.keep.ensures.news ∙ c.in-Ok.ensures.told ∙ ap (λ (n : Noted). events_of n (state_of c.self.inside.bench) c.args.input) c.usual_after-noted.ensures))
    c.keep.ensures.bench c.keep.ensures.kept c.keep.ensures.undone c.keep.ensures.still c.keep.ensures.memory

pub returns-in-Ok-clause-wanting : goal.returns-in-Ok-clause-wanting
returns-in-Ok-clause-wanting c memory =
    keep-wants c.keep.result c.keep.new.self c.args.input (keeps-telling c.keep.new.self.mode (c.keep.ensures.mode ∙ (ap (λ (v : OnCourse). v.mode) c.self.view_is ∙ c.requires.telling))) c.keep.ensures.wanting memory

pub returns-in-Ok-clause-still : goal.returns-in-Ok-clause-still
returns-in-Ok-clause-still c =
    subst (λ (v : OnCourse). OnErr c.keep.result (whole c.keep.new.self.bench ≡ whole v.bench)) c.self.view_is
    (still-there c.keep.result c.self.inside.bench c.apply_telling.new.self c.keep.new.self.bench _ c.in-Ok.ensures.records c.in-Ok.ensures.back c.keep.ensures.undone)

pub returns-in-Ok-clause-state : goal.returns-in-Ok-clause-state
returns-in-Ok-clause-state c =
    subst (λ (v : OnCourse). OnOk c.keep.result (state_of c.keep.new.self.bench ≡ step (state_of v.bench) c.args.input)) c.self.view_is
    (stepped c.keep.result c.self.inside.bench c.apply_telling.new.self c.keep.new.self.bench c.args.input c.in-Ok.ensures.state c.keep.ensures.bench)
