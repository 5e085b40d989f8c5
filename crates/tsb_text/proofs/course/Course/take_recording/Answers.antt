use Rattle.std.proofs.Common.{◌≡◌, ◌∙◌, Err, OnErr, OnOk, ap, inl, refl, subst, sym}
use Rattle.tsb_bench.specs.Held.{state_of, whole}
use Rattle.tsb_text.specs.Obeyed.{IsNext, OnCourse, Stands}
use Rattle.tsb_text.specs.Rows.{rows_in}
use Rattle.tsb_bench.specs.tsb_step.Step.{step}
use Rattle.tsb_text.proofs.FollowLemmas.{stepped}
use Rattle.tsb_text.proofs.CourseLemmas.{bench-took, bench-wants, kept-refused, recorded-so, still-there, wants-so}
use Rattle.tsb_text.proofs.course.Course.take_recording.Goals as goal

pub returns-in-Err-clause-took : goal.returns-in-Err-clause-took
returns-in-Err-clause-took c given log is s next =
    let old : OnCourse = record { bench = c.self.inside.bench; rows = rows_in c.self.inside.rows; kept = c.self.inside.kept; told = c.self.inside.told; mode = c.self.inside.mode; news = c.self.inside.news.items; acts = c.self.inside.acts; is_wide = c.self.inside.is_wide; next = c.self.inside.next } in
    let here : Stands given log old is = subst (λ (v : OnCourse). Stands given log v is) (sym c.self.view_is) s in
    kept-refused c.in-Err.refusal given log is old _ c.args.input here refl c.in_force-row.ensures.same refl refl refl refl
    (bench-took (Err c.in-Err.refusal) given.plan is c.self.inside.bench c.apply_telling.new.self c.args.input here.follows tt tt tt tt c.in-Err.ensures.refused c.in-Err.ensures.err)

pub returns-in-Ok-clause-took : goal.returns-in-Ok-clause-took
returns-in-Ok-clause-took c given log is s next =
    let old : OnCourse = record { bench = c.self.inside.bench; rows = rows_in c.self.inside.rows; kept = c.self.inside.kept; told = c.self.inside.told; mode = c.self.inside.mode; news = c.self.inside.news.items; acts = c.self.inside.acts; is_wide = c.self.inside.is_wide; next = c.self.inside.next } in
    let here : Stands given log old is = subst (λ (v : OnCourse). Stands given log v is) (sym c.self.view_is) s in
    let there : IsNext old.mode given is c.args.input = subst (λ (v : OnCourse). IsNext v.mode given is c.args.input) (sym c.self.view_is) next in
    recorded-so c.note.result c.args.form given log is old _ c.apply_telling.new.self c.in_force-row.result c.now-tick.result _ c.args.input here there (ap (λ (v : OnCourse). v.mode) c.self.view_is ∙ c.requires.recording) c.note.ensures.mode
    (c.note.ensures.rows ∙ c.in_force-row.ensures.same) c.note.ensures.acts c.note.ensures.wide c.note.ensures.kept c.now-tick.ensures.now c.in_force-row.ensures.row c.in-Ok.ensures.allowed c.in-Ok.ensures.state c.in-Ok.ensures.records c.in-Ok.ensures.back c.in-Ok.ensures.told
    c.note.ensures.bench c.note.ensures.told c.note.ensures.undone c.note.ensures.still c.note.ensures.memory

pub returns-in-Err-clause-wanting : goal.returns-in-Err-clause-wanting
returns-in-Err-clause-wanting c memory = inl (bench-wants (Err c.in-Err.refusal) c.self.inside.bench c.apply_telling.new.self c.args.input c.in-Err.ensures.err c.in-Err.ensures.wanting memory)

pub returns-in-Err-clause-still : goal.returns-in-Err-clause-still
returns-in-Err-clause-still c = subst (λ (v : OnCourse). whole c.apply_telling.new.self ≡ whole v.bench) c.self.view_is (ap whole c.in-Err.ensures.err)

pub returns-in-Ok-clause-wanting : goal.returns-in-Ok-clause-wanting
returns-in-Ok-clause-wanting c memory =
    let old : OnCourse = record { bench = c.self.inside.bench; rows = rows_in c.self.inside.rows; kept = c.self.inside.kept; told = c.self.inside.told; mode = c.self.inside.mode; news = c.self.inside.news.items; acts = c.self.inside.acts; is_wide = c.self.inside.is_wide; next = c.self.inside.next } in
    wants-so c.note.result c.args.form old c.note.new.self c.in_force-row.result c.now-tick.result _ c.args.input (c.note.ensures.mode ∙ (ap (λ (v : OnCourse). v.mode) c.self.view_is ∙ c.requires.recording)) (c.note.ensures.rows ∙ c.in_force-row.ensures.same)
    (still-there c.note.result c.self.inside.bench c.apply_telling.new.self c.note.new.self.bench _ c.in-Ok.ensures.records c.in-Ok.ensures.back c.note.ensures.undone)
    c.now-tick.ensures.now c.in_force-row.ensures.row c.in-Ok.ensures.told c.note.ensures.wanting memory

pub returns-in-Ok-clause-still : goal.returns-in-Ok-clause-still
returns-in-Ok-clause-still c =
    subst (λ (v : OnCourse). OnErr c.note.result (whole c.note.new.self.bench ≡ whole v.bench)) c.self.view_is
    (still-there c.note.result c.self.inside.bench c.apply_telling.new.self c.note.new.self.bench _ c.in-Ok.ensures.records c.in-Ok.ensures.back c.note.ensures.undone)

pub returns-in-Ok-clause-state : goal.returns-in-Ok-clause-state
returns-in-Ok-clause-state c =
    subst (λ (v : OnCourse). OnOk c.note.result (state_of c.note.new.self.bench ≡ step (state_of v.bench) c.args.input)) c.self.view_is
    (stepped c.note.result c.self.inside.bench c.apply_telling.new.self c.note.new.self.bench c.args.input c.in-Ok.ensures.state c.note.ensures.bench)
