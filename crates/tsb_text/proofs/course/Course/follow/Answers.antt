use Rattle.std.proofs.Common.{◌≡◌, ◌∙◌, [], ◌∷◌, Err, Some, None, ap, subst, sym, arith}
use Rattle.tsb_text.specs.Rows.{rows_in}
use Rattle.tsb_text.specs.Obeyed.{IsPopped, OnCourse, Stands, Took}
use Rattle.tsb_text.specs.Wanting.{IsWanting}
use Rattle.tsb_text.proofs.FollowLemmas.{follower-next, followed-none, followed-refused, followed-taken, next-none, next-taken, stands-before, wants-first}
use Rattle.tsb_text.proofs.course.Course.follow.Goals as goal

pub returns-in-None-clause-followed : goal.returns-in-None-clause-followed
returns-in-None-clause-followed c given log is s =
    let old : OnCourse = record { bench = c.self.inside.bench; rows = rows_in c.self.inside.rows; kept = c.self.inside.kept; told = c.self.inside.told; mode = c.self.inside.mode; news = c.self.inside.news.items; acts = c.self.inside.acts; is_wide = c.self.inside.is_wide; next = c.self.inside.next } in
    let here : Stands given log old is = subst (λ (v : OnCourse). Stands given log v is) (sym c.self.view_is) s in
    let popped : IsPopped None c.self.inside.next c.pop.new.self = subst (λ o. IsPopped o c.self.inside.next c.pop.new.self) c.in-None.is c.pop.ensures in
    let none : c.args.self.now.next ≡ [] = sym (ap (λ (v : OnCourse). v.next) c.self.view_is) ∙ popped.0 in
    rw none (followed-none given log (record old { next = c.pop.new.self }) is (stands-before given log old c.pop.new.self is here))

pub returns-in-None-clause-next : goal.returns-in-None-clause-next
returns-in-None-clause-next c =
    let popped : IsPopped None c.self.inside.next c.pop.new.self = subst (λ o. IsPopped o c.self.inside.next c.pop.new.self) c.in-None.is c.pop.ensures in
    let none : c.args.self.now.next ≡ [] = sym (ap (λ (v : OnCourse). v.next) c.self.view_is) ∙ popped.0 in
    rw none (next-none c.pop.new.self popped.1)

pub returns-in-Ok-clause-followed : goal.returns-in-Ok-clause-followed
returns-in-Ok-clause-followed c given log is s =
    let old : OnCourse = record { bench = c.self.inside.bench; rows = rows_in c.self.inside.rows; kept = c.self.inside.kept; told = c.self.inside.told; mode = c.self.inside.mode; news = c.self.inside.news.items; acts = c.self.inside.acts; is_wide = c.self.inside.is_wide; next = c.self.inside.next } in
    let here : Stands given log old is = subst (λ (v : OnCourse). Stands given log v is) (sym c.self.view_is) s in
    let popped : IsPopped (Some c.in-Some.input) c.self.inside.next c.pop.new.self = subst (λ o. IsPopped o c.self.inside.next c.pop.new.self) c.in-Some.is c.pop.ensures in
    let some : c.args.self.now.next ≡ c.in-Some.input ∷ c.pop.new.self = sym (ap (λ (v : OnCourse). v.next) c.self.view_is) ∙ popped.0 in
    rw some (followed-taken given log c.take_alone.new.self is c.in-Some.input c.pop.new.self
    (c.in-Ok.ensures.took given log is (stands-before given log old c.pop.new.self is here) (follower-next old.mode given is c.in-Some.input popped.1)))

pub returns-in-Ok-clause-next : goal.returns-in-Ok-clause-next
returns-in-Ok-clause-next c =
    let popped : IsPopped (Some c.in-Some.input) c.self.inside.next c.pop.new.self = subst (λ o. IsPopped o c.self.inside.next c.pop.new.self) c.in-Some.is c.pop.ensures in
    let some : c.args.self.now.next ≡ c.in-Some.input ∷ c.pop.new.self = sym (ap (λ (v : OnCourse). v.next) c.self.view_is) ∙ popped.0 in
    rw some (next-taken c.in-Some.input c.pop.new.self c.take_alone.new.self.next c.take_alone.ensures.next)

pub returns-in-Err-clause-followed : goal.returns-in-Err-clause-followed
returns-in-Err-clause-followed c given log is s =
    let old : OnCourse = record { bench = c.self.inside.bench; rows = rows_in c.self.inside.rows; kept = c.self.inside.kept; told = c.self.inside.told; mode = c.self.inside.mode; news = c.self.inside.news.items; acts = c.self.inside.acts; is_wide = c.self.inside.is_wide; next = c.self.inside.next } in
    let here : Stands given log old is = subst (λ (v : OnCourse). Stands given log v is) (sym c.self.view_is) s in
    let popped : IsPopped (Some c.in-Some.input) c.self.inside.next c.pop.new.self = subst (λ o. IsPopped o c.self.inside.next c.pop.new.self) c.in-Some.is c.pop.ensures in
    let some : c.args.self.now.next ≡ c.in-Some.input ∷ c.pop.new.self = sym (ap (λ (v : OnCourse). v.next) c.self.view_is) ∙ popped.0 in
    let new : OnCourse = record { bench = c.self-in-Some.inside.bench; rows = rows_in c.self-in-Some.inside.rows; kept = c.self-in-Some.inside.kept; told = c.self-in-Some.inside.told; mode = c.self-in-Some.inside.mode; news = c.self-in-Some.inside.news.items; acts = c.self-in-Some.inside.acts; is_wide = c.self-in-Some.inside.is_wide; next = c.self-in-Some.inside.next } in
    rw some (followed-refused given log new is c.in-Some.input c.pop.new.self c.none-self-inside.result c.in-Err.refusal
    (subst (λ (v : OnCourse). Took (Err c.in-Err.refusal) given log v is c.in-Some.input) (sym c.self-in-Some.view_is)
    (c.in-Err.ensures.took given log is (stands-before given log old c.pop.new.self is here) (follower-next old.mode given is c.in-Some.input popped.1))))

pub returns-in-Err-clause-wanting : goal.returns-in-Err-clause-wanting
returns-in-Err-clause-wanting c memory =
    let popped : IsPopped (Some c.in-Some.input) c.self.inside.next c.pop.new.self = subst (λ o. IsPopped o c.self.inside.next c.pop.new.self) c.in-Some.is c.pop.ensures in
    let some : c.args.self.now.next ≡ c.in-Some.input ∷ c.pop.new.self = sym (ap (λ (v : OnCourse). v.next) c.self.view_is) ∙ popped.0 in
    let new : OnCourse = record { bench = c.self-in-Some.inside.bench; rows = rows_in c.self-in-Some.inside.rows; kept = c.self-in-Some.inside.kept; told = c.self-in-Some.inside.told; mode = c.self-in-Some.inside.mode; news = c.self-in-Some.inside.news.items; acts = c.self-in-Some.inside.acts; is_wide = c.self-in-Some.inside.is_wide; next = c.self-in-Some.inside.next } in
    rw some (wants-first new c.none-self-inside.result c.in-Some.input c.pop.new.self popped.1
    (subst (λ (v : OnCourse). IsWanting v c.in-Some.input) (sym c.self-in-Some.view_is) (c.in-Err.ensures.wanting (grind (arith, memory)))))
