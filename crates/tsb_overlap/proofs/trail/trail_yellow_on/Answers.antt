use Rattle.std.proofs.Common.{◌≡◌, ◌∙◌, ◌==◌, ℕ, true, ap, sym, arith}
use Rattle.std.proofs.lemmas.Bool.Decides.{nat_tests}
use Rattle.tsb_cells.specs.Timer.{timer_at, has_reached}
use Rattle.tsb_objects.specs.tsb_plan.Parts.{trail_yellow, trail_red}
use Rattle.tsb_objects.specs.tsb_plan.PlanOf.{plan_of}
use Rattle.tsb_overlap.proofs.PartLemmas.{then-part}
use Rattle.tsb_overlap.proofs.trail.trail_yellow_on.Goals as goal

pub returns-then-trail_red-eq0 : goal.returns-then-trail_red-eq0
returns-then-trail_red-eq0 c =
    let none : (trail_red (plan_of c.args.plan.now) c.args.o == 0) ≡ true = grind (arith, nat_tests, c.trail_red.ensures, c.if-trail_red-eq0.true) in
    then-part (has_reached (timer_at c.args.now c.args.part.now.timer) (trail_yellow (plan_of c.args.plan.now) c.args.o)) c.args.now _ _ c.standing.result
    (sym (c.has_lasted.ensures ∙ ap (λ (time : ℕ). has_reached (timer_at c.args.now c.args.part.now.timer) time) c.trail_yellow.ensures) ∙ c.if-not-has_lasted.false)
    (then-part (trail_red (plan_of c.args.plan.now) c.args.o == 0) c.args.now _ _ c.standing.result none (c.standing.ensures c.args.now))
