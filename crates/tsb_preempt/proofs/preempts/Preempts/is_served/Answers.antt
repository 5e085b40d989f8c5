use Rattle.std.proofs.Common.{◌≡◌, ◌-◌, ℕ, Option, subst, sym, arith}
use Rattle.tsb_objects.specs.tsb_plan.Plan.{Plan}
use Rattle.tsb_objects.specs.tsb_plan.PlanOf.{plan_of}
use Rattle.tsb_objects.specs.Checked.{checked_plan}
use Rattle.tsb_preempt.specs.Service.{Service}
use Rattle.tsb_preempt.specs.Preempts.{Preempts, has_been_served, has_been_served_of}
use Rattle.tsb_preempt.specs.Cells.{preempts_in}
use Rattle.tsb_preempt.specs.Promises.{given_by}
use Rattle.tsb_preempt.specs.Layer.{cells_of}
use Rattle.tsb_preempt.proofs.ReadLemmas.{stays-by, read}
use Rattle.tsb_preempt.proofs.preempts.Preempts.is_served.Goals as goal

pub is_served-requires-clause-by : goal.is_served-requires-clause-by
is_served-requires-clause-by c =
    c.load.ensures.by c.args.now (stays-by (c.args.now - 1) c.args.now (cells_of c.args.self.now) (omega arith) c.requires.by)

pub returns : goal.returns
unfolding preempts_in
returns c intervals =
    let now : ℕ = c.args.now in
    let w : Preempts = preempts_in now (cells_of c.args.self.now) in
    let g = given_by c.args.row.now intervals in
    subst (λ (x : Preempts). c.is_served.result ≡ has_been_served (checked_plan c.args.plan.now) g x)
    (sym (read now (cells_of c.args.self.now) c.requires.begun c.requires.by))
    (subst (λ (plan : Plan). c.is_served.result ≡ has_been_served plan g w) c.plan.ensures.plan
    (subst (λ (x : Option Service). c.is_served.result ≡ has_been_served_of (plan_of c.plan.result.now) g w x) (c.load.ensures.state now)
    (c.is_served.ensures g w c.inputs.ensures)))
