use Rattle.std.proofs.Common.{◌≡◌, ◌∙◌, ◌==◌, true, false, ap, arith}
use Rattle.std.proofs.lemmas.Bool.Decides.{nat_tests}
use Rattle.tsb_step.specs.tsb_plan.Plan.{Plan, ring_of}
use Rattle.tsb_objects.specs.Checked.{checked_plan}
use Rattle.tsb_controller.specs.Layer.{rows_of}
use Rattle.tsb_controller.proofs.WaitTellLemmas.{of-ring-1, of-ring-2}
use Rattle.tsb_controller.proofs.controller.Controller.wait.Goals as goal

pub returns-then-ring-eq1 : goal.returns-then-ring-eq1
returns-then-ring-eq1 c =
    let plan = checked_plan c.args.plan.now in
    let ring : c.ring.result ≡ ring_of plan c.args.p = c.ring.ensures ∙ ap (λ (y : Plan). ring_of y c.args.p) c.plan.ensures.plan in
    let one : (ring_of plan c.args.p == 1) ≡ true = grind (arith, nat_tests, ring, c.if-ring-eq1.true) in
    of-ring-1 c.args.found.now c.args.clock plan (rows_of c.args.self.now) c.args.p c.is_omitted-is_omitted.result c.told.result c.waiting-waits.result
    c.waiting-waits.ensures.phase c.is_omitted-is_omitted.ensures c.told.ensures c.waiting-waits.ensures.value c.wait.result one c.wait.ensures

pub returns-else-ring-eq1 : goal.returns-else-ring-eq1
returns-else-ring-eq1 c =
    let plan = checked_plan c.args.plan.now in
    let ring : c.ring.result ≡ ring_of plan c.args.p = c.ring.ensures ∙ ap (λ (y : Plan). ring_of y c.args.p) c.plan.ensures.plan in
    let two : (ring_of plan c.args.p == 1) ≡ false = grind (arith, nat_tests, ring, c.if-ring-eq1.false) in
    of-ring-2 c.args.found.now c.args.clock plan (rows_of c.args.self.now) c.args.p c.is_omitted-is_omitted.result c.told.result c.waiting-waits.result
    c.waiting-waits.ensures.phase c.is_omitted-is_omitted.ensures c.told.ensures c.waiting-waits.ensures.value c.wait-else-ring-eq1.result two c.wait-else-ring-eq1.ensures
