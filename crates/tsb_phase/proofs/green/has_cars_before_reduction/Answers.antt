use Rattle.std.proofs.Common.{◌≡◌, ◌∙◌}
use Rattle.tsb_objects.specs.tsb_plan.PlanOf.{plan_of}
use Rattle.tsb_objects.specs.tsb_types.Sets.{has}
use Rattle.tsb_phase.specs.Rows.{counted}
use Rattle.tsb_phase.specs.Green.{cars_waiting}
use Rattle.tsb_phase.proofs.CarLemmas.{cars-all, cars-told}
use Rattle.tsb_phase.proofs.green.has_cars_before_reduction.Goals as goal

pub returns-then-least-gt0 : goal.returns-then-least-gt0
returns-then-least-gt0 c = λ given told counts.
    let all : c.cars_in.result ≡ cars_waiting (plan_of c.args.plan.now) given c.args.p =
    c.cars_in.ensures ∙ cars-all c.args.plan.now given c.args.p (counted c.args.counts.now) (has c.waiting.result) counts (c.waiting.ensures given told) in
    cars-told c.cars_before_reduction-least.result c.cars_in.result _ _ c.cars_before_reduction-least.ensures all c.if-least-gt0.true
