use Rattle.std.proofs.Common.{◌∙◌, ◌++◌, ℕ, ap}
use Rattle.tsb_types.specs.declared.limits.TheConstants.{VEHICLE_DETECTORS}
use Rattle.tsb_text.specs.tsb_plan.PlanOf.{plan_of}
use Rattle.tsb_field.specs.Twice.{twice_line}
use Rattle.tsb_field.proofs.TwiceLemmas.{lines-all, lines-next}
use Rattle.tsb_field.proofs.twice.append_lines.Goals as goal

pub loop-before-preserved : goal.loop-before-preserved
loop-before-preserved c =
    lines-next c.args.wires.now (plan_of c.args.plan.now) c.loop-before.before VEHICLE_DETECTORS c.loop-before.text.items _ _ c.loop-before-test.true
    (c.in_ok-append_line.ensures ∙ ap (λ (n : ℕ). c.loop-before.text.items ++ twice_line c.args.wires.now (plan_of c.args.plan.now) n) c.of.ensures) c.loop-before.invariant

pub returns : goal.returns
returns c =
    lines-all c.args.wires.now (plan_of c.args.plan.now) c.loop-before.before VEHICLE_DETECTORS c.loop-before.text.items _ c.loop-before-test.false c.loop-before.invariant
