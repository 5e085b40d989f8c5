use Rattle.std.proofs.Common.{◌≡◌, ◌+◌, ◌-◌, ◌++◌}
use Rattle.tsb_types.specs.declared.limits.TheConstants.{VEHICLE_DETECTORS}
use Rattle.tsb_text.specs.tsb_plan.PlanOf.{plan_of}
use Rattle.tsb_field.specs.Twice.{twice_lines}
use Rattle.tsb_field.proofs.twice.append_lines.Given as goal

-- the lines so far, and those of the detectors that are left, are all
abbrev pub invariant-loop-before : goal.invariant-loop-before
invariant-loop-before l =
    l.text.items ++ twice_lines l.wires (plan_of l.plan) (l.before + 1) (VEHICLE_DETECTORS - l.before) ≡ l.initial.text.items ++ twice_lines l.wires (plan_of l.plan) 1 VEHICLE_DETECTORS
