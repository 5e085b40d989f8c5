use Rattle.std.proofs.Common.{◌≡◌, ◌≤◌, ◌-◌, drop, length}
use Rattle.tsb_plan_notes.specs.Places.{start, stop}
use Rattle.tsb_plan_notes.proofs.machine.stop_of.Given as goal

-- what is left stops where all does
abbrev pub invariant-loop-at : goal.invariant-loop-at
invariant-loop-at l = record {
  stops : stop l.machine l.at (drop l.at l.text) ≡ stop start 0 l.text;
  within : l.at ≤ length l.text;
}

abbrev pub decreases-loop-at : goal.decreases-loop-at
decreases-loop-at l = length l.text - l.at
