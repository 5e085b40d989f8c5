use Rattle.std.proofs.Common.{◌≡◌, ◌++◌, ◌-◌, ◌≤◌, length, drop}
use Rattle.tsb_field_diagram.specs.Text.{escaped}
use Rattle.tsb_field_diagram.proofs.title.append_title.Given as goal

-- what is written, with what the rest of the title writes, is all
abbrev pub invariant-loop-at : goal.invariant-loop-at
invariant-loop-at l = record {
  within : l.at ≤ length l.title;
  same : l.text.items ++ escaped (drop l.at l.title) ≡ l.initial.text.items ++ escaped l.title;
}

abbrev pub decreases-loop-at : goal.decreases-loop-at
decreases-loop-at l = length l.title - l.at
