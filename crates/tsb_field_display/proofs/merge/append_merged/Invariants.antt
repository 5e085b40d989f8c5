use Rattle.std.proofs.Common.{◌≡◌, ◌≤◌, ◌++◌, drop, length}
use Rattle.tsb_field_display.specs.Merge.{merged}
use Rattle.tsb_field_display.proofs.merge.append_merged.Given as goal

-- what is told, with the rest of both, is all
abbrev pub invariant-loop-event : goal.invariant-loop-event
invariant-loop-event l = record {
  within : l.told ≤ length l.inputs;
  rest : l.events.items ++ merged (drop l.event-index l.display) (drop l.told l.inputs) ≡ l.fn.events.items ++ merged l.display l.inputs;
}
