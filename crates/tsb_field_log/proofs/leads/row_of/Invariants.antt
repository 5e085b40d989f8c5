use Rattle.std.proofs.Common.{◌≡◌, ℕ, ◌<◌, ◌^◌, ◌&&◌, ◌||◌, drop}
use Rattle.tsb_field_log.specs.declared.inputs.InputKind.{InputKind}
use Rattle.tsb_field_log.specs.Leads.{lead_on}
use Rattle.tsb_field_log.specs.Wires.{has_input, is_input}
use Rattle.tsb_field_log.proofs.leads.row_of.Given as goal

abbrev pub invariant-loop-lead : goal.invariant-loop-lead
invariant-loop-lead l = record {
  inputs : (kind : InputKind) (number : ℕ) → (has_input l.row kind number || lead_on (drop l.lead-index l.leads) kind number && is_input kind number) ≡ (lead_on l.leads kind number && is_input kind number);
  vehicles : l.row.vehicles.word < 2 ^ 64;
  pedestrians : l.row.pedestrians.word < 2 ^ 16;
  preempts : l.row.preempts.word < 2 ^ 16;
}
