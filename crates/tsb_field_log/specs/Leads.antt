-- What is kept of each wire from event to event, in the tick that the last of them fell into.
use Rattle.std.specs.Prelude.{ℕ, ◌+◌, ◌==◌, ◌&&◌, ◌||◌, Bool, false, List, [], ◌∷◌, if◌then◌else◌}
use Rattle.tsb_types.specs.Sets.{list_of, set_of_detectors, set_of_list}
use Rattle.tsb_types.specs.declared.row.Row.{Row}
use Rattle.tsb_field_log.specs.Inputs.{is_of, is_same_kind, on_at, switched_on}
use Rattle.tsb_field_log.specs.Ticks.{begin_of}
use Rattle.tsb_field_log.specs.declared.inputs.InputKind.{InputKind}
use Rattle.tsb_field_log.specs.declared.inputs.InputKind.TheVariants.{Vehicle, Pedestrian, Preempt}
use Rattle.tsb_field_log.specs.declared.inputs.Wire.{Wire}
use Rattle.tsb_field_log.specs.declared.inputs.InputEvent.{InputEvent}
use Rattle.tsb_field_log.specs.declared.leads.Lead.{Lead}

-- whether a wire is on after all of these events, where it was so before them
abbrev pub on_after : Bool → Wire → List InputEvent → Bool
on_after before wire [] = before
on_after before wire (e ∷ es) = on_after (if is_of wire e then e.on else before) wire es

-- what is kept of a wire in this tick
abbrev pub lead_of : ℕ → ℕ → List InputEvent → Wire → Lead
lead_of from tick events wire = record {
  wire = wire;
  on = on_after false wire events;
  begun = on_at false wire (begin_of from tick) events;
  raised = switched_on wire (begin_of from tick) (begin_of from (tick + 1)) events;
}

-- of one more event, which is not after the tick: early where it is not after the tick's first moment, late where it is
-- not before it
abbrev pub lead_taken : InputEvent → Bool → Bool → Lead → Lead
lead_taken event early late lead = record {
  wire = lead.wire;
  on = if is_of lead.wire event then event.on else lead.on;
  begun = if is_of lead.wire event && early then event.on else lead.begun;
  raised = lead.raised || (is_of lead.wire event && event.on && late);
}

-- in a later tick, before its first event
abbrev pub lead_opened : Lead → Lead
lead_opened lead = record { wire = lead.wire; on = lead.on; begun = lead.on; raised = false }

-- one of these that lead to the input is on in the tick
abbrev pub lead_on : List Lead → InputKind → ℕ → Bool
lead_on [] kind number = false
lead_on (l ∷ ls) kind number = (is_same_kind l.wire.kind kind && l.wire.input == number && (l.begun || l.raised)) || lead_on ls kind number

-- the inputs that are on in the tick
unfoldable pub row_of_leads : List Lead → Row
row_of_leads leads = record {
  vehicles = set_of_detectors (list_of 64 (lead_on leads Vehicle));
  pedestrians = set_of_list (list_of 16 (lead_on leads Pedestrian));
  preempts = set_of_list (list_of 8 (lead_on leads Preempt));
}
