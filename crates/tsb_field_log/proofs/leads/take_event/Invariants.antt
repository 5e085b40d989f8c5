use Rattle.std.proofs.Common.{◌≡◌, ◌++◌, map, take, drop}
use Rattle.tsb_field_log.specs.Leads.{lead_taken}
use Rattle.tsb_field_log.proofs.leads.take_event.Given as goal

abbrev pub invariant-loop-i : goal.invariant-loop-i
invariant-loop-i l = l.leads ≡ map (lead_taken l.event l.early l.late) (take l.i l.initial.leads) ++ drop l.i l.initial.leads
