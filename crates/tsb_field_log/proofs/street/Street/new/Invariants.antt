use Rattle.std.proofs.Common.{◌≡◌, [], map, take}
use Rattle.tsb_field_log.specs.Leads.{lead_of}
use Rattle.tsb_field_log.proofs.street.Street.new.Given as goal

abbrev pub invariant-loop-wire : goal.invariant-loop-wire
invariant-loop-wire l = l.leads.items ≡ map (lead_of l.from 0 []) (take l.wire-index l.wires)
