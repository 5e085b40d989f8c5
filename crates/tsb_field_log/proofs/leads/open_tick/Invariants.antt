use Rattle.std.proofs.Common.{◌≡◌, ◌++◌, map, take, drop}
use Rattle.tsb_field_log.specs.Leads.{lead_opened}
use Rattle.tsb_field_log.proofs.leads.open_tick.Given as goal

abbrev pub invariant-loop-i : goal.invariant-loop-i
invariant-loop-i l = l.leads ≡ map lead_opened (take l.i l.initial.leads) ++ drop l.i l.initial.leads
