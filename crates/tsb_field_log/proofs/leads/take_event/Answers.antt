use Rattle.std.proofs.Common.{arith}
use Rattle.std.proofs.lemmas.Grind.{common_steps}
use Rattle.std.proofs.lemmas.List.Edits.{map_over_more}
use Rattle.tsb_field_log.specs.Leads.{lead_taken}
use Rattle.tsb_field_log.proofs.leads.take_event.Goals as goal

pub loop-i-preserved : goal.loop-i-preserved
loop-i-preserved c = grind (arith, common_steps, map_over_more (lead_taken c.args.event c.args.early c.args.late))
