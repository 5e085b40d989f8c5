use Rattle.std.proofs.Common.{◌≡◌, length}
use Rattle.tsb_event_text.specs.Fields.{fields_of, are_there}
use Rattle.tsb_event_text.proofs.fields.has_fields.Given as goal

abbrev pub invariant-loop-behind : goal.invariant-loop-behind
invariant-loop-behind l = are_there (fields_of l.mark l.rest) ≡ are_there (fields_of l.mark l.line)

abbrev pub decreases-loop-behind : goal.decreases-loop-behind
decreases-loop-behind l = length l.rest
