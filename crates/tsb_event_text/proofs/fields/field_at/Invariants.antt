use Rattle.std.proofs.Common.{◌≡◌, List, ℕ, Some}
use Rattle.tsb_event_text.specs.Fields.{fields_of}
use Rattle.tsb_event_text.proofs.FieldLemmas.{Reaches}
use Rattle.tsb_event_text.proofs.fields.field_at.Given as goal

abbrev pub invariant-loop-field : goal.invariant-loop-field
invariant-loop-field l = (fields : List (List ℕ)) → fields_of l.mark l.line ≡ Some fields → Reaches l.mark fields l.place l.rest l.left

abbrev pub decreases-loop-field : goal.decreases-loop-field
decreases-loop-field l = l.left
