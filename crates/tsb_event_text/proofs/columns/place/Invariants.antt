use Rattle.std.proofs.Common.{◌≡◌, ◌+◌, ◌≤◌, List, ℕ, Some, length}
use Rattle.tsb_event_text.specs.Fields.{fields_of}
use Rattle.tsb_event_text.proofs.FieldLemmas.{Seeks}
use Rattle.tsb_event_text.proofs.columns.place.Given as goal

abbrev pub invariant-loop-field : goal.invariant-loop-field
invariant-loop-field l = record {
  seeks : (fields : List (List ℕ)) → fields_of l.mark l.line ≡ Some fields → Seeks l.mark l.column fields l.rest l.place;
  few : l.place + length l.rest ≤ length l.line;
}

abbrev pub decreases-loop-field : goal.decreases-loop-field
decreases-loop-field l = length l.rest
