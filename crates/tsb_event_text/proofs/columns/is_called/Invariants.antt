use Rattle.std.proofs.Common.{◌≡◌, drop}
use Rattle.tsb_event_text.specs.Columns.{is_called}
use Rattle.tsb_event_text.proofs.columns.is_called.Given as goal

-- what is left of the field is what is left of the name, where the field is the name
abbrev pub invariant-loop-byte : goal.invariant-loop-byte
invariant-loop-byte l = is_called (drop l.byte-index l.field) l.left ≡ is_called l.field l.name
