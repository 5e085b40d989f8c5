use Rattle.std.proofs.Common.{◌≡◌, ◌++◌, drop, true}
use Rattle.tsb_lines.specs.ShortLines.{fitting}
use Rattle.tsb_status_text.specs.declared.edit_lines.TheConstants.{LONGEST_EDITS}
use Rattle.tsb_status_text.specs.Bytes.{list_bytes}
use Rattle.tsb_status_text.proofs.edits.push_edits.Given as goal

-- the edits so far, and those that are left, are all
abbrev pub invariant-loop-edit : goal.invariant-loop-edit
invariant-loop-edit l = fitting LONGEST_EDITS (l.line ++ list_bytes l.first (drop l.edit-index l.edits)) ≡ fitting LONGEST_EDITS (l.fn.line ++ list_bytes true l.edits)
