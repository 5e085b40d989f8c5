use Rattle.std.proofs.Common.{◌≡◌, ◌++◌, drop}
use Rattle.json.specs.Value.{members_view}
use Rattle.tsb_plan_notes.specs.Notes.{entries_notes}
use Rattle.tsb_plan_notes.proofs.entries.add_entries.Given as goal

-- the notes so far, and those on what is left, are all
abbrev pub invariant-loop-at : goal.invariant-loop-at
invariant-loop-at l = l.notes.items ++ entries_notes l.version l.object (members_view (drop l.at l.entries)) ≡ l.fn.notes.items ++ entries_notes l.version l.object (members_view l.entries)
