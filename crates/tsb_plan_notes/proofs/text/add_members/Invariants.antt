use Rattle.std.proofs.Common.{◌≡◌, ◌++◌, drop}
use Rattle.json.specs.Value.{members_view}
use Rattle.tsb_plan_notes.specs.Notes.{members_notes}
use Rattle.tsb_plan_notes.proofs.text.add_members.Given as goal

-- the notes so far, and those on what is left, are all
abbrev pub invariant-loop-at : goal.invariant-loop-at
invariant-loop-at l = l.notes.items ++ members_notes l.version (members_view (drop l.at l.members)) ≡ l.fn.notes.items ++ members_notes l.version (members_view l.members)
