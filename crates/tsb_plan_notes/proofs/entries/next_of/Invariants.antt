use Rattle.std.proofs.Common.{◌≡◌, drop}
use Rattle.json.specs.Value.{members_view}
use Rattle.tsb_plan_notes.specs.Notes.{next_of}
use Rattle.tsb_plan_notes.proofs.entries.next_of.Given as goal

-- none before has the name
abbrev pub invariant-loop-member : goal.invariant-loop-member
invariant-loop-member l = next_of l.name (members_view (drop l.member-index l.members)) ≡ next_of l.name (members_view l.members)
