use Rattle.std.proofs.Common.{sym}
use Rattle.json.specs.Value.{members_view, value_view}
use Rattle.tsb_plan_notes.proofs.NoteLemmas.{next-numbers}
use Rattle.tsb_plan_notes.proofs.text.add_again.Goals as goal

pub add_twice-requires-clause-second : goal.add_twice-requires-clause-second
add_twice-requires-clause-second c =
    next-numbers c.args.name.now (members_view c.args.later.now) (value_view c.in-Some.again.now) c.requires.later (sym c.in-Some.ensures)
