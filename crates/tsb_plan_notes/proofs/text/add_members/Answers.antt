use Rattle.std.proofs.Common.{◌+◌, subst, sym}
use Rattle.std.proofs.lemmas.List.{take_rest}
use Rattle.json.specs.Tree.{HasNumbers, MembersHaveNumbers}
use Rattle.json.specs.Value.{members_view, value_view}
use Rattle.tsb_plan_notes.proofs.NoteLemmas.{numbers-at}
use Rattle.tsb_plan_notes.proofs.text.add_members.Goals as goal

pub add_versed-requires-clause-value : goal.add_versed-requires-clause-value
add_versed-requires-clause-value c =
    subst (λ m. HasNumbers (value_view m.1)) (sym c.index-members-at.is) (numbers-at c.args.members.now c.loop-at.at c.index-members-at.result c.loop-at-test.true c.requires).0

pub add_versed-requires-clause-later : goal.add_versed-requires-clause-later
add_versed-requires-clause-later c =
    subst (λ ms. MembersHaveNumbers (members_view ms)) (sym (take_rest c.args.members.now (c.loop-at.at + 1)))
    (numbers-at c.args.members.now c.loop-at.at c.index-members-at.result c.loop-at-test.true c.requires).1
