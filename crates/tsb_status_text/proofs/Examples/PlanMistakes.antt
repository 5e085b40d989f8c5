-- One-line mistakes, each with an example that tells it from the definition.
use Rattle.std.proofs.Common.{◌≡◌, ℕ, ◌==◌, if◌then◌else◌, List, [], ◌∷◌, codes, decimal, refl}
use Rattle.std.specs.Fmt.{digits}
use Rattle.json.specs.Json.{Json, Members, no_members, member, number, object, string}
use Rattle.tsb_plan.specs.declared.object.Object.{Object}
use Rattle.tsb_plan.specs.declared.object.Object.TheVariants.{PhaseEnabled, PhaseWalk}
use Rattle.tsb_plan.specs.Names.{name_of}
use Rattle.tsb_plan.specs.Plan.{Plan}
use Rattle.tsb_plan.specs.Two.{two}
use Rattle.tsb_transact.specs.declared.edit.Edit.{Edit}
use Rattle.tsb_status_text.specs.EditsLine.{edit_json}
use Rattle.tsb_status_text.specs.PlanLine.{entries}

-- ## The first index of an object that is 0 ends its table, so that what comes after it is lost

abbrev pub entries_to_zero : Plan → Object → List ℕ → Members
entries_to_zero plan o [] = no_members
entries_to_zero plan o (i ∷ is) =
    if plan.value o i == 0 then no_members else member (decimal i) (number (decimal (plan.value o i))) (entries_to_zero plan o is)

-- phases 2 and 4 are in use, and phase 3 is not
has_both : entries two PhaseEnabled (2 ∷ 3 ∷ 4 ∷ []) ≡ member (codes "2") (number (codes "1")) (member (codes "4") (number (codes "1")) no_members)
unfolding two digits
has_both = refl

would_lose_4 : entries_to_zero two PhaseEnabled (2 ∷ 3 ∷ 4 ∷ []) ≡ member (codes "2") (number (codes "1")) no_members
unfolding two digits
would_lose_4 = refl

-- ## An edit is told without its index

abbrev pub edit_without_index : Edit → Json
edit_without_index e = object (member (codes "object") (string (name_of e.id.object)) (member (codes "value") (number (decimal e.value)) no_members))

abbrev pub walk : ℕ → Edit
walk i = record { id = record { object = PhaseWalk; index = i }; value = 7 }

tells_2 : edit_json (walk 2)
    ≡ object (member (codes "object") (string (codes "phaseWalk")) (member (codes "index") (number (codes "2")) (member (codes "value") (number (codes "7")) no_members)))
unfolding digits
tells_2 = refl

would_tell_same : edit_without_index (walk 2) ≡ edit_without_index (walk 4)
would_tell_same = refl
