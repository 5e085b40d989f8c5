-- A run that meets the premises of the law of verified edits, and a mistake that it refuses.
use Rattle.std.specs.Prelude.{◌≡◌, List, [], ◌∷◌, Some, refl}
use Rattle.tsb_step.specs.tsb_plan.declared.object.Object.TheVariants.{PhaseYellowChange}
use Rattle.tsb_step.specs.tsb_plan.declared.object.ObjectId.{ObjectId}
use Rattle.tsb_step.specs.tsb_plan.Two.{two}
use Rattle.tsb_step.specs.tsb_rules.declared.rules.Rule.TheVariants.{K8}
use Rattle.tsb_step.specs.tsb_rules.Rules.{first_broken}
use Rattle.tsb_step.specs.tsb_transact.declared.desk_state.DeskState.TheVariants.{Transaction, Done}
use Rattle.tsb_step.specs.tsb_transact.Desk.{Desk, with_edits}
use Rattle.tsb_step.specs.tsb_transact.Calls.{with_set}
use Rattle.tsb_step.specs.declared.inputs.Input.{Input}
use Rattle.tsb_step.specs.declared.inputs.Input.TheVariants.{Begin, Set, Verify}
use Rattle.tsb_step.specs.Runs.{replay, AreTaken}
use Rattle.tsb_step.proofs.Examples.Scenes.{opened}

-- ## A longer yellow of phase 2 is set and verified

abbrev yellow_of_2 : ObjectId
yellow_of_2 = record { object = PhaseYellowChange; index = 2 }

abbrev verified : List Input
verified = Verify 1 ∷ Set 1 yellow_of_2 40 ∷ Begin 1 ∷ []

taken : AreTaken two verified
unfolding opened two
taken = (((tt, refl), refl), refl)

is_done : (replay two verified).desk.state ≡ Done
unfolding opened two
is_done = refl

has_edit : (replay two verified).desk.edits ≡ record { id = yellow_of_2; value = 40 } ∷ []
unfolding opened two
has_edit = refl

-- ## A set that leaves the desk in Done: a yellow of 1 s, which K8 refuses

opens_again : (replay two (Set 1 yellow_of_2 10 ∷ verified)).desk.state ≡ Transaction
unfolding opened two
opens_again = refl

abbrev set_and_done : Desk → Desk
set_and_done desk = record (with_set yellow_of_2 10 desk) { state = Done }

would_be_done : (set_and_done (replay two verified).desk).state ≡ Done
would_be_done = refl

would_break_K8 : first_broken (with_edits two (set_and_done (replay two verified).desk).edits) ≡ Some K8
unfolding opened two
would_break_K8 = refl
