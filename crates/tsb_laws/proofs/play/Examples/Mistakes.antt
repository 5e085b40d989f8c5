-- What the laws of a session refuse, by computing: an input that is carried out though it was refused. Beside it stands
-- what the definitions make of the same.
use Rattle.std.proofs.Common.{◌≡◌, List, [], ◌∷◌, Some, None, refl, arith}
use Rattle.tsb_step.specs.tsb_types.declared.refusal.Refusal.TheVariants.{NotVerified}
use Rattle.tsb_step.specs.tsb_plan.declared.object.Object.TheVariants.{PhaseConcurrency}
use Rattle.tsb_step.specs.tsb_plan.declared.object.ObjectId.{ObjectId}
use Rattle.tsb_step.specs.tsb_plan.Quad.{quad}
use Rattle.tsb_step.specs.tsb_rules.declared.rules.Rule.TheVariants.{K5}
use Rattle.tsb_step.specs.tsb_rules.Rules.{first_broken}
use Rattle.tsb_step.specs.tsb_machine.declared.commands.MachineCommand.TheVariants.{Apply}
use Rattle.tsb_step.specs.tsb_machine.declared.commands.Answer.{Answer}
use Rattle.tsb_step.specs.tsb_machine.declared.commands.Answer.TheVariants.{Took, Refused}
use Rattle.tsb_step.specs.declared.inputs.Input.{Input}
use Rattle.tsb_step.specs.declared.inputs.Input.TheVariants.{Begin, Set, Commit}
use Rattle.tsb_step.specs.Play.{Cmd, AreRight, remaining}
use Rattle.tsb_step.specs.Runs.{replay, AreTaken}
use Rattle.tsb_step.proofs.Examples.Scenes.{opened}
use Rattle.tsb_laws.specs.Runs.{AreTyped}

-- ## Plays keep the laws: phase 1 is to name phase 6 too, which does not name it; the commit is refused

abbrev pub concurrency_of_1 : ObjectId
concurrency_of_1 = record { object = PhaseConcurrency; index = 1 }

abbrev pub asked : List Cmd
asked = Apply (Begin 1) ∷ Apply (Set 1 concurrency_of_1 32) ∷ Apply (Commit 1) ∷ []

abbrev pub answered : List Answer
answered = Took ∷ Took ∷ Refused NotVerified ∷ []

are_right : AreRight quad asked answered
unfolding opened
are_right = (refl, (refl, (refl, tt)))

remains : remaining quad asked answered ≡ Set 1 concurrency_of_1 32 ∷ Begin 1 ∷ []
remains = refl

are_taken : AreTaken quad (remaining quad asked answered)
unfolding opened
are_taken = ((tt, refl), refl)

breaks_none : first_broken (replay quad (remaining quad asked answered)).plan ≡ None
unfolding opened
breaks_none = refl

-- what is applied is carried out, whatever the answer
abbrev pub carried_out : List Input → List Cmd → List Input
carried_out is [] = is
carried_out is (Apply i ∷ cs) = carried_out (i ∷ is) cs
carried_out is (c ∷ cs) = carried_out is cs

would_break_K5 : first_broken (replay quad (carried_out [] asked)).plan ≡ Some K5
unfolding opened
would_break_K5 = refl

are_typed : AreTyped (remaining quad asked answered)
are_typed = (tt, ((omega arith, omega arith), tt))
