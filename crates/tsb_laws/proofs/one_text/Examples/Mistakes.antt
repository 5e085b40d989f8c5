-- What the laws refuse: for each a mistake in the definitions, and by computing what comes of it. Beside each stands
-- what the definitions as they are make of the same.
use Rattle.std.proofs.Common.{◌≡◌, ℕ, suc, ◌<◌, ◌≤◌, false, List, [], ◌∷◌, None, codes, bytes_eq, refl, arith}
use Rattle.tsb_step.specs.tsb_history.declared.kinds.Kind.TheVariants as kinds
use Rattle.tsb_step.specs.tsb_plan.Two.{two}
use Rattle.tsb_step.specs.tsb_machine.declared.commands.MachineCommand.TheVariants.{Undo, Back}
use Rattle.tsb_step.specs.tsb_machine.declared.commands.Answer.{Answer}
use Rattle.tsb_step.specs.tsb_machine.declared.commands.Answer.TheVariants.{Took, Undone, Moved, Nothing}
use Rattle.tsb_step.specs.declared.inputs.Input.{Input}
use Rattle.tsb_step.specs.declared.inputs.Input.TheVariants as inputs
use Rattle.tsb_step.specs.Play.{IsRight}
use Rattle.tsb_step.specs.State.{start}
use Rattle.tsb_step.specs.Step.{kind_of}
use Rattle.tsb_text.specs.Answers.{told}
use Rattle.tsb_text.specs.Text.{IsText}
use Rattle.tsb_laws.proofs.one_text.Examples.Witness.{opened, given, text, short}

-- ## Texts part at memory: without the word on memory there are two

-- both are texts of one session (`is_text`, `is_text_too`)
are_two : bytes_eq text short ≡ false
are_two = refl

-- ## One text: an undo that may be answered by `nothing`, whatever remains

abbrev begun : List Input
begun = inputs.Begin 1 ∷ []

abbrev IsLoose : List Input → Answer → Type 0
IsLoose [] (Undone k) = ⊥
IsLoose (i ∷ is) (Undone k) = k ≡ kind_of i
IsLoose is Nothing = Unit {0}
IsLoose is a = ⊥

would_be_right : IsLoose begun (Undone kinds.Begin) × IsLoose begun Nothing
would_be_right = (refl, tt)

would_be_two : bytes_eq (told false Undo (Undone kinds.Begin) (start two)) (told false Undo Nothing (start two)) ≡ false
would_be_two = refl

is_right : IsRight two begun Undo (Undone kinds.Begin)
is_right = refl

is_not_right : IsRight two begun Undo Nothing → ⊥
is_not_right r = cc

-- ## One text: a way back that may go one tick further than there are

abbrev IsFurther : ℕ → ℕ → Answer → Type 0
IsFurther now n Moved = n ≤ suc now
IsFurther now n Nothing = now < n
IsFurther now n a = ⊥

would_both_be_right : IsFurther 0 1 Moved × IsFurther 0 1 Nothing
would_both_be_right = (omega arith, omega arith)

one_is_right : IsRight two [] (Back 1) Nothing
one_is_right = omega arith

the_other_is_not : IsRight two [] (Back 1) Moved → ⊥
the_other_is_not r = omega (arith, r)

-- ## Sessions write one text: a session that ends well before the end of what it was given

abbrev all : List ℕ
all = codes "begin 1\nundo\n"

-- each is the text of what was read then
read_a_line : IsText given [] (codes "begin 1\n") (codes "ok\n")
unfolding opened
read_a_line = (codes "ok\n", [], begun, record { answer = Took; right = refl; stop = None; left = (refl, refl); line = refl }, refl, refl)

read_all : IsText given [] all (codes "ok\nundone begin\n")
unfolding opened
read_all = (
  codes "ok\n",
  codes "undone begin\n",
  begun,
  record { answer = Took; right = refl; stop = None; left = (refl, refl); line = refl },
  refl,
  (codes "undone begin\n", [], [], record { answer = Undone kinds.Begin; right = refl; stop = None; left = (refl, refl); line = refl }, refl, refl),
)

would_differ : bytes_eq (codes "ok\n") (codes "ok\nundone begin\n") ≡ false
would_differ = refl
