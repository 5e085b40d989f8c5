-- What the laws refuse: for each a mistake in the definitions, and by computing what comes of it. Beside each is what
-- the definitions as they are make of the same.
use Rattle.std.proofs.Common.{◌≡◌, ℕ, ◌==◌, false, if◌then◌else◌, Option, Some, None, refl, inl, inr}
use Rattle.tsb_step.specs.tsb_plan.Acting.{in_force}
use Rattle.tsb_step.specs.tsb_plan.Plan.{Plan}
use Rattle.tsb_step.specs.tsb_plan.Quad.{quad}
use Rattle.tsb_step.specs.tsb_plan.Schedule.{omitted_by, selected_by}
use Rattle.tsb_step.specs.tsb_machine.declared.commands.MachineCommand.TheVariants.{Apply}
use Rattle.tsb_step.specs.declared.inputs.Input.{Input}
use Rattle.tsb_step.specs.declared.inputs.Input.TheVariants.{Clock, Omit, Pattern, Reset}
use Rattle.tsb_step.specs.Following.{action_from, omits, selects}
use Rattle.tsb_text.specs.declared.task.Task.TheVariants.{Ask}
use Rattle.tsb_laws.specs.Schedules.{IsPart}
use Rattle.tsb_laws.proofs.schedules.Examples.Witness.{before_one, opened, scheduled}

-- ## Schedules are commands: free operation is selected by a reset

abbrev reset_for : ℕ → Input
reset_for n = if n == 0 then Reset else Pattern n

abbrev by_reset : Plan → Option ℕ → Option ℕ → Option Input
by_reset plan before None = None
by_reset plan None (Some a) = Some (reset_for (selected_by plan a))
by_reset plan (Some b) (Some a) = if b == a then None else Some (reset_for (selected_by plan a))

would_reset : by_reset scheduled None (Some 1) ≡ Some Reset
unfolding opened
would_reset = refl

selects_free : selects scheduled None (Some 1) ≡ Some (Pattern 0)
unfolding opened
selects_free = refl

is_no_part : IsPart (Ask (Apply (Clock before_one))) (Ask (Apply Reset)) → ⊥
is_no_part (inl e) = cc
is_no_part (inr (inl x)) = let e : Ask (Apply Reset) ≡ _ = x.3 in cc
is_no_part (inr (inr (inl x))) = let e : Ask (Apply Reset) ≡ _ = x.1 in cc
is_no_part (inr (inr (inr x))) = let e : Ask (Apply Reset) ≡ _ = x.1 in cc

-- ## Without a clock: tick number 0 is then the first moment

abbrev from_zero : Plan → Option ℕ → ℕ → Option ℕ
from_zero plan None now = Some (in_force plan now)
from_zero plan (Some start) now = action_from plan (Some start) now

would_follow : selects scheduled (from_zero scheduled None 599) (from_zero scheduled None 600) ≡ Some (Pattern 1)
unfolding opened
would_follow = refl

follows_not : selects scheduled (action_from scheduled None 599) (action_from scheduled None 600) ≡ None
unfolding opened
follows_not = refl

-- ## Without a schedule: an action is in force in every plan, and it is 0 where no event ever comes

abbrev in_any_plan : Option ℕ → Option ℕ
in_any_plan None = None
in_any_plan (Some start) = Some 0

-- a clock that is set would end an operator's pattern
would_free : selects quad (in_any_plan None) (in_any_plan (Some before_one)) ≡ Some (Pattern 0)
unfolding opened
would_free = refl

frees_not : selects quad (action_from quad None 0) (action_from quad (Some before_one) 0) ≡ None
unfolding opened
frees_not = refl

-- ## A pattern alone: the arrows follow each pattern, also where they are those that are omitted

abbrev at_each_pattern : Plan → Option ℕ → Option Input
at_each_pattern plan None = None
at_each_pattern plan (Some a) = Some (Omit (omitted_by plan a))

would_omit : at_each_pattern scheduled (Some 1) ≡ Some (Omit 0)
unfolding opened
would_omit = refl

omits_not : omits scheduled (Some 1) (λ o. false) ≡ None
unfolding opened
omits_not = refl
