-- One-line mistakes that break the laws of the desk, each with runs in which it shows, over the built-in plan of eight
-- phases.
use Rattle.std.specs.Prelude.{◌≡◌, true, false, List, [], ◌∷◌, ◌++◌, refl}
use Rattle.tsb_objects.specs.tsb_plan.declared.object.Object.TheVariants.{PhaseRing, PhaseMaximum1}
use Rattle.tsb_objects.specs.tsb_plan.Plan.{Plan, with_value}
use Rattle.tsb_objects.specs.tsb_plan.Quad.{quad}
use Rattle.tsb_transact.specs.declared.edit.Edit.{Edit}
use Rattle.tsb_transact.specs.Desk.{with_edit, with_edits}
use Rattle.tsb_transact.specs.Commit.{forgets_last_phases}
use Rattle.tsb_transact.proofs.Examples.Examples.{at, edit}
use Rattle.tsb_step.specs.declared.inputs.Input.{Input}
use Rattle.tsb_step.specs.declared.inputs.Input.TheVariants.{Begin, Set, Verify, Commit, Abort}
use Rattle.tsb_step.specs.State.{State, start}
use Rattle.tsb_step.specs.Step.{step}
use Rattle.tsb_step.specs.Runs.{replay}
use Rattle.tsb_step.specs.DeskLaws.{told, put_into_effect}

-- ## Two runs that the law speaks of: one station sets a value at once, another after a change of mind and an abort

abbrev pub straight : List Input
straight = Commit 1 ∷ Verify 1 ∷ Set 1 (at PhaseMaximum1 2) 40 ∷ Begin 1 ∷ []

abbrev pub roundabout : List Input
roundabout =
    Commit 2 ∷ Verify 2 ∷ Set 2 (at PhaseMaximum1 2) 40 ∷ Set 2 (at PhaseMaximum1 2) 30 ∷ Begin 2 ∷
    Abort 1 ∷ Set 1 (at PhaseRing 2) 2 ∷ Begin 1 ∷ []

tell_the_same : told straight ≡ told roundabout
tell_the_same = refl

put_the_same : put_into_effect quad straight ≡ put_into_effect quad roundabout
unfolding quad step
put_the_same = refl

is_put : (replay quad straight).plan.value PhaseMaximum1 2 ≡ 40
unfolding quad step
is_put = refl

-- ## A Set acts on the plan before its commit

abbrev pub step_at_once : State → Input → State
step_at_once s (Set station id v) = record s { plan = with_value s.plan id.object id.index v }
step_at_once s i = step s i

abbrev pub replay_at_once : Plan → List Input → State
replay_at_once plan [] = start plan
replay_at_once plan (i ∷ is) = step_at_once (replay_at_once plan is) i

-- this run gives as little, and puts as few plans into effect, as one of no inputs
abbrev pub set_alone : List Input
set_alone = Set 1 (at PhaseMaximum1 2) 40 ∷ Begin 1 ∷ []

tells_nothing : told set_alone ≡ []
tells_nothing = refl

puts_nothing : put_into_effect quad set_alone ≡ []
puts_nothing = refl

acts_not : (replay quad set_alone).plan.value PhaseMaximum1 2 ≡ 20
unfolding quad step
acts_not = refl

acts_at_once : (replay_at_once quad set_alone).plan.value PhaseMaximum1 2 ≡ 40
unfolding quad step
acts_at_once = refl

-- ## A value set again is one edit more

abbrev pub with_edit_too : Edit → List Edit → List Edit
with_edit_too e edits = edits ++ e ∷ []

abbrev pub moved_away : List Edit
moved_away = edit PhaseRing 1 2 ∷ []

-- phase 1 is put back into its ring: the plan is as it was, so the rings are to forget as little as without edits
is_put_back : (with_edits quad (with_edit_too (edit PhaseRing 1 1) moved_away)).value PhaseRing 1 ≡ quad.value PhaseRing 1
unfolding quad
is_put_back = refl

forgets_not : forgets_last_phases quad (with_edit (edit PhaseRing 1 1) moved_away) ≡ false
unfolding quad
forgets_not = refl

forgets : forgets_last_phases quad (with_edit_too (edit PhaseRing 1 1) moved_away) ≡ true
unfolding quad
forgets = refl

-- ## An abort puts its edits into effect

abbrev pub step_on_abort : State → Input → State
step_on_abort s (Abort station) = record (step s (Abort station)) { plan = with_edits s.plan s.desk.edits }
step_on_abort s i = step s i

abbrev pub replay_on_abort : Plan → List Input → State
replay_on_abort plan [] = start plan
replay_on_abort plan (i ∷ is) = step_on_abort (replay_on_abort plan is) i

abbrev pub given_up : List Input
given_up = Abort 1 ∷ set_alone

gives_up : (replay quad given_up).plan.value PhaseMaximum1 2 ≡ 20
unfolding quad step
gives_up = refl

gives_up_not : (replay_on_abort quad given_up).plan.value PhaseMaximum1 2 ≡ 40
unfolding quad step
gives_up_not = refl
