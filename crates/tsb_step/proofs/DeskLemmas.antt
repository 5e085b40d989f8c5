-- The inputs of the desk, step by step: what they leave, and what the others leave of the desk.
use Rattle.std.proofs.Common.{◌≡◌, Bool, true, false, if◌then◌else◌, Option, is_some, refl}
use Rattle.tsb_types.specs.declared.lamp.Lamp.{Lamp}
use Rattle.tsb_types.specs.declared.row.Row.{Row}
use Rattle.tsb_objects.specs.tsb_plan.Plan.{Plan}
use Rattle.tsb_ring.specs.Rings.{forgotten}
use Rattle.tsb_transact.specs.Desk.{closed}
use Rattle.tsb_transact.specs.Commit.{forgets_last_phases}
use Rattle.tsb_transact.specs.Calls.{committed_plan}
use Rattle.tsb_step.specs.declared.inputs.Input.{Input}
use Rattle.tsb_step.specs.declared.inputs.Input.TheVariants.{Tick, Pattern, Switch, Fault, Reset, Commit, Clock, Omit}
use Rattle.tsb_step.specs.State.{State}
use Rattle.tsb_step.specs.Step.{step, ticked, with_lamp, reset}
use Rattle.tsb_step.specs.Signs.{field, watched}
use Rattle.tsb_step.specs.Tick.{new_service, new_detectors, phases_given, held, rings_given, moves, gives_up, new_rings}
use Rattle.tsb_step.specs.DeskLaws.{is_of_desk, is_commit, by_any_station, without_desk}

-- ## What the inputs of the desk change

pub change_the_desk_alone : (s : State) (i : Input) → is_of_desk i ≡ true → step s i ≡ record s { desk = (step s i).desk }
unfolding step
change_the_desk_alone s (Tick row) of = cc
change_the_desk_alone s (Pattern n) of = cc
change_the_desk_alone s (Switch n on) of = cc
change_the_desk_alone s (Fault lamp) of = cc
change_the_desk_alone s Reset of = cc
change_the_desk_alone s (Commit station) of = cc
change_the_desk_alone s (Clock m) of = cc
change_the_desk_alone s (Omit list) of = cc
change_the_desk_alone s i of = refl

-- ## What the others make of it, where the controller has tripped and where it has not

tick_leaves : (s : State) (row : Row) (b : Bool) → is_some s.trip ≡ b → (ticked row s).desk ≡ s.desk
unfolding watched
tick_leaves s row true tripped = rw tripped refl
tick_leaves s row false tripped = rw tripped refl

lamp_leaves : (s : State) (lamp : Option Lamp) (b : Bool) → is_some s.trip ≡ b → (with_lamp lamp s).desk ≡ s.desk
unfolding watched
lamp_leaves s lamp true tripped = rw tripped refl
lamp_leaves s lamp false tripped = rw tripped refl

reset_leaves : (s : State) (b : Bool) → is_some s.trip ≡ b → (reset s).desk ≡ s.desk
reset_leaves s true tripped = rw tripped refl
reset_leaves s false tripped = rw tripped refl

pub leave_the_desk : (s : State) (i : Input) → is_of_desk i ≡ false → is_commit i ≡ false → (step s i).desk ≡ s.desk
unfolding step
leave_the_desk s (Tick row) of commits = tick_leaves s row (is_some s.trip) refl
leave_the_desk s (Fault lamp) of commits = lamp_leaves s lamp (is_some s.trip) refl
leave_the_desk s Reset of commits = reset_leaves s (is_some s.trip) refl
leave_the_desk s i of commits = cc

-- ## They read nothing of the desk

tick_reads_no_desk : (s : State) (row : Row) (b : Bool) → is_some s.trip ≡ b →
    without_desk (ticked row s) ≡ without_desk (ticked row (without_desk s))
unfolding watched field new_service new_detectors phases_given held rings_given moves gives_up new_rings
tick_reads_no_desk s row true tripped = rw tripped refl
tick_reads_no_desk s row false tripped = rw tripped refl

lamp_reads_no_desk : (s : State) (lamp : Option Lamp) (b : Bool) → is_some s.trip ≡ b →
    without_desk (with_lamp lamp s) ≡ without_desk (with_lamp lamp (without_desk s))
unfolding watched field
lamp_reads_no_desk s lamp true tripped = rw tripped refl
lamp_reads_no_desk s lamp false tripped = rw tripped refl

reset_reads_no_desk : (s : State) (b : Bool) → is_some s.trip ≡ b →
    without_desk (reset s) ≡ without_desk (reset (without_desk s))
reset_reads_no_desk s true tripped = rw tripped refl
reset_reads_no_desk s false tripped = rw tripped refl

pub read_no_desk : (s : State) (i : Input) → is_of_desk i ≡ false → is_commit i ≡ false →
    without_desk (step s i) ≡ without_desk (step (without_desk s) i)
unfolding step
read_no_desk s (Tick row) of commits = tick_reads_no_desk s row (is_some s.trip) refl
read_no_desk s (Fault lamp) of commits = lamp_reads_no_desk s lamp (is_some s.trip) refl
read_no_desk s Reset of commits = reset_reads_no_desk s (is_some s.trip) refl
read_no_desk s i of commits = cc

-- ## Commits

-- a plan is put into effect, and the rings forget their last phases or not
abbrev pub put : Plan → Bool → State → State
put plan forgets x = record x {
  plan = plan;
  desk = closed;
  rings = if forgets then forgotten x.rings else x.rings;
}

pub commit_puts : (s : State) (i : Input) → is_commit i ≡ true →
    without_desk (step s i) ≡ put (committed_plan s.plan s.desk) (forgets_last_phases s.plan s.desk.edits) (without_desk s)
unfolding step
commit_puts s (Commit station) commits = refl
commit_puts s i commits = cc

-- an input that is no commit is what it is by any station
pub is_itself : (i : Input) → is_commit i ≡ false → by_any_station i ≡ i
is_itself (Commit station) commits = cc
is_itself i commits = refl

-- and commits stay commits
pub still_commits : (i : Input) → is_commit (by_any_station i) ≡ is_commit i
still_commits (Commit station) = refl
still_commits i = refl
