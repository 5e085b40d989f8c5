-- What transactions at the desk do to the controller: nothing but by the plans that their commits put into effect. Each
-- law here is the contract of a function in src/desk_laws.rt, and proved there. Runs are those of Runs, of inputs taken
-- or not.
use Rattle.std.specs.Prelude.{◌≡◌, Bool, true, false, if◌then◌else◌, List, [], ◌∷◌}
use Rattle.tsb_objects.specs.tsb_plan.Plan.{Plan}
use Rattle.tsb_transact.specs.Desk.{closed}
use Rattle.tsb_transact.specs.Calls.{committed_plan}
use Rattle.tsb_step.specs.declared.inputs.Input.{Input}
use Rattle.tsb_step.specs.declared.inputs.Input.TheVariants.{Tick, Pattern, Switch, Fault, Reset, Begin, Set, Verify, Commit, Abort, Clock, Omit}
use Rattle.tsb_step.specs.State.{State}
use Rattle.tsb_step.specs.Step.{step}
use Rattle.tsb_step.specs.Signs.{display}
use Rattle.tsb_step.specs.Runs.{replay}

-- ## Inputs of the desk

-- Begin, Set, Verify and Abort
abbrev pub is_of_desk : Input → Bool
is_of_desk (Tick row) = false
is_of_desk (Pattern n) = false
is_of_desk (Switch n on) = false
is_of_desk (Fault lamp) = false
is_of_desk Reset = false
is_of_desk (Begin station) = true
is_of_desk (Set station id v) = true
is_of_desk (Verify station) = true
is_of_desk (Commit station) = false
is_of_desk (Abort station) = true
is_of_desk (Clock m) = false
is_of_desk (Omit list) = false

-- the one input of a station that changes the plan in effect
abbrev pub is_commit : Input → Bool
is_commit (Commit station) = true
is_commit i = false

-- an input of the desk changes nothing but the desk
abbrev pub ChangeTheDeskAlone : Type 0
ChangeTheDeskAlone = (s : State) (i : Input) → is_of_desk i ≡ true → step s i ≡ record s { desk = (step s i).desk }

-- and no other input but a commit changes the desk
abbrev pub LeaveTheDesk : Type 0
LeaveTheDesk = (s : State) (i : Input) → is_of_desk i ≡ false → is_commit i ≡ false → (step s i).desk ≡ s.desk

-- ## Whole runs

-- a commit, whichever station makes it
abbrev pub by_any_station : Input → Input
by_any_station (Commit station) = Commit 1
by_any_station i = i

-- what a run gives the rest of the controller: its inputs without those of the desk, commits by any station
abbrev pub told : List Input → List Input
told [] = []
told (i ∷ is) = if is_of_desk i then told is else by_any_station i ∷ told is

-- the plans that its commits put into effect, the newest first
abbrev pub put_into_effect : Plan → List Input → List Plan
put_into_effect plan [] = []
put_into_effect plan (i ∷ is) =
    if is_commit i then committed_plan (replay plan is).plan (replay plan is).desk ∷ put_into_effect plan is
    else put_into_effect plan is

-- the controller without its desk
abbrev pub without_desk : State → State
without_desk s = record s { desk = closed }

-- two runs that give the same and put the same plans into effect in turn end in states that are equal, the desk aside
abbrev pub ActByPlansAlone : Type 0
ActByPlansAlone = (plan : Plan) (is js : List Input) → told is ≡ told js →
    put_into_effect plan is ≡ put_into_effect plan js → without_desk (replay plan is) ≡ without_desk (replay plan js)

-- and so they show the same
abbrev pub ShowTheSame : Type 0
ShowTheSame = (plan : Plan) (is js : List Input) → told is ≡ told js →
    put_into_effect plan is ≡ put_into_effect plan js → display (replay plan is) ≡ display (replay plan js)
