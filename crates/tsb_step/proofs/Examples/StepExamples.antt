-- What each input but a tick gives, by computing: those of the operator, and those of the stations.
use Rattle.std.specs.Prelude.{◌≡◌, ℕ, ◌==◌, true, false, List, [], ◌∷◌, map, Some, None, refl}
use Rattle.tsb_cells.specs.declared.timer.Timer.TheVariants.{On}
use Rattle.tsb_types.specs.Lists.{run_from}
use Rattle.tsb_types.specs.Sets.{all_off}
use Rattle.tsb_objects.specs.tsb_plan.declared.object.Object.{Object}
use Rattle.tsb_objects.specs.tsb_plan.declared.object.Object.TheVariants.{PhaseConcurrency, PhaseMaximum1}
use Rattle.tsb_objects.specs.tsb_plan.declared.object.ObjectId.{ObjectId}
use Rattle.tsb_objects.specs.tsb_plan.Plan.{with_value}
use Rattle.tsb_objects.specs.tsb_plan.Quad.{quad}
use Rattle.tsb_objects.specs.tsb_rules.declared.rules.Rule.TheVariants.{K5}
use Rattle.tsb_coord.specs.Correction.{in_step, in_step_from}
use Rattle.tsb_preempt.specs.Preempts as preempts
use Rattle.tsb_ring.specs.Rings.{Ring1, Ring2}
use Rattle.tsb_transact.specs.Desk.{closed}
use Rattle.tsb_transact.specs.declared.desk_state.DeskState.{DeskState}
use Rattle.tsb_transact.specs.declared.desk_state.DeskState.TheVariants.{Transaction, Verify as Refused, Done}
use Rattle.tsb_transact.specs.declared.edit.Edit.{Edit}
use Rattle.tsb_step.specs.declared.inputs.Input.TheVariants.{Tick, Pattern, Switch, Fault, Reset, Begin, Set, Verify, Commit, Abort, Clock}
use Rattle.tsb_step.specs.State.{State, start}
use Rattle.tsb_step.specs.Step.{step, kind_of}
use Rattle.tsb_machine.specs.tsb_history.declared.kinds.Kind.TheVariants as kinds
use Rattle.tsb_step.proofs.Examples.Scenes.{opened, green, these, all_red, red, resting, dwelling, coordinated, hurrying}
use Rattle.tsb_step.proofs.Examples.SignsExamples.{tripped, green_lamp}

-- ## Operator

-- a selected pattern takes the forced latches back, be it the same again, and also of a controller that has tripped
abbrev pub forced : State
forced = record (coordinated 765) {
  phases = these (2 ∷ 6 ∷ []) (record (green 59) { forced = true }) all_red;
  trip = tripped.trip;
}

is_unforced : map (λ p. ((step forced (Pattern 1)).phases p).forced) (2 ∷ 6 ∷ []) ≡ false ∷ false ∷ []
unfolding opened
is_unforced = refl

is_selected : map (λ n. (step resting (Pattern n)).pattern) (0 ∷ 2 ∷ []) ≡ None ∷ Some 2 ∷ []
unfolding opened
is_selected = refl

-- at tick 60 the local counter is 60, and that of pattern 2 in step 70: so where it goes on it is 790 ahead. It is in
-- step in free operation, and where the pattern that runs is selected again
abbrev pub in_step_60 : State
in_step_60 = hurrying 0 (coordinated 60)

goes_on : map (λ n. (step in_step_60 (Pattern n)).correction) (0 ∷ 1 ∷ 2 ∷ []) ≡ in_step ∷ in_step ∷ record { since = 60; ahead = 790; midnight = 0 } ∷ []
unfolding opened
goes_on = refl

-- with correction mode 0, and from free operation, it is in step at once
is_in_step : map (λ s. (step s (Pattern 2)).correction) (coordinated 60 ∷ resting ∷ record in_step_60 { pattern = None } ∷ [])
    ≡ in_step ∷ in_step ∷ in_step ∷ []
unfolding opened
is_in_step = refl

abbrev pub switched_on : State
switched_on = step resting (Switch 2 true)

is_switched : map (λ s. map s.preempts.switch (run_from 1 4)) (switched_on ∷ step switched_on (Switch 2 false) ∷ [])
    ≡ (false ∷ true ∷ false ∷ false ∷ []) ∷ (false ∷ false ∷ false ∷ false ∷ []) ∷ []
unfolding opened
is_switched = refl

-- a reset starts a controller that has tripped anew, but keeps its plan, desk, switches and tick number
abbrev pub stopped : State
stopped = record tripped {
  plan = with_value quad PhaseMaximum1 2 30;
  desk = record closed { owner = Some 1; state = Transaction };
  pattern = Some 1;
  correction = record { since = 40; ahead = 7; midnight = 0 };
  preempts = record (dwelling 5).preempts { switch = λ n. n == 2; delay = λ n. On 7 };
  lamp = green_lamp 3;
}

is_reset : step stopped Reset ≡ record (start stopped.plan) {
  now = 60;
  desk = stopped.desk;
  preempts = record preempts.at_power_up { switch = λ n. n == 2 };
}
unfolding opened
is_reset = refl

-- any other stays as it is, its lamp too
abbrev pub lit : State
lit = record stopped { trip = None }

is_not_reset : step lit Reset ≡ lit
unfolding opened
is_not_reset = refl

-- ## Stations

abbrev pub id : Object → ℕ → ObjectId
id o i = record { object = o; index = i }

abbrev pub edit : Object → ℕ → ℕ → Edit
edit o i v = record { id = id o i; value = v }

-- station 1 has these edits on the desk, in this state
abbrev pub editing : DeskState → List Edit → State → State
editing state edits s = record s { desk = record { owner = Some 1; state = state; rule = None; edits = edits } }

begins : (step resting (Begin 3)).desk ≡ record closed { owner = Some 3; state = Transaction }
unfolding opened
begins = refl

-- a set takes the desk out of Done, and an object that is there keeps its place
sets : step (editing Done (edit PhaseMaximum1 2 30 ∷ edit PhaseMaximum1 4 9 ∷ []) resting) (Set 1 (id PhaseMaximum1 2) 40)
    ≡ editing Transaction (edit PhaseMaximum1 2 40 ∷ edit PhaseMaximum1 4 9 ∷ []) resting
unfolding opened
sets = refl

-- a check is of the plan with the edits: concurrency has to be symmetric
abbrev pub one_sided : List Edit
one_sided = edit PhaseConcurrency 1 32 ∷ []

abbrev pub symmetric : List Edit
symmetric = edit PhaseConcurrency 1 32 ∷ edit PhaseConcurrency 5 2 ∷ []

finds : (step (editing Transaction one_sided resting) (Verify 1)).desk
    ≡ record { owner = Some 1; state = Refused; rule = Some K5; edits = one_sided }
unfolding opened
finds = refl

finds_none : step (editing Transaction symmetric resting) (Verify 1) ≡ editing Done symmetric resting
unfolding opened
finds_none = refl

-- a commit puts the edits into effect, closes the desk, and where it changes the structure forgets the last phases
abbrev pub committed : List Edit → State
committed edits = step (editing Done edits red) (Commit 1)

is_in_effect : map ((committed symmetric).plan.value PhaseConcurrency) (1 ∷ 2 ∷ 5 ∷ []) ≡ 32 ∷ 48 ∷ 2 ∷ []
unfolding opened
is_in_effect = refl

is_closed : (committed symmetric).desk ≡ closed
unfolding opened
is_closed = refl

forgets : map (committed symmetric).rings.last (Ring1 ∷ Ring2 ∷ []) ≡ None ∷ None ∷ []
unfolding opened
forgets = refl

-- not so where it changes other objects, or sets structural ones to what they are
forgets_not : map (λ e. (committed (e ∷ [])).rings.last Ring1) (edit PhaseMaximum1 2 30 ∷ edit PhaseConcurrency 1 48 ∷ [])
    ≡ Some 2 ∷ Some 2 ∷ []
unfolding opened
forgets_not = refl

aborts : (step (editing Done symmetric red) (Abort 1)) ≡ red
unfolding opened
aborts = refl

-- ## The clock

-- tick number 60 is at 7:00:00 of 2000-01-01, so that tick number 0 was 6 s before. The pattern that runs with a cycle of
-- 80 s is then at 0, as 25,200 s are 315 cycles: the counter, which was at 60, is 60 ticks ahead
abbrev pub at_seven : ℕ
at_seven = 7164000

tells_time : (step resting (Clock at_seven)).start_moment ≡ Some 7163940
unfolding opened
tells_time = refl

clocks : map (λ s. (step s (Clock at_seven)).correction) (coordinated 60 ∷ in_step_60 ∷ resting ∷ [])
    ≡ in_step_from 7163940 ∷ record { since = 60; ahead = 60; midnight = 7163940 } ∷ in_step ∷ []
unfolding opened
clocks = refl

-- a pattern that is selected after that counts from the same midnight
selects_by_clock : (step (step resting (Clock at_seven)) (Pattern 1)).correction ≡ in_step_from 7163940
unfolding opened
selects_by_clock = refl

-- ## Kinds

all_kinds : map kind_of
    (Tick all_off ∷ Pattern 1 ∷ Switch 1 true ∷ Fault None ∷ Reset
    ∷ Begin 1 ∷ Set 1 (id PhaseMaximum1 2) 9 ∷ Verify 1 ∷ Commit 1 ∷ Abort 1 ∷ Clock 6912000 ∷ [])
    ≡ kinds.Tick ∷ kinds.Pattern ∷ kinds.Switch ∷ kinds.Fault ∷ kinds.Reset
    ∷ kinds.Begin ∷ kinds.Set ∷ kinds.Verify ∷ kinds.Commit ∷ kinds.Abort ∷ kinds.Clock ∷ []
all_kinds = refl
