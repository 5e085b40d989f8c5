-- Why the laws of runs have their premises, and what each would be worth without: for each a mistake, and by computing what
-- comes of it. What mistakes in the rings' own definitions do to them is in tsb_ring.
use Rattle.std.specs.Prelude.{◌≡◌, ℕ, ◌-◌, true, false, [], ◌∷◌, Some, None, refl}
use Rattle.tsb_types.specs.Sets.{all_off}
use Rattle.tsb_types.specs.declared.interval.Interval.TheVariants.{Green}
use Rattle.tsb_types.specs.declared.lamp.Lamp.TheVariants as lamps
use Rattle.tsb_types.specs.declared.lamp.SignalColor.TheVariants as signals
use Rattle.tsb_types.specs.declared.refusal.Refusal.TheVariants.{NotVerified, InService}
use Rattle.tsb_types.specs.declared.stage.Stage.TheVariants.{Dwell}
use Rattle.tsb_cells.specs.declared.timer.Timer.TheVariants.{Off, On}
use Rattle.tsb_machine.specs.tsb_history.declared.kinds.Kind.{Kind}
use Rattle.tsb_machine.specs.tsb_history.declared.kinds.Kind.TheVariants as kinds
use Rattle.tsb_objects.specs.tsb_plan.declared.object.Object.{Object}
use Rattle.tsb_objects.specs.tsb_plan.declared.object.Object.TheVariants.{PhaseConcurrency, PhaseMinRecall, PreemptDwellPhase}
use Rattle.tsb_objects.specs.tsb_plan.Plan.{Plan, is_concurrent, with_values}
use Rattle.tsb_objects.specs.tsb_plan.Quad.{quad}
use Rattle.tsb_objects.specs.tsb_rules.declared.rules.Rule.TheVariants.{K5, K15}
use Rattle.tsb_objects.specs.tsb_rules.Rules.{first_broken}
use Rattle.tsb_heads.specs.declared.monitor.Trip.TheVariants.{Conflict}
use Rattle.tsb_heads.specs.Displays.{ordered}
use Rattle.tsb_preempt.specs.Preempts as preempts
use Rattle.tsb_preempt.specs.Service.{has_dwell}
use Rattle.tsb_ring.proofs.Examples.Scenes.{both}
use Rattle.tsb_transact.specs.declared.desk_state.DeskState.TheVariants.{Verify, Done}
use Rattle.tsb_transact.specs.declared.edit.Edit.{Edit}
use Rattle.tsb_heads.specs.Monitoring.{has_right_of_way}
use Rattle.tsb_step.specs.declared.inputs.Input.TheVariants.{Tick, Switch, Fault, Commit}
use Rattle.tsb_step.specs.Past.{ticks_of}
use Rattle.tsb_step.specs.State.{State, start, interval}
use Rattle.tsb_step.specs.Signs.{shown}
use Rattle.tsb_step.specs.Step.{step, verdict}
use Rattle.tsb_step.specs.Runs.{replay}
use Rattle.tsb_step.proofs.Examples.Scenes.{opened}

abbrev edit : Object → ℕ → ℕ → Edit
edit o i v = record { id = record { object = o; index = i }; value = v }

-- ## Phases in service go together: a plan whose concurrency is not symmetric

-- 5 names 1, and 1 does not name 5; both are on minimum recall
unfoldable one_way : Plan
one_way = with_values quad ((PhaseConcurrency, 1, 32) ∷ (PhaseMinRecall, 1, 1) ∷ (PhaseMinRecall, 5, 1) ∷ [])

breaks_K5 : first_broken one_way ≡ Some K5
unfolding opened one_way
breaks_K5 = refl

apart_1_5 : is_concurrent one_way 1 5 ≡ false
unfolding opened one_way
apart_1_5 = refl

-- both start in the first tick; that the display is safe even so is the monitor's doing, which trips at once
serves_1 : interval (replay one_way (Tick all_off ∷ [])) 1 ≡ Green
unfolding opened one_way
serves_1 = refl

serves_5 : interval (replay one_way (Tick all_off ∷ [])) 5 ≡ Green
unfolding opened one_way
serves_5 = refl

trips : (replay one_way (Tick all_off ∷ [])).trip ≡ Some (record { cause = Conflict 1 5; tick = 1 })
unfolding opened one_way
trips = refl

-- without it both would be green
is_unsafe : has_right_of_way (ordered one_way (shown (replay one_way (Tick all_off ∷ [])))) 5 ≡ true
unfolding opened one_way
is_unsafe = refl

-- ## Phases in service go together: a target that is not pairwise concurrent

-- 3 and 7 are not concurrent, and a preempt wants both
unfoldable wants_3_7 : Plan
wants_3_7 = with_values quad ((PhaseConcurrency, 3, 128) ∷ (PhaseConcurrency, 7, 8) ∷ (PreemptDwellPhase, 1, 68) ∷ [])

breaks_K15 : first_broken wants_3_7 ≡ Some K15
unfolding opened wants_3_7
breaks_K15 = refl

-- with its switch on, a crossing takes both in the first tick, and starts them in the second
unfoldable crossed : State
unfolding opened wants_3_7
crossed = replay wants_3_7 (Tick all_off ∷ Tick all_off ∷ Switch 1 true ∷ [])

serves_3 : interval crossed 3 ≡ Green
unfolding opened wants_3_7 crossed
serves_3 = refl

serves_7 : interval crossed 7 ≡ Green
unfolding opened wants_3_7 crossed
serves_7 = refl

apart_3_7 : is_concurrent wants_3_7 3 7 ≡ false
unfolding opened wants_3_7
apart_3_7 = refl

-- ## Phases in service go together: a commit of the structure during a crossing

-- from all red to side 2, for 3 and 8; and edits that part these
unfoldable crossing_3_8 : State
unfolding opened
crossing_3_8 = record (start quad) {
  now = 1;
  desk = record {
    owner = Some 1;
    state = Done;
    rule = None;
    edits = edit PhaseConcurrency 3 64 ∷ edit PhaseConcurrency 8 8 ∷ [];
  };
  rings = record { last = both None None; commitment = both (Some 3) (Some 8); side = 1; crossing = Some 2 };
}

has_to_wait : verdict crossing_3_8 (Commit 1) ≡ Some InService
unfolding opened crossing_3_8
has_to_wait = refl

-- taken all the same, it would let both start in the next tick
unfoldable parted_in_crossing : State
unfolding opened crossing_3_8
parted_in_crossing = step (step crossing_3_8 (Commit 1)) (Tick all_off)

serves_3_then : interval parted_in_crossing 3 ≡ Green
unfolding opened crossing_3_8 parted_in_crossing
serves_3_then = refl

serves_8_then : interval parted_in_crossing 8 ≡ Green
unfolding opened crossing_3_8 parted_in_crossing
serves_8_then = refl

apart_3_8_then : is_concurrent parted_in_crossing.plan 3 8 ≡ false
unfolding opened crossing_3_8 parted_in_crossing
apart_3_8_then = refl

-- ## Plans stay consistent: a commit of edits that were not found right

unfoldable unverified : State
unfolding opened
unverified = record (start quad) {
  desk = record { owner = Some 1; state = Verify; rule = Some K5; edits = edit PhaseConcurrency 1 32 ∷ [] };
}

has_to_be_verified : verdict unverified (Commit 1) ≡ Some NotVerified
unfolding opened unverified
has_to_be_verified = refl

would_break_K5 : first_broken (step unverified (Commit 1)).plan ≡ Some K5
unfolding opened unverified
would_break_K5 = refl

-- ## A preempt in service has phases: a commit of its list meanwhile

unfoldable dwelling : State
unfolding opened
dwelling = record (start quad) {
  preempts = record preempts.at_power_up {
    service = Some (record { preempt = 1; stage = Dwell; timer = On 5; stage_timer = Off });
  };
  desk = record { owner = Some 1; state = Done; rule = None; edits = edit PreemptDwellPhase 1 0 ∷ [] };
}

has_to_wait_for_it : verdict dwelling (Commit 1) ≡ Some InService
unfolding opened dwelling
has_to_wait_for_it = refl

would_have_none : has_dwell (step dwelling (Commit 1)).plan 1 ≡ false
unfolding opened dwelling
would_have_none = refl

-- ## Faults alone trip: a lamp that is lit

green_on_3 : (step (replay quad (Tick all_off ∷ [])) (Fault (Some (lamps.Phase 3 signals.Green)))).trip
    ≡ Some (record { cause = Conflict 2 3; tick = 1 })
unfolding opened
green_on_3 = refl

-- ## The record of an input takes the input back: a record that leaves the tick number

goes_to_6 : 7 - ticks_of kinds.Tick ≡ 6
goes_to_6 = refl

abbrev ticks_of_none : Kind → ℕ
ticks_of_none k = 0

would_be_at_7 : 7 - ticks_of_none kinds.Tick ≡ 7
would_be_at_7 = refl
