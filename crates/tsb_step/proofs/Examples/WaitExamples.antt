-- What phases wait for, a state for each kind of wait and each lack, by computing, worked by hand from the plan of eight
-- phases: greens last 50 ticks, yellow change 30, red clearance 10, a gap 20, red revert 20; phase 2 has a walk of 40 and
-- a pedestrian clearance of 60.
use Rattle.std.specs.Prelude.{◌≡◌, ℕ, true, List, [], ◌∷◌, Some, None, refl}
use Rattle.tsb_cells.specs.declared.timer.Timer.TheVariants.{Off, On}
use Rattle.tsb_types.specs.declared.interval.PedestrianInterval.TheVariants.{PedestrianClear}
use Rattle.tsb_types.specs.Sets.{all_off}
use Rattle.tsb_objects.specs.tsb_plan.declared.object.Object.TheVariants.{CoordForceMode, CoordMaximumMode, PhaseConcurrency, SplitMode}
use Rattle.tsb_objects.specs.tsb_plan.Plan.{with_value, with_values}
use Rattle.tsb_objects.specs.tsb_plan.Quad.{quad}
use Rattle.tsb_heads.specs.declared.monitor.Trip.TheVariants.{GreenToRed}
use Rattle.tsb_phase.specs.Phase as phase
use Rattle.tsb_phase.specs.Phase.{Phase}
use Rattle.tsb_ring.specs.Moves.{is_started}
use Rattle.tsb_ring.specs.Rings as rings
use Rattle.tsb_ring.proofs.Examples.Scenes.{both}
use Rattle.tsb_step.specs.declared.waits.Lack.TheVariants as lacks
use Rattle.tsb_step.specs.declared.waits.Wait.TheVariants as waits
use Rattle.tsb_step.specs.State.{State}
use Rattle.tsb_step.specs.Tick.{moves}
use Rattle.tsb_step.specs.Waits.{lack, phases_again, served, holder, committed_wait, free_wait, wait, waits_for}
use Rattle.tsb_step.proofs.Examples.Scenes as scenes
use Rattle.tsb_step.proofs.Examples.Scenes.{all_red, at_barrier, called, clearing, coordinated, dwelling, green, red, resting, short, these, walking}

-- what a computed line opens
unfoldable pub opened : Unit {0}
unfolding scenes.opened lack phases_again served holder committed_wait free_wait wait
opened = scenes.opened

-- ## Words

-- these phases have a vehicle call
abbrev pub calling : List ℕ → State → State
calling ps s = record s { memories = called ps }

-- a phase that is Red, with this red revert
abbrev pub reverting : ℕ → Phase
reverting n = record phase.at_power_up { red_revert = On n }

-- ## Any phase

-- the controller has tripped
abbrev pub tripped : State
tripped = record (calling (3 ∷ []) short) { trip = Some (record { cause = GreenToRed 4; tick = 50 }) }

flashes : waits_for tripped 3 ≡ Some waits.Flash
unfolding opened
flashes = refl

-- a phase that is not called waits for nothing, nor does one that is Green, as 2, which is recalled
calls_none : waits_for short 3 ≡ None
unfolding opened
calls_none = refl

serves : waits_for short 2 ≡ None
unfolding opened
serves = refl

-- ## A phase that its ring is committed to

-- both red clearances of 9 ticks are over in the next one
is_due : waits_for at_barrier 3 ≡ Some waits.Due
unfolding opened
is_due = refl

starts : is_started (moves at_barrier all_off) 3 ≡ true
unfolding opened
starts = refl

-- 2 clears for 7 more ticks
abbrev pub slow_own : State
slow_own = record at_barrier { phases = these (2 ∷ []) (clearing 3) (these (6 ∷ []) (clearing 9) all_red) }

clears : waits_for slow_own 3 ≡ Some (waits.Clears 2 7)
unfolding opened
clears = refl

-- 6 does
abbrev pub slow_other : State
slow_other = record at_barrier { phases = these (2 ∷ []) (clearing 9) (these (6 ∷ []) (clearing 3) all_red) }

across : waits_for slow_other 3 ≡ Some (waits.Across 6 7)
unfolding opened
across = refl

-- its red revert of 5 ticks has 15 left
abbrev pub reverts_itself : State
reverts_itself = record at_barrier { phases = these (2 ∷ 6 ∷ []) (clearing 9) (these (3 ∷ []) (reverting 5) all_red) }

reverts : waits_for reverts_itself 3 ≡ Some (waits.RedRevert 15)
unfolding opened
reverts = refl

-- that of 8 has, with which it starts
abbrev pub reverts_beside : State
reverts_beside = record at_barrier { phases = these (2 ∷ 6 ∷ []) (clearing 9) (these (8 ∷ []) (reverting 5) all_red) }

beside : waits_for reverts_beside 3 ≡ Some (waits.Beside 8 15)
unfolding opened
beside = refl

-- ## Any other

-- 8 is omitted in pattern 1
abbrev pub omitting : State
omitting = record (calling (3 ∷ 8 ∷ []) red) { plan = with_value quad SplitMode 8 5; pattern = Some 1 }

omits : waits_for omitting 8 ≡ Some waits.Omitted
unfolding opened
omits = refl

-- preempt 1 is in its dwell, with 3 and 8
abbrev pub preempted : State
preempted = calling (4 ∷ []) (dwelling 1)

preempts : waits_for preempted 4 ≡ Some (waits.Preempted 1)
unfolding opened
preempts = refl

-- ring 1 goes to 3
next : waits_for (calling (4 ∷ []) at_barrier) 4 ≡ Some (waits.Next 3)
unfolding opened
next = refl

-- a crossing to 8 in which ring 1 starts none
abbrev pub crossing_alone : State
crossing_alone = record (calling (1 ∷ 8 ∷ []) red) {
  phases = these (6 ∷ []) (clearing 3) all_red;
  rings = record { last = both (Some 2) (Some 6); commitment = both None (Some 8); side = 1; crossing = Some 2 };
}

crosses : waits_for crossing_alone 1 ≡ Some (waits.Crossing (Some 6))
unfolding opened
crosses = refl

-- 2 clears, and its ring has not looked for the next phase
abbrev pub clearing_to_none : State
clearing_to_none = record (calling (1 ∷ []) red) { phases = these (2 ∷ []) (clearing 3) (these (6 ∷ []) (green 59) all_red) }

clears_first : waits_for clearing_to_none 1 ≡ Some (waits.Clears 2 7)
unfolding opened
clears_first = refl

-- an idle ring, and a phase whose red revert of 5 ticks has 15 left
abbrev pub reverting_1 : State
reverting_1 = record (calling (1 ∷ []) red) { phases = these (1 ∷ []) (reverting 5) all_red }

reverts_1 : waits_for reverting_1 1 ≡ Some (waits.RedRevert 15)
unfolding opened
reverts_1 = refl

-- 3 is on side 2; 2 and 6 have been Green for 9 ticks
at_side_1 : waits_for (calling (3 ∷ []) short) 3 ≡ Some (waits.Barrier (Some 2))
unfolding opened
at_side_1 = refl

-- only 6 has
abbrev pub one_short : State
one_short = record (calling (3 ∷ []) red) { phases = these (2 ∷ []) (green 59) (these (6 ∷ []) (green 9) all_red) }

kept_by_6 : waits_for one_short 3 ≡ Some (waits.Barrier (Some 6))
unfolding opened
kept_by_6 = refl

-- neither lacks anything
is_free : waits_for (calling (3 ∷ []) resting) 3 ≡ Some (waits.Barrier None)
unfolding opened
is_free = refl

-- 1 is on side 1, as 2 is
initial : waits_for (calling (1 ∷ []) short) 1 ≡ Some (waits.Green 2 (lacks.Initial 41))
unfolding opened
initial = refl

-- without the pair 1 and 5: ring 2 serves 5, or is to start it
abbrev pub parted : State
parted = record (calling (1 ∷ []) red) { plan = with_values quad ((PhaseConcurrency, 1, 32) ∷ (PhaseConcurrency, 5, 2) ∷ []) }

abbrev pub beside_5 : State
beside_5 = record parted { phases = these (5 ∷ []) (green 59) all_red }

conflict : waits_for beside_5 1 ≡ Some (waits.Conflict 5)
unfolding opened
conflict = refl

abbrev pub before_5 : State
before_5 = record parted {
  phases = these (6 ∷ []) (clearing 3) all_red;
  rings = record rings.power_up { commitment = both None (Some 5) };
}

conflict_next : waits_for before_5 1 ≡ Some (waits.Conflict 5)
unfolding opened
conflict_next = refl

-- 2 lacks nothing, and 1 is called alone
turn : waits_for (calling (1 ∷ []) resting) 1 ≡ Some waits.Turn
unfolding opened
turn = refl

-- ## What a green lacks

-- in a walk of 9 ticks of 40
walk : waits_for (calling (1 ∷ []) walking) 1 ≡ Some (waits.Green 2 (lacks.Walk 31))
unfolding opened
walk = refl

-- in a pedestrian clearance of 9 ticks of 60
abbrev pub clearing_walk : State
clearing_walk = record (calling (1 ∷ []) red) {
  phases = these (2 ∷ []) (record (green 59) { pedestrian = PedestrianClear; pedestrian_timer = On 9 }) all_red;
}

clearance : waits_for clearing_walk 1 ≡ Some (waits.Green 2 (lacks.Clearance 51))
unfolding opened
clearance = refl

-- a vehicle passed 5 ticks ago, or is passing
abbrev pub passing : Phase → State
passing x = record (calling (1 ∷ []) red) { phases = these (2 ∷ []) x all_red }

gap : waits_for (passing (record (green 59) { passage = On 5; conflict = On 30 })) 1 ≡ Some (waits.Green 2 (lacks.Gap 15))
unfolding opened
gap = refl

gap_whole : waits_for (passing (record (green 59) { passage = Off; conflict = On 30 })) 1 ≡ Some (waits.Green 2 (lacks.Gap 20))
unfolding opened
gap_whole = refl

-- its maximum of 200 has passed
maximum : waits_for (passing (record (green 299) { passage = Off; conflict = On 200 })) 1 ≡ Some waits.Turn
unfolding opened
maximum = refl

-- 2 is coordinated, and its force-off has not come
force_off : waits_for (calling (1 ∷ []) (coordinated 60)) 1 ≡ Some (waits.Green 2 lacks.ForceOff)
unfolding opened
force_off = refl

-- 3 is not coordinated, and is driven; with floating force-off it lacks nothing once its green has lasted 150 ticks
-- less yellow change and red clearance
abbrev pub driven : ℕ → State
driven n = record (coordinated 60) {
  plan = with_value quad CoordForceMode 1 2;
  phases = these (3 ∷ []) (record (green n) { passage = Off; conflict = On 30 }) all_red;
}

before_floating : lack (driven 109) 3 ≡ Some (lacks.Gap 20)
unfolding opened
before_floating = refl

floating : lack (driven 110) 3 ≡ None
unfolding opened
floating = refl

-- or by its maximum in the pattern, once it has had a conflict for 200
abbrev pub pressed : ℕ → State
pressed n = record (driven 400) {
  plan = with_value quad CoordMaximumMode 1 1;
  phases = these (3 ∷ []) (record (green 400) { passage = Off; conflict = On n }) all_red;
}

before_maximum : lack (pressed 199) 3 ≡ Some (lacks.Gap 20)
unfolding opened
before_maximum = refl

maximum_in_pattern : lack (pressed 200) 3 ≡ None
unfolding opened
maximum_in_pattern = refl
