-- The status of states, by computing, worked by hand from the plan of eight phases: greens last 50 ticks, yellow change
-- 30, red clearance 10, a gap 20, a maximum 200; pattern 1 has a cycle of 800, in which phases 2 and 6 are coordinated.
use Rattle.std.specs.Prelude.{◌≡◌, ℕ, [], ◌∷◌, map, Some, None, refl}
use Rattle.tsb_cells.specs.declared.timer.Timer.{Timer}
use Rattle.tsb_cells.specs.declared.timer.Timer.TheVariants.{Off, On}
use Rattle.tsb_types.specs.declared.interval.Interval.TheVariants.{Yellow}
use Rattle.tsb_types.specs.declared.stage.Stage.TheVariants.{Track}
use Rattle.tsb_types.specs.Events.{numbers_with}
use Rattle.tsb_types.specs.Lists.{among}
use Rattle.tsb_objects.specs.tsb_plan.declared.object.Object.TheVariants.{CoordMaximumMode, PreemptTrackPhase}
use Rattle.tsb_objects.specs.tsb_plan.Plan.{Plan, with_value}
use Rattle.tsb_objects.specs.tsb_plan.Quad.{quad}
use Rattle.tsb_phase.specs.Phase as phase
use Rattle.tsb_preempt.specs.Service.{all_green}
use Rattle.tsb_ring.specs.Rings.{Ring1}
use Rattle.tsb_step.specs.declared.status.FreeStatus.TheVariants.{NotFree, CommandFree}
use Rattle.tsb_step.specs.declared.status.FlashStatus.TheVariants.{Mmu}
use Rattle.tsb_step.specs.declared.status.PreemptState.TheVariants as preempt_states
use Rattle.tsb_step.specs.declared.status.RingPart.{RingPart}
use Rattle.tsb_step.specs.declared.status.RingPart.TheVariants as parts
use Rattle.tsb_step.specs.Events.{view}
use Rattle.tsb_step.specs.State.{State}
use Rattle.tsb_step.specs.Status.{status}
use Rattle.tsb_step.proofs.Examples.Scenes.{all_red, at_barrier, coordinated, dwelling, green, hurrying, red, resting, short, these, walking}
use Rattle.tsb_step.proofs.Examples.WaitExamples as waiting
use Rattle.tsb_step.proofs.Examples.WaitExamples.{calling, passing, tripped}

-- what a computed line opens
unfoldable pub opened : Unit {0}
unfolding waiting.opened status view
opened = waiting.opened

-- ## Sets

-- 2 and 6 are Green, and recalled ones have no call while they are
greens : numbers_with (status short).greens ≡ 2 ∷ 6 ∷ []
unfolding opened
greens = refl

reds : numbers_with (status short).reds ≡ 1 ∷ 3 ∷ 4 ∷ 5 ∷ 7 ∷ 8 ∷ []
unfolding opened
reds = refl

calls : numbers_with (status (calling (3 ∷ []) short)).vehicle_calls ≡ 3 ∷ []
unfolding opened
calls = refl

-- phase 2 alone has a walk
walks : map (λ s. numbers_with (status s).walks) (walking ∷ short ∷ []) ≡ (2 ∷ []) ∷ [] ∷ []
unfolding opened
walks = refl

dont_walks : map (λ s. numbers_with (status s).dont_walks) (walking ∷ short ∷ []) ≡ [] ∷ (2 ∷ []) ∷ []
unfolding opened
dont_walks = refl

-- 2 and 6 clear, and the rings are to start 3 and 8; overlap 1 includes 1 and 2
ons : numbers_with (status at_barrier).phase_ons ≡ 2 ∷ 6 ∷ []
unfolding opened
ons = refl

nexts : numbers_with (status at_barrier).phase_nexts ≡ 3 ∷ 8 ∷ []
unfolding opened
nexts = refl

overlap : map (λ s. numbers_with (status s).overlap_greens) (short ∷ at_barrier ∷ []) ≡ (1 ∷ []) ∷ [] ∷ []
unfolding opened
overlap = refl

overlap_red : map (λ s. numbers_with (status s).overlap_reds) (short ∷ at_barrier ∷ []) ≡ [] ∷ (1 ∷ []) ∷ []
unfolding opened
overlap_red = refl

-- ## In flash

-- all enabled phases are red, none is on, and no ring serves
flash_reds : numbers_with (status tripped).reds ≡ 1 ∷ 2 ∷ 3 ∷ 4 ∷ 5 ∷ 6 ∷ 7 ∷ 8 ∷ []
unfolding opened
flash_reds = refl

flash_ons : numbers_with (status tripped).phase_ons ≡ []
unfolding opened
flash_ons = refl

flashes : (status tripped).flash ≡ Mmu
unfolding opened
flashes = refl

flash_serves : ((status tripped).ring Ring1).phase ≡ None
unfolding opened
flash_serves = refl

-- ## Rings

-- the part of ring 1
abbrev part : State → RingPart
part s = ((status s).ring Ring1).part

-- a green of 9 ticks; one in a walk of 9 of 40; one whose gap has expired, with and without a conflict; one of 59 whose
-- gap has 15 left; a yellow; a red clearance; an idle ring
abbrev yellowing : State
yellowing = record red { phases = these (2 ∷ []) (record phase.at_power_up { interval = Yellow; timer = On 4 }) all_red }

parts_of_ring_1 : map part (short ∷ walking ∷ passing (record (green 59) { conflict = On 30 }) ∷ resting
    ∷ passing (record (green 59) { passage = On 5 }) ∷ yellowing ∷ at_barrier ∷ red ∷ []) ≡
    parts.MinimumGreen ∷ parts.MinimumGreen ∷ parts.Maximum ∷ parts.GreenRest
    ∷ parts.Extension ∷ parts.YellowChange ∷ parts.RedClearance ∷ parts.RedRest ∷ []
unfolding opened
parts_of_ring_1 = refl

-- the status of a green of 59 ticks with a conflict of 30, and a vehicle 5 ticks ago
green_of_59 : (status (passing (record (green 59) { passage = On 5; conflict = On 30 }))).ring Ring1 ≡ record {
  part = parts.Extension;
  phase = Some 2;
  next = None;
  initial_left = Some 0;
  gap = Some 20;
  gap_left = Some 15;
  maximum_left = Some 170;
  walk_left = None;
  clearance_left = None;
  yellow_left = None;
  red_clearance_left = None;
  force_off_in = None;
}
unfolding opened
green_of_59 = refl

-- In pattern 1 the status has the maximum that acts: none without a maximum mode, with mode 1 200 for a phase that is
-- not coordinated, and none for one that is.
abbrev crossed : Plan → State
crossed plan = record (coordinated 60) { plan = plan; phases = these (3 ∷ 8 ∷ []) (record (green 59) { conflict = On 30 }) all_red }

abbrev pressed : State
pressed = record (coordinated 60) {
  plan = with_value quad CoordMaximumMode 1 1;
  phases = these (2 ∷ 6 ∷ []) (record (green 59) { conflict = On 30 }) all_red;
}

maximum_in_pattern : map (λ s. ((status s).ring Ring1).maximum_left) (crossed quad ∷ crossed (with_value quad CoordMaximumMode 1 1) ∷ pressed ∷ []) ≡
    None ∷ Some 170 ∷ None ∷ []
unfolding opened
maximum_in_pattern = refl

-- of a green of 9
initial : ((status short).ring Ring1).initial_left ≡ Some 41
unfolding opened
initial = refl

-- of a walk of 9 of 40
walk : ((status walking).ring Ring1).walk_left ≡ Some 31
unfolding opened
walk = refl

-- of a yellow of 4 of 30, and a red clearance of 9 of 10
yellow : ((status yellowing).ring Ring1).yellow_left ≡ Some 26
unfolding opened
yellow = refl

red_clearance : ((status at_barrier).ring Ring1).red_clearance_left ≡ Some 1
unfolding opened
red_clearance = refl

next : ((status at_barrier).ring Ring1).next ≡ Some 3
unfolding opened
next = refl

-- ## Coordination

-- at tick 60 the local counter is 60. The coordinated split ends at local 0, and clears for 40: forced off at 760
pattern : (status (coordinated 60)).pattern ≡ 1
unfolding opened
pattern = refl

free : map (λ s. (status s).free) (coordinated 60 ∷ resting ∷ []) ≡ NotFree ∷ CommandFree ∷ []
unfolding opened
free = refl

free_is_254 : (status resting).pattern ≡ 254
unfolding opened
free_is_254 = refl

local : (status (coordinated 60)).local ≡ Some 60
unfolding opened
local = refl

sync : map (λ s. (status s).sync) (coordinated 860 ∷ resting ∷ []) ≡ Some 60 ∷ None ∷ []
unfolding opened
sync = refl

force_off_in : ((status (coordinated 60)).ring Ring1).force_off_in ≡ Some 700
unfolding opened
force_off_in = refl

is_forced_now : ((status (coordinated 760)).ring Ring1).force_off_in ≡ Some 0
unfolding opened
is_forced_now = refl

-- while it comes into step, from 50 on in two steps a tick, the status has the local counter as it is, and steps
local_meanwhile : map (λ n. (status (hurrying 60 (coordinated n))).local) (60 ∷ 61 ∷ 70 ∷ 71 ∷ []) ≡ Some 50 ∷ Some 52 ∷ Some 70 ∷ Some 71 ∷ []
unfolding opened
local_meanwhile = refl

force_off_in_steps : map (λ n. ((status (hurrying 60 (coordinated n))).ring Ring1).force_off_in) (60 ∷ 61 ∷ 70 ∷ []) ≡ Some 710 ∷ Some 708 ∷ Some 690 ∷ []
unfolding opened
force_off_in_steps = refl

sync_meanwhile : (status (hurrying 60 (coordinated 60))).sync ≡ Some 60
unfolding opened
sync_meanwhile = refl

-- ## Preempts

-- preempt 1 is in its dwell, and the input of 2 is on
abbrev called_2 : State
called_2 = record (dwelling 1) { preempts = record (dwelling 1).preempts { switch = λ n. among n (2 ∷ []) } }

preempt : map (status called_2).preempt (1 ∷ 2 ∷ 3 ∷ []) ≡
    preempt_states.Dwell ∷ preempt_states.NotActiveWithCall ∷ preempt_states.NotActive ∷ []
unfolding opened
preempt = refl

-- its dwell has begun, while 2 and 6 are Green: it enters
enters : (status (record resting { preempts = (dwelling 1).preempts })).preempt 1 ≡ preempt_states.EntryStarted
unfolding opened all_green
enters = refl

-- it has a track stage with these phases, whose timer is this
abbrev tracking : ℕ → Timer → State
tracking list timer = record resting {
  plan = with_value quad PreemptTrackPhase 1 list;
  preempts = record (dwelling 1).preempts {
    service = Some (record { preempt = 1; stage = Track; timer = On 9; stage_timer = timer });
  };
}

-- of 3 and 8 it enters; of 2 and 6, which are Green, its track is served, also before the timer runs; and the same once
-- it has run
tracks : map (λ s. (status s).preempt 1) (tracking 132 Off ∷ tracking 34 Off ∷ tracking 132 (On 3) ∷ []) ≡
    preempt_states.EntryStarted ∷ preempt_states.TrackService ∷ preempt_states.TrackService ∷ []
unfolding opened all_green
tracks = refl

-- 2 is spent: its input is still on
is_spent : (status (record called_2 { preempts = record called_2.preempts { spent = λ n. among n (2 ∷ []) } })).preempt 2 ≡ preempt_states.MaxPresence
unfolding opened
is_spent = refl
