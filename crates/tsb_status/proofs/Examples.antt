-- Computed waits, and a mistake, on the built-in plan of eight phases.
use Rattle.std.specs.Prelude.{◌≡◌, ℕ, true, false, if◌then◌else◌, Option, Some, None, refl}
use Rattle.tsb_step.specs.tsb_cells.declared.timer.Timer.TheVariants.{Off, On}
use Rattle.tsb_step.specs.tsb_types.declared.interval.Interval.TheVariants.{Green}
use Rattle.tsb_step.specs.tsb_types.declared.interval.PedestrianInterval.TheVariants.{DontWalk}
use Rattle.tsb_step.specs.tsb_plan.declared.object.Object.TheVariants.{CoordForceMode, CoordMaximumMode}
use Rattle.tsb_step.specs.tsb_plan.Plan.{Plan, with_value}
use Rattle.tsb_step.specs.tsb_plan.Quad.{quad}
use Rattle.tsb_phase.specs.declared.told.PhaseTimes.{PhaseTimes}
use Rattle.tsb_phase.specs.DynamicMaximum.{maximum_in_use}
use Rattle.tsb_phase.specs.Green.{cars_waiting, gap, initial, is_gapped, reduction_timer}
use Rattle.tsb_phase.specs.Phase.{held_of}
use Rattle.tsb_step.specs.declared.waits.Lack.{Lack}
use Rattle.tsb_step.specs.declared.waits.Lack.TheVariants as lacks
use Rattle.tsb_step.specs.declared.waits.Wait.TheVariants as waits
use Rattle.tsb_status.specs.declared.found.Circumstances.{Circumstances}
use Rattle.tsb_status.specs.declared.found.Next.{Next}
use Rattle.tsb_status.specs.declared.found.RingFound.{RingFound}
use Rattle.tsb_status.specs.declared.found.Served.{Served}
use Rattle.tsb_status.specs.declared.found.Waiting.{Waiting}
use Rattle.tsb_step.specs.declared.status.RingPart.{RingPart}
use Rattle.tsb_step.specs.declared.status.RingPart.TheVariants as parts
use Rattle.tsb_status.specs.declared.rings.PhaseFound.{PhaseFound}
use Rattle.tsb_status.specs.declared.times.GreenFound.{GreenFound}
use Rattle.tsb_status.specs.RingBy.{maximum_by, part_by}
use Rattle.tsb_status.specs.Times.{given_by, phase_by, read_by}
use Rattle.tsb_status.specs.WaitBy.{wait_by}
use Rattle.tsb_step.specs.Waits.{part_lack}

-- a phase that nothing keeps by itself
abbrev waiting : ℕ → Waiting
waiting p = record { phase = p; is_omitted = false; is_reverted = true; red_revert = 0 }

abbrev next : ℕ → Next
next p = record { phase = p; is_reverted = true; red_revert = 0 }

-- a green of 9 ticks of 50, and a red clearance that has 7 left
abbrev short : ℕ → Served
short q = record { phase = q; is_green = true; is_over = false; left = 0; trail = None; lack = Some (lacks.Initial 41) }

abbrev clearing : ℕ → Served
clearing q = record { phase = q; is_green = false; is_over = false; left = 7; trail = None; lack = None }

abbrev green : ℕ → RingFound
green q = record { served = Some (short q); next = None }

abbrev going_to : ℕ → RingFound
going_to c = record { served = None; next = Some (next c) }

-- side 1 is served, and nothing else holds
abbrev around : Circumstances
around = record { tripped = false; service = None; crosses = false; side = 1 }

-- 3 is on side 2, and 1 on side 1
barrier : wait_by quad (waiting 3) (green 2) (green 6) around ≡ waits.Barrier (Some 2)
unfolding quad
barrier = refl

green_2 : wait_by quad (waiting 1) (green 2) (green 6) around ≡ waits.Green 2 (lacks.Initial 41)
unfolding quad
green_2 = refl

-- a crossing to 3 and 8 is under way, and 6 clears
abbrev crossing : Circumstances
crossing = record around { crosses = true }

waits_for_6 : wait_by quad (waiting 3) (going_to 3) (record { served = Some (clearing 6); next = Some (next 8) }) crossing ≡ waits.Across 6 7
unfolding quad
waits_for_6 = refl

due : wait_by quad (waiting 3) (going_to 3) (going_to 8) crossing ≡ waits.Due
unfolding quad
due = refl

-- 6 has cleared, and overlap 3 holds it
abbrev held : ℕ → Served
held q = record (clearing q) { left = 0; trail = Some (3, 55) }

waits_for_3 : wait_by quad (waiting 3) (going_to 3) (record { served = Some (held 6); next = Some (next 8) }) crossing ≡ waits.Trails 6 3 55
unfolding quad
waits_for_3 = refl

-- so does a phase of the same ring
waits_beside_3 : wait_by quad (waiting 5) (record { served = Some (held 6); next = Some (next 5) }) (green 1) around ≡ waits.Trails 6 3 55
unfolding quad
waits_beside_3 = refl

-- ## A mistake: the other ring is left out

abbrev without_other : RingFound
without_other = record { served = None; next = None }

would_be_due : wait_by quad (waiting 3) (going_to 3) without_other crossing ≡ waits.Due
unfolding quad
would_be_due = refl

-- ## Lacks, and a mistake: the timers as the next tick reads them

-- phase 1 has been Green for 49 ticks of 50
abbrev green_of_49 : PhaseTimes
green_of_49 = record {
  interval = Green;
  timer = On 49;
  pedestrian = DontWalk;
  pedestrian_timer = Off;
  passage = On 49;
  conflict = On 9;
  reduction = Off;
  gapped = false;
  forced = false;
  red_revert = Off;
  running_maximum = None;
}

abbrev free : GreenFound
free = record { count = 0; runs = None; service = None; is_held = false; must_end = false }

has_one_left : part_lack quad (given_by free green_of_49) 1 (phase_by green_of_49) DontWalk ≡ Some (lacks.Initial 1)
unfolding quad initial
has_one_left = refl

abbrev lacks_next : PhaseTimes → Option Lack
lacks_next x = part_lack quad (given_by free x) 1 (read_by x) DontWalk

would_have_none : lacks_next green_of_49 ≡ None
unfolding quad initial gap reduction_timer cars_waiting
would_have_none = refl

-- ## The part of a ring, and a mistake: a green without a conflict at its maximum

-- phase 1 has been Green for 59 ticks, and no other waits
abbrev resting_1 : PhaseFound
resting_1 = record { phase = 1; times = record green_of_49 { timer = On 59; passage = On 59; conflict = Off }; found = free; holder = None }

rests : part_by quad resting_1 ≡ parts.GreenRest
unfolding quad initial gap reduction_timer cars_waiting
rests = refl

abbrev resting_part : PhaseFound → RingPart
resting_part q = if is_gapped quad (given_by q.found q.times) q.phase (held_of (phase_by q.times)) then parts.Maximum else parts.Extension

would_be_maximum : resting_part resting_1 ≡ parts.Maximum
unfolding quad initial gap reduction_timer cars_waiting
would_be_maximum = refl

-- ## In a pattern, and mistakes: the maximum of free operation; a force-off by the cycle alone

-- phase 3, with a split of 150, has been Green for 110 ticks in pattern 1, 30 of them with a conflict, and is driven
abbrev pub driven_3 : PhaseFound
driven_3 = record {
  phase = 3;
  times = record green_of_49 { timer = On 110; passage = Off; conflict = On 30 };
  found = record free { runs = Some 1 };
  holder = None;
}

no_maximum : maximum_by quad driven_3 ≡ None
unfolding quad
no_maximum = refl

would_be_told : maximum_by quad (record driven_3 { found = free }) ≡ Some 170
unfolding quad maximum_in_use
would_be_told = refl

maximum_1 : maximum_by (with_value quad CoordMaximumMode 1 1) driven_3 ≡ Some 170
unfolding quad
maximum_1 = refl

abbrev lack_in : Plan → PhaseFound → Option Lack
lack_in plan q = part_lack plan (given_by q.found q.times) q.phase (phase_by q.times) DontWalk

lacks_its_gap : lack_in quad driven_3 ≡ Some (lacks.Gap 20)
unfolding quad initial gap reduction_timer cars_waiting
lacks_its_gap = refl

-- with floating force-off it could have ended
lacks_nothing : lack_in (with_value quad CoordForceMode 1 2) driven_3 ≡ None
unfolding quad initial gap reduction_timer cars_waiting
lacks_nothing = refl
