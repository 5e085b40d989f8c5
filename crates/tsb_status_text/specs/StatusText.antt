-- The line of a status: one JSON object, in ASCII, without spaces and without a line feed. Its names are those of NTCIP
-- 1202, group by group: `reds` of `phaseStatusGroup` is phaseStatusGroupReds. A set is the list of its numbers, what is
-- none is null, times are in tenths of a second, and numbers of phases, detectors and preempts begin with 1.
use Rattle.tsb_types.specs.declared.limits.TheConstants.{OVERLAPS, PREEMPTS, VEHICLE_DETECTORS}
use Rattle.tsb_types.specs.Lists.{run_from}
use Rattle.std.specs.Prelude.{ℕ, ◌-◌, Bool, true, false, if◌then◌else◌, List, [], ◌∷◌, Option, Some, None, option_map, codes, decimal}
use Rattle.std.specs.List.{list_all}
use Rattle.tsb_step.specs.tsb_ring.Rings.{Ring, Ring1, Ring2}
use Rattle.tsb_step.specs.declared.status.PreemptState.{PreemptState}
use Rattle.tsb_step.specs.declared.status.PreemptState.TheVariants as preempt_states
use Rattle.tsb_step.specs.declared.waits.Lack.{Lack}
use Rattle.tsb_step.specs.declared.waits.Lack.TheVariants as lacks
use Rattle.tsb_step.specs.declared.waits.Wait.{Wait}
use Rattle.tsb_step.specs.declared.waits.Wait.TheVariants as waits
use Rattle.tsb_step.specs.Status.{RingStatus, Status}
use Rattle.tsb_status_text.specs.Json.{string, array, member, more, object, optional, numbers, values_from}
use Rattle.tsb_status_text.specs.Names.{part_name, preempt_name, free_name, flash_name, desk_name}

-- ## Groups

-- phaseStatusGroup: Reds, Yellows, Greens, DontWalks, PedClears, Walks, VehCalls, PedCalls, PhaseOns, PhaseNexts
unfoldable pub phases_text : Status → List ℕ
phases_text s = object (
    member (codes "reds") (numbers s.reds 16)
    ∷ member (codes "yellows") (numbers s.yellows 16)
    ∷ member (codes "greens") (numbers s.greens 16)
    ∷ member (codes "dontWalks") (numbers s.dont_walks 16)
    ∷ member (codes "pedClears") (numbers s.pedestrian_clears 16)
    ∷ member (codes "walks") (numbers s.walks 16)
    ∷ member (codes "vehCalls") (numbers s.vehicle_calls 16)
    ∷ member (codes "pedCalls") (numbers s.pedestrian_calls 16)
    ∷ member (codes "phaseOns") (numbers s.phase_ons 16)
    ∷ member (codes "phaseNexts") (numbers s.phase_nexts 16)
    ∷ [])

-- the arrows that flash yellow, where the plan has an arrow
abbrev pub arrows_member : Option (ℕ → Bool) → List (List ℕ)
arrows_member None = []
arrows_member (Some arrows) = member (codes "flashingYellows") (numbers arrows OVERLAPS) ∷ []

-- overlapStatusGroup: Reds, Yellows, Greens
unfoldable pub overlaps_text : Status → List ℕ
overlaps_text s = object (
    member (codes "reds") (numbers s.overlap_reds OVERLAPS)
    ∷ member (codes "yellows") (numbers s.overlap_yellows OVERLAPS)
    ∷ member (codes "greens") (numbers s.overlap_greens OVERLAPS)
    ∷ arrows_member s.overlap_arrows)

-- vehicleDetectorStatusGroup: Active, Alarms
unfoldable pub detectors_text : Status → List ℕ
detectors_text s = object (
    member (codes "active") (numbers s.active VEHICLE_DETECTORS)
    ∷ member (codes "alarms") (numbers s.alarms VEHICLE_DETECTORS)
    ∷ [])

-- the state of a preempt that is not in service, and has no call
abbrev pub is_not_active : PreemptState → Bool
is_not_active preempt_states.NotActive = true
is_not_active state = false

-- how many preempts a line has: 4, and all of them where one of the others is active
abbrev pub shown_preempts : (ℕ → PreemptState) → ℕ
shown_preempts preempt = if list_all (λ n. is_not_active (preempt n)) (run_from 5 (PREEMPTS - 4)) then 4 else PREEMPTS

-- the name of a preempt's state
abbrev pub state_text : (ℕ → PreemptState) → ℕ → Option (List ℕ)
state_text preempt n = Some (string (preempt_name (preempt n)))

-- preemptState of so many preempts
unfoldable pub preempts_text : (ℕ → PreemptState) → List ℕ
preempts_text preempt = array (values_from (state_text preempt) 1 (shown_preempts preempt))

-- the desk: the station that owns it, and how far its transaction is
unfoldable pub desk_text : Status → List ℕ
desk_text s = object (
    member (codes "owner") (optional s.owner)
    ∷ member (codes "state") (string (desk_name s.desk))
    ∷ [])

-- a ring: ringStatus, the phase in service, the one that it starts next, and its times
unfoldable pub ring_text : RingStatus → List ℕ
ring_text x = object (
    member (codes "ringStatus") (string (part_name x.part))
    ∷ member (codes "phase") (optional x.phase)
    ∷ member (codes "next") (optional x.next)
    ∷ member (codes "initialLeft") (optional x.initial_left)
    ∷ member (codes "gap") (optional x.gap)
    ∷ member (codes "gapLeft") (optional x.gap_left)
    ∷ member (codes "maximumLeft") (optional x.maximum_left)
    ∷ member (codes "walkLeft") (optional x.walk_left)
    ∷ member (codes "clearanceLeft") (optional x.clearance_left)
    ∷ member (codes "yellowLeft") (optional x.yellow_left)
    ∷ member (codes "redClearanceLeft") (optional x.red_clearance_left)
    ∷ member (codes "forceOffIn") (optional x.force_off_in)
    ∷ [])

-- rings 1 and 2
unfoldable pub rings_text : (Ring → RingStatus) → List ℕ
rings_text ring = array (ring_text (ring Ring1) ∷ ring_text (ring Ring2) ∷ [])

-- ## Waits

-- the name of what is lacking
abbrev pub lack_name : Lack → List ℕ
lack_name (lacks.Walk left) = codes "walk"
lack_name (lacks.Clearance left) = codes "clearance"
lack_name (lacks.Initial left) = codes "initial"
lack_name lacks.ForceOff = codes "forceOff"
lack_name (lacks.Gap left) = codes "gap"

-- the time that is left of it
abbrev pub lack_time : Lack → Option ℕ
lack_time (lacks.Walk left) = Some left
lack_time (lacks.Clearance left) = Some left
lack_time (lacks.Initial left) = Some left
lack_time lacks.ForceOff = None
lack_time (lacks.Gap left) = Some left

-- it, where it has a time
abbrev pub left_members : Option ℕ → List (List ℕ)
left_members None = []
left_members (Some left) = member (codes "left") (decimal left) ∷ []

-- what is lacking, with the time that is left of it
abbrev pub lack_members : Lack → List (List ℕ)
lack_members lack = member (codes "lack") (string (lack_name lack)) ∷ left_members (lack_time lack)

-- the name of a wait
abbrev pub wait_name : Wait → List ℕ
wait_name waits.Flash = codes "flash"
wait_name waits.Omitted = codes "omitted"
wait_name (waits.Preempted n) = codes "preempted"
wait_name (waits.RedRevert left) = codes "redRevert"
wait_name (waits.Next q) = codes "next"
wait_name (waits.Clears q left) = codes "clears"
wait_name (waits.Across q left) = codes "across"
wait_name (waits.Beside q left) = codes "beside"
wait_name waits.Due = codes "due"
wait_name (waits.Crossing q) = codes "crossing"
wait_name (waits.Barrier q) = codes "barrier"
wait_name (waits.Green q lack) = codes "green"
wait_name (waits.Conflict q) = codes "conflict"
wait_name waits.Turn = codes "turn"
wait_name (waits.Trails q o left) = codes "trails"

-- its parts: the preempt, the phase that is waited for, what that one lacks or the overlap that holds it, and the time
-- that is left
abbrev pub wait_members : Wait → List (List ℕ)
wait_members waits.Flash = []
wait_members waits.Omitted = []
wait_members (waits.Preempted n) = member (codes "preempt") (decimal n) ∷ []
wait_members (waits.RedRevert left) = member (codes "left") (decimal left) ∷ []
wait_members (waits.Next q) = member (codes "of") (decimal q) ∷ []
wait_members (waits.Clears q left) = member (codes "of") (decimal q) ∷ member (codes "left") (decimal left) ∷ []
wait_members (waits.Across q left) = member (codes "of") (decimal q) ∷ member (codes "left") (decimal left) ∷ []
wait_members (waits.Beside q left) = member (codes "of") (decimal q) ∷ member (codes "left") (decimal left) ∷ []
wait_members waits.Due = []
wait_members (waits.Crossing q) = member (codes "of") (optional q) ∷ []
wait_members (waits.Barrier q) = member (codes "of") (optional q) ∷ []
wait_members (waits.Green q lack) = member (codes "of") (decimal q) ∷ lack_members lack
wait_members (waits.Conflict q) = member (codes "of") (decimal q) ∷ []
wait_members waits.Turn = []
wait_members (waits.Trails q o left) =
    member (codes "of") (decimal q) ∷ member (codes "overlap") (decimal o) ∷ member (codes "left") (decimal left) ∷ []

-- what phase p waits for
unfoldable pub wait_text : ℕ → Wait → List ℕ
wait_text p w = object (member (codes "phase") (decimal p) ∷ member (codes "for") (string (wait_name w)) ∷ wait_members w)

-- what phase p waits for, if it does
abbrev pub wait_in : (ℕ → Option Wait) → ℕ → Option (List ℕ)
wait_in wait p = option_map (wait_text p) (wait p)

-- of each phase that waits, in ascending order
unfoldable pub waits_text : (ℕ → Option Wait) → List ℕ
waits_text wait = array (values_from (wait_in wait) 1 16)

-- ## The clock

-- globalTime, where a clock is set
abbrev pub time_member : Option ℕ → List (List ℕ)
time_member None = []
time_member (Some n) = member (codes "globalTime") (decimal n) ∷ []

-- it, if there is one, and the end of the line
abbrev pub end_text : Option ℕ → List ℕ
end_text time = more (time_member time) 125

-- ## The line

-- the line of a status: a member for each group of status objects, and one for what phases wait for
unfoldable pub status_text : Status → List ℕ
status_text s = object (
    member (codes "tick") (decimal s.now)
    ∷ member (codes "phaseStatusGroup") (phases_text s)
    ∷ member (codes "overlapStatusGroup") (overlaps_text s)
    ∷ member (codes "vehicleDetectorStatusGroup") (detectors_text s)
    ∷ member (codes "preemptState") (preempts_text s.preempt)
    ∷ member (codes "coordPatternStatus") (decimal s.pattern)
    ∷ member (codes "localFreeStatus") (string (free_name s.free))
    ∷ member (codes "localCounter") (optional s.local)
    ∷ member (codes "coordSyncStatus") (optional s.sync)
    ∷ member (codes "unitFlashStatus") (string (flash_name s.flash))
    ∷ member (codes "desk") (desk_text s)
    ∷ member (codes "rings") (rings_text s.ring)
    ∷ member (codes "waits") (waits_text s.wait)
    ∷ time_member s.time)
