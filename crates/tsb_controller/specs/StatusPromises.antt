-- What the calls of `Controller` for its status ensure, over its rows.
use Rattle.std.specs.Prelude.{◌≡◌, ◌==◌, ℕ, ◌-◌, ◌≤◌, Bool, ◌&&◌, if◌then◌else◌, List, Option, Some, None, is_some, get_or}
use Rattle.tsb_step.specs.tsb_types.declared.limits.TheConstants.{PREEMPTS}
use Rattle.tsb_step.specs.tsb_types.declared.number_set.NumberSet.{NumberSet}
use Rattle.tsb_step.specs.tsb_types.declared.phase_set.PhaseSet.{PhaseSet}
use Rattle.tsb_step.specs.tsb_types.Clip.{Agree}
use Rattle.tsb_step.specs.tsb_types.declared.stage.Stage.{Stage}
use Rattle.tsb_step.specs.tsb_types.Intervals.{in_service, is_green}
use Rattle.tsb_step.specs.tsb_types.Sets.{has, has_number}
use Rattle.tsb_step.specs.tsb_plan.Plan.{Plan}
use Rattle.tsb_step.specs.tsb_plan.Running.{running}
use Rattle.tsb_coord.specs.Cells.{pattern_in, correction_in}
use Rattle.tsb_coord.specs.Coordinated.{force_off}
use Rattle.tsb_coord.specs.Correction.{local_now}
use Rattle.tsb_phase.specs.Cells.{phase_in}
use Rattle.tsb_preempt.specs.Promises.{entered_of}
use Rattle.tsb_ring.specs.Rings.{Ring, Ring1, Ring2, ring_numbered}
use Rattle.tsb_step.specs.declared.status.PreemptState.{PreemptState}
use Rattle.tsb_step.specs.declared.status.PreemptState.TheVariants.{NotActive}
use Rattle.tsb_step.specs.declared.waits.Wait.{Wait}
use Rattle.tsb_step.specs.Cells.{clock_at}
use Rattle.tsb_step.specs.Events.{is_overlap, shown_interval, view}
use Rattle.tsb_step.specs.Signs.{display}
use Rattle.tsb_step.specs.State.{State, interval}
use Rattle.tsb_step.specs.Status.{force_off_from, idle_state, is_held, is_red, is_red_head, preempt_state, state_in, status}
use Rattle.tsb_step.specs.Waits.{is_unwanted, is_waiting, served, wait}
use Rattle.tsb_events.specs.declared.seen.Seen.{Seen}
use Rattle.tsb_events.specs.Agree.{AgreeInAll}
use Rattle.tsb_events.specs.Seen.{view_of}
use Rattle.tsb_status.specs.declared.found.Circumstances.{Circumstances}
use Rattle.tsb_status.specs.declared.found.Next.{Next}
use Rattle.tsb_status.specs.declared.found.RingFound.{RingFound}
use Rattle.tsb_status.specs.declared.found.Service.{Service}
use Rattle.tsb_status.specs.declared.rings.PhaseFound.{PhaseFound}
use Rattle.tsb_status.specs.declared.status.RingStatus.{RingStatus}
use Rattle.tsb_status.specs.declared.status.Status.{Status}
use Rattle.tsb_status.specs.declared.times.GreenFound.{GreenFound}
use Rattle.tsb_status.specs.Alike.{Alike}
use Rattle.tsb_status.specs.Plain.{status_of}
use Rattle.tsb_status.specs.RingBy.{ring_by}
use Rattle.tsb_status.specs.RingFound.{IsFound, IsPhaseFound}
use Rattle.tsb_status.specs.TimesFound.{IsGreenFound}
use Rattle.tsb_status.specs.WaitFound.{IsAround, IsInService, IsNext, IsRing}
use Rattle.tsb_controller.specs.declared.found.RingTold.{RingTold}
use Rattle.tsb_controller.specs.declared.found.RingsTold.{RingsTold}
use Rattle.tsb_controller.specs.declared.status.Beside.{Beside as Told}
use Rattle.tsb_controller.specs.declared.status.PatternTold.{PatternTold}
use Rattle.tsb_controller.specs.declared.status.Sets.{Sets}
use Rattle.tsb_controller.specs.declared.waits.WaitsFound.{WaitsFound}
use Rattle.tsb_controller.specs.Rows.{Rows, Beside, state_of}

-- ## A phase

-- phase p is outside the stage of the preempt in service, at whatever tick
abbrev pub TellsUnwanted : Plan → Rows → ℕ → Bool → Type 0
TellsUnwanted plan rows p result = (now : ℕ) (b : Beside) → b.plan ≡ plan → result ≡ is_unwanted (state_of now b rows) p

-- what the green of phase p depends on, at whatever tick
abbrev pub TellsGreenFound : Plan → Rows → ℕ → GreenFound → Type 0
TellsGreenFound plan rows p result = (now : ℕ) (b : Beside) → b.plan ≡ plan → IsGreenFound (state_of now b rows) p result

-- phase p as its status has it, with what its green depends on, where the timers are read at tick `clock`
abbrev pub TellsPhaseFound : ℕ → Plan → Rows → ℕ → PhaseFound → Type 0
TellsPhaseFound clock plan rows p result = (now : ℕ) (b : Beside) → b.plan ≡ plan → clock_at now b.trip ≡ clock →
    IsPhaseFound (state_of now b rows) p result

-- ## A ring

-- the phases in service
abbrev pub TellsInService : Rows → PhaseSet → Type 0
TellsInService rows result = (now p : ℕ) → 1 ≤ p → p ≤ 16 → has result p ≡ in_service (phase_in now rows.phases p).interval

-- the phase in service of ring number r
abbrev pub TellsServed : ℕ → Plan → Rows → ℕ → Option PhaseFound → Type 0
TellsServed clock plan rows r result = (now : ℕ) (b : Beside) → b.plan ≡ plan → clock_at now b.trip ≡ clock →
    IsFound (state_of now b rows) (served (state_of now b rows) (ring_numbered r)) result

-- a phase that a ring starts next, as waits need it
abbrev pub TellsNext : ℕ → Plan → Rows → Option ℕ → Option Next → Type 0
TellsNext clock plan rows next result = (now : ℕ) (b : Beside) → b.plan ≡ plan → clock_at now b.trip ≡ clock →
    IsNext (state_of now b rows) next result

-- what a ring is, in a state
pub record IsToldRing (s : State) (r : Ring) (x : RingTold) : Type 0 where
  pub served : IsFound s (served s r) x.served
  pub next : x.next ≡ s.rings.commitment r

-- ring number r
abbrev pub TellsRing : ℕ → Plan → Rows → ℕ → RingTold → Type 0
TellsRing clock plan rows r result = (now : ℕ) (b : Beside) → b.plan ≡ plan → clock_at now b.trip ≡ clock →
    IsToldRing (state_of now b rows) (ring_numbered r) result

-- both rings, in a state
pub record AreToldRings (s : State) (x : RingsTold) : Type 0 where
  pub first : IsToldRing s Ring1 x.first
  pub second : IsToldRing s Ring2 x.second

-- at whatever tick
abbrev pub TellsRings : ℕ → Plan → Rows → RingsTold → Type 0
TellsRings clock plan rows result = (now : ℕ) (b : Beside) → b.plan ≡ plan → clock_at now b.trip ≡ clock → AreToldRings (state_of now b rows) result

-- a ring as waits need it
abbrev pub TellsRingFound : ℕ → Plan → Rows → RingTold → RingFound → Type 0
TellsRingFound clock plan rows ring result = (now : ℕ) (b : Beside) (r : Ring) → b.plan ≡ plan → clock_at now b.trip ≡ clock →
    IsToldRing (state_of now b rows) r ring → IsRing (state_of now b rows) r result

-- until the local counter is at the force-off instant of this phase
abbrev pub force_off_by : Plan → ℕ → Rows → Option PhaseFound → Option ℕ
force_off_by plan now rows None = None
force_off_by plan now rows (Some q) =
    if is_green q.times.interval
    then force_off_from plan (running plan (pattern_in rows.pattern)) (local_now plan (pattern_in rows.pattern) (correction_in rows.pattern) now)
    (force_off plan (running plan (pattern_in rows.pattern)) q.phase)
    else None

-- this is beside the rows
pub record StandsBeside (plan : Plan) (told : Told) (b : Beside) : Type 0 where
  pub plan_is : b.plan ≡ plan
  pub clock_is : clock_at told.tick b.trip ≡ told.clock
  pub trips : is_some b.trip ≡ told.tripped
  pub owner_is : b.desk.owner ≡ told.owner
  pub desk_is : b.desk.state ≡ told.desk

-- the phase that a status gives for a ring: none in flash
abbrev pub shown_of : Told → RingTold → Option PhaseFound
shown_of told ring = if told.tripped then None else ring.served

-- the status of this ring
abbrev pub ring_status_by : Plan → Told → Rows → RingTold → RingStatus
ring_status_by plan told rows ring = ring_by plan ring.next (shown_of told ring) (force_off_by plan told.tick rows (shown_of told ring))

-- ## Waits

-- the preempt in service, as phase p needs it
abbrev pub TellsService : Plan → Rows → Option Service → Type 0
TellsService plan rows result = (now : ℕ) (b : Beside) (p : ℕ) → b.plan ≡ plan →
    IsInService (state_of now b rows) p (state_of now b rows).preempts.service result

-- what holds of all phases, as phase p needs it
abbrev pub TellsAround : Bool → Plan → Rows → Circumstances → Type 0
TellsAround tripped plan rows result = (now : ℕ) (b : Beside) (p : ℕ) → b.plan ≡ plan → is_some b.trip ≡ tripped →
    IsAround (state_of now b rows) p result

-- the rings and what holds of all phases, of a state
pub record AreFoundWaits (s : State) (x : WaitsFound) : Type 0 where
  pub first : IsRing s Ring1 x.first
  pub second : IsRing s Ring2 x.second
  pub around : (p : ℕ) → IsAround s p x.around

-- what phase p waits for
abbrev pub TellsWait : WaitsFound → ℕ → Plan → Rows → ℕ → Wait → Type 0
TellsWait found clock plan rows p result = (now : ℕ) (b : Beside) → b.plan ≡ plan → clock_at now b.trip ≡ clock → AreFoundWaits (state_of now b rows) found →
    wait (state_of now b rows) p ≡ Some result

-- if it is in a set
abbrev pub TellsWaitIn : NumberSet → WaitsFound → ℕ → Plan → Rows → ℕ → Option Wait → Type 0
TellsWaitIn waiting found clock plan rows p result = (now : ℕ) (b : Beside) → b.plan ≡ plan → clock_at now b.trip ≡ clock →
    AreFoundWaits (state_of now b rows) found → result ≡ (if has_number waiting p then wait (state_of now b rows) p else None)

-- each phase in turn
abbrev pub AreWaits : NumberSet → WaitsFound → ℕ → Plan → Rows → List (Option Wait) → Type 0
AreWaits waiting found clock plan rows result = (p : ℕ) → 1 ≤ p → p ≤ 16 → TellsWaitIn waiting found clock plan rows p (get_or result (p - 1) None)

-- each phase in turn, with both rings given
abbrev pub AreWaitsOf : NumberSet → RingsTold → Told → Plan → Rows → List (Option Wait) → Type 0
AreWaitsOf waiting rings told plan rows result = (b : Beside) → StandsBeside plan told b → AreToldRings (state_of told.tick b rows) rings →
    (p : ℕ) → 1 ≤ p → p ≤ 16 → get_or result (p - 1) None ≡ (if has_number waiting p then wait (state_of told.tick b rows) p else None)

-- ## Sets

-- the sets of a state
pub record AreSets (s : State) (x : Sets) : Type 0 where
  pub reds : Agree (has_number x.reds) (is_red s)
  pub dont_walks : Agree (has_number x.dont_walks) (is_held s)
  pub phase_ons : Agree (has_number x.phase_ons) (λ p. in_service (shown_interval s p))
  pub overlap_reds : Agree (has_number x.overlap_reds) (λ o. is_overlap o && is_red_head ((display s).overlap o))
  pub waiting : Agree (has_number x.waiting) (is_waiting s)

-- beside what the log sees
abbrev pub TellsSets : Seen → Plan → Rows → Sets → Type 0
TellsSets seen plan rows result = (now : ℕ) (b : Beside) → b.plan ≡ plan → AgreeInAll (view_of seen) (view (state_of now b rows)) →
    AreSets (state_of now b rows) result

-- the stage of preempt n, if it is the one in service
abbrev pub stage_by : Option (ℕ × Stage) → ℕ → Option Stage
stage_by None n = None
stage_by (Some (m, k)) n = if m == n then Some k else None

-- `preemptState` of a preempt by its stage, if it is the one in service
abbrev pub state_by : Bool → Bool → Bool → Option Stage → PreemptState
state_by entered spent called None = idle_state spent called
state_by entered spent called (Some k) = state_in entered k

-- `preemptState` of preempt n, where the one in service has entered or not, at whatever tick
abbrev pub TellsPreempt : Bool → Rows → ℕ → PreemptState → Type 0
TellsPreempt entered rows n result = (now : ℕ) (b : Beside) →
    entered ≡ entered_of b.plan (interval (state_of now b rows)) (state_of now b rows).preempts.service →
    result ≡ preempt_state (state_of now b rows) (state_of now b rows).preempts.service n

-- of each preempt in turn
abbrev pub TellsPreempts : Plan → Rows → List PreemptState → Type 0
TellsPreempts plan rows result = (n : ℕ) → 1 ≤ n → n ≤ PREEMPTS → (now : ℕ) (b : Beside) → b.plan ≡ plan →
    get_or result (n - 1) NotActive ≡ preempt_state (state_of now b rows) (state_of now b rows).preempts.service n

-- ## The pattern that runs

-- its status, in a state
pub record IsToldPattern (s : State) (x : PatternTold) : Type 0 where
  pub number : x.number ≡ (status s).pattern
  pub free : x.free ≡ (status s).free
  pub local : x.local ≡ (status s).local
  pub sync : x.sync ≡ (status s).sync
  pub time : x.time ≡ (status s).time

-- at tick number `now`
abbrev pub TellsPattern : ℕ → Plan → Rows → PatternTold → Type 0
TellsPattern now plan rows result = (b : Beside) → b.plan ≡ plan → IsToldPattern (state_of now b rows) result

-- ## All

-- `status(beside, plan)`
abbrev pub TellsStatus : Told → Plan → Rows → Status → Type 0
TellsStatus told plan rows result = (b : Beside) → StandsBeside plan told b → Alike (status_of result) (status (state_of told.tick b rows))
