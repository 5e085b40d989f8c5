-- What holds of the waits of phases: what each says of the state, and that it keeps the phase from turning Green in the
-- next tick, whatever inputs are on in it. Each law here is the contract of a function in src/wait_laws.rt, and proved
-- there.
use Rattle.std.specs.Prelude.{◌≡◌, ℕ, ◌==◌, Bool, true, false, not, ◌&&◌, ◌||◌, Some, None, is_some, IfSome, ◌⊎◌}
use Rattle.tsb_cells.specs.Timer.{has_reached}
use Rattle.tsb_types.specs.declared.row.Row.{Row}
use Rattle.tsb_types.specs.declared.stage.Stage.{Stage}
use Rattle.tsb_types.specs.Intervals.{is_green, is_dont_walk}
use Rattle.tsb_objects.specs.tsb_plan.Plan.{is_concurrent, side_of}
use Rattle.tsb_phase.specs.Pedestrian.{ended_by, pedestrian_now}
use Rattle.tsb_phase.specs.Ready.{may_end}
use Rattle.tsb_preempt.specs.Promises.{stage_of}
use Rattle.tsb_preempt.specs.Service.{stage_phases}
use Rattle.tsb_ring.specs.Moves.{is_ended, is_started}
use Rattle.tsb_ring.specs.Rings.{other, own_ring}
use Rattle.tsb_step.specs.declared.inputs.Input.TheVariants.{Tick}
use Rattle.tsb_step.specs.declared.waits.Lack.{Lack}
use Rattle.tsb_step.specs.declared.waits.Lack.TheVariants as lacks
use Rattle.tsb_step.specs.declared.waits.Wait.{Wait}
use Rattle.tsb_step.specs.declared.waits.Wait.TheVariants as waits
use Rattle.tsb_step.specs.Laws.{OfEveryRun}
use Rattle.tsb_step.specs.Signs.{stage}
use Rattle.tsb_step.specs.State.{State, interval}
use Rattle.tsb_step.specs.Step.{step}
use Rattle.tsb_step.specs.Tick.{new_service, target, phases_given, phase_read, moves, ready, omitted, next}
use Rattle.tsb_step.specs.Waits.{until_over, red_revert_left, time_to_last, lack, served, holds_next, held_left, is_cleared_next, is_over_next, is_reverted_next, is_committed, waits_for}

-- ## What a wait says of the state

-- p is on another side than the one that is served, and the phase that is named, if one is, keeps the barrier from being
-- crossed: the other ring starts it next, or it is Green, in service in either ring, and lacked something
pub data Keeps (s : State) (p q : ℕ) : Type 0 where
  committed : s.rings.commitment (other (own_ring s.plan p)) ≡ Some q → Keeps s p q
  here : served s (own_ring s.plan p) ≡ Some q → is_green (interval s q) ≡ true → is_some (lack s q) ≡ true → Keeps s p q
  across : served s (other (own_ring s.plan p)) ≡ Some q → is_green (interval s q) ≡ true → is_some (lack s q) ≡ true → Keeps s p q

-- a preempt is in service, in a stage that does not have p
pub record IsOutside (s : State) (n p : ℕ) : Type 0 where
  pub stage : Stage
  pub serves : stage_of s.preempts.service ≡ Some (n, stage)
  pub outside : stage_phases s.plan n stage p ≡ false

-- a phase of the ring of p is in service: it is not over, or the ring is not committed to any
pub record IsClearing (s : State) (p q : ℕ) : Type 0 where
  pub serves : served s (own_ring s.plan p) ≡ Some q
  pub clears : (is_over_next s q && is_some (s.rings.commitment (own_ring s.plan p))) ≡ false

-- a phase of the other ring is in service and not over, and does not go with p, or a crossing is under way
pub record IsInTheWay (s : State) (p q : ℕ) : Type 0 where
  pub serves : served s (other (own_ring s.plan p)) ≡ Some q
  pub clears : is_over_next s q ≡ false
  pub apart : (is_some s.rings.crossing || not (is_concurrent s.plan p q)) ≡ true

-- the clearance of q is done in the next tick, and overlap o holds q, which trails, for this time at most
pub record IsHeldBy (s : State) (q o n : ℕ) : Type 0 where
  pub cleared : is_cleared_next s q ≡ true
  pub holds : holds_next s q o ≡ true
  pub left : n ≡ held_left s o

-- p starts in a crossing together with a phase of the other ring whose red revert has not passed
pub record StartsBeside (s : State) (p c : ℕ) : Type 0 where
  pub crosses : is_some s.rings.crossing ≡ true
  pub beside : s.rings.commitment (other (own_ring s.plan p)) ≡ Some c
  pub reverts : is_reverted_next s c ≡ false

-- a phase of the ring of p is Green, and this is what it lacked in the last tick; the ring is not committed to any
pub record IsLacking (s : State) (p q : ℕ) (l : Lack) : Type 0 where
  pub free : s.rings.commitment (own_ring s.plan p) ≡ None
  pub serves : served s (own_ring s.plan p) ≡ Some q
  pub green : is_green (interval s q) ≡ true
  pub lacks : lack s q ≡ Some l

-- the other ring serves q, or starts it next, and it is not concurrent with p
pub record IsConflict (s : State) (p q : ℕ) : Type 0 where
  pub there : (served s (other (own_ring s.plan p)) ≡ Some q) ⊎ (s.rings.commitment (other (own_ring s.plan p)) ≡ Some q)
  pub apart : is_concurrent s.plan p q ≡ false

-- what it means that p waits for this
abbrev pub IsKept : State → ℕ → Wait → Type 0
IsKept s p waits.Flash = is_some s.trip ≡ true
IsKept s p waits.Omitted = (is_committed s p ≡ false) × (omitted s p ≡ true)
IsKept s p (waits.Preempted n) = (is_committed s p ≡ false) × IsOutside s n p
IsKept s p (waits.RedRevert n) = (is_reverted_next s p ≡ false) × (n ≡ red_revert_left s p)
IsKept s p (waits.Next c) = (s.rings.commitment (own_ring s.plan p) ≡ Some c) × (is_committed s p ≡ false)
IsKept s p (waits.Clears q n) = IsClearing s p q × (n ≡ until_over s q)
IsKept s p (waits.Across q n) = (is_committed s p ≡ true) × IsInTheWay s p q × (n ≡ until_over s q)
IsKept s p (waits.Beside c n) = (is_committed s p ≡ true) × StartsBeside s p c × (n ≡ red_revert_left s c)
IsKept s p waits.Due = is_committed s p ≡ true
IsKept s p (waits.Crossing o) =
    (is_committed s p ≡ false) × (is_some s.rings.crossing ≡ true)
    × IfSome o (λ q. (is_over_next s q ≡ false)
    × ((served s (own_ring s.plan p) ≡ Some q) ⊎ (served s (other (own_ring s.plan p)) ≡ Some q)))
IsKept s p (waits.Barrier o) =
    (is_committed s p ≡ false) × ((side_of s.plan p == s.rings.side) ≡ false) × IfSome o (Keeps s p)
IsKept s p (waits.Green q l) = IsLacking s p q l
IsKept s p (waits.Conflict q) = (is_committed s p ≡ false) × IsConflict s p q
IsKept s p waits.Turn = is_committed s p ≡ false
IsKept s p (waits.Trails q o n) = (IsClearing s p q ⊎ ((is_committed s p ≡ true) × IsInTheWay s p q)) × IsHeldBy s q o n

-- A wait says what is so, of whatever state.
abbrev pub WaitsAreSo : Type 0
WaitsAreSo = (s : State) (p : ℕ) (w : Wait) → waits_for s p ≡ Some w → IsKept s p w

-- ## What keeps a phase from turning Green

-- what a wait names stays as it is in the next tick, where that does not follow from the state alone: no preempt comes
-- into service; the one in service stays in its stage. Two kinds keep no phase
abbrev pub StaysSo : State → Row → Wait → Type 0
StaysSo s row waits.Omitted = target s row ≡ None
StaysSo s row (waits.Preempted n) = stage_of (new_service s row) ≡ stage s
StaysSo s row waits.Due = ⊥
StaysSo s row waits.Turn = ⊥
StaysSo s row w = Unit {0}

-- what is meant by the wait of a phase keeps it from turning Green in the next tick
abbrev pub IsKeptNext : State → Type 0
IsKeptNext s = (row : Row) (p : ℕ) (w : Wait) → is_green (interval s p) ≡ false → IsKept s p w → StaysSo s row w →
    is_green (interval (step s (Tick row)) p) ≡ false

-- So it is after every run.
abbrev pub WaitsKeepPhases : Type 0
WaitsKeepPhases = OfEveryRun IsKeptNext

-- A phase that waits for nothing starts in the next tick, whatever inputs are on; of whatever state.
abbrev pub DuePhasesStart : Type 0
DuePhasesStart = (s : State) (row : Row) (p : ℕ) → waits_for s p ≡ Some waits.Due → is_started (moves s row) p ≡ true

-- ## For how long

-- in the next tick a green still lacks this: its pedestrian part is not DontWalk; it has not lasted its time; nothing
-- ends it, where no preempt does
abbrev pub still_lacks : State → Row → ℕ → Lack → Bool
still_lacks s row q (lacks.Walk n) = not (is_dont_walk (pedestrian_now s.plan (phases_given s row) q (phase_read s q)))
still_lacks s row q (lacks.Clearance n) = not (is_dont_walk (pedestrian_now s.plan (phases_given s row) q (phase_read s q)))
still_lacks s row q (lacks.Initial n) =
    not (has_reached (phase_read s q).timer (time_to_last s.plan (phases_given s row) q (ended_by (phases_given s row) q)))
still_lacks s row q lacks.ForceOff =
    not (is_some (ended_by (phases_given s row) q) || may_end s.plan (phases_given s row) q (phase_read s q))
still_lacks s row q (lacks.Gap n) =
    not (is_some (ended_by (phases_given s row) q) || may_end s.plan (phases_given s row) q (phase_read s q))

-- A green that still lacks something is not ready to end; of whatever state.
abbrev pub LacksKeepGreens : Type 0
LacksKeepGreens = (s : State) (row : Row) (q : ℕ) (l : Lack) → still_lacks s row q l ≡ true → ready s row q ≡ false

-- Where a phase waits for a green of its ring, then as long as that is not ready it goes on, and the ring stays
-- uncommitted: so the phase does not start in the tick after the next either; of whatever state.
abbrev pub GreensKeepRings : Type 0
GreensKeepRings = (s : State) (row : Row) (p q : ℕ) (l : Lack) → waits_for s p ≡ Some (waits.Green q l) → ready s row q ≡ false →
    (is_ended (moves s row) q ≡ false) × ((next s row).rings.commitment (own_ring s.plan p) ≡ None)

-- Where a phase waits for the barrier and for a phase that keeps it from being crossed, no crossing begins as long as
-- that phase, if it is Green, is not ready; of whatever state.
abbrev pub KeepersKeepTheBarrier : Type 0
KeepersKeepTheBarrier = (s : State) (row : Row) (p q : ℕ) → waits_for s p ≡ Some (waits.Barrier (Some q)) →
    (is_green (interval s q) ≡ true → ready s row q ≡ false) → (moves s row).crossing ≡ None
