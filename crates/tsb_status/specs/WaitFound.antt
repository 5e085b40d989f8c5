-- What a wait is found from, as a state has it, and that the wait is then the one of that state.
use Rattle.std.specs.Prelude.{◌≡◌, ℕ, if◌then◌else◌, Option, Some, None, is_some}
use Rattle.tsb_step.specs.tsb_types.Intervals.{is_green}
use Rattle.tsb_step.specs.tsb_types.Sets.{has}
use Rattle.tsb_step.specs.tsb_preempt.Service as preempts
use Rattle.tsb_step.specs.tsb_preempt.Service.{stage_phases}
use Rattle.tsb_step.specs.tsb_ring.Rings.{Ring, other, own_ring}
use Rattle.tsb_step.specs.State.{State, interval}
use Rattle.tsb_step.specs.Tick.{omitted}
use Rattle.tsb_step.specs.Waits.{until_over, red_revert_left, lack, served, is_cleared_next, is_over_next, is_reverted_next, wait}
use Rattle.tsb_status.specs.declared.found.Circumstances.{Circumstances}
use Rattle.tsb_status.specs.declared.found.Next.{Next}
use Rattle.tsb_status.specs.declared.found.RingFound.{RingFound}
use Rattle.tsb_status.specs.declared.found.Served.{Served}
use Rattle.tsb_status.specs.declared.found.Service.{Service}
use Rattle.tsb_status.specs.declared.found.Waiting.{Waiting}
use Rattle.tsb_status.specs.RingFound.{holder_of}
use Rattle.tsb_status.specs.WaitBy.{wait_by}

-- a phase that waits
pub record IsWaiting (s : State) (x : Waiting) : Type 0 where
  pub omitted : x.is_omitted ≡ omitted s x.phase
  pub reverted : x.is_reverted ≡ is_reverted_next s x.phase
  pub red_revert : x.red_revert ≡ red_revert_left s x.phase

-- a phase that a ring starts next
pub record IsNextPhase (s : State) (c : ℕ) (x : Next) : Type 0 where
  pub phase : x.phase ≡ c
  pub reverted : x.is_reverted ≡ is_reverted_next s c
  pub red_revert : x.red_revert ≡ red_revert_left s c

-- if there is one
abbrev pub IsNext : State → Option ℕ → Option Next → Type 0
IsNext s None None = Unit {0}
IsNext s None (Some x) = ⊥
IsNext s (Some c) None = ⊥
IsNext s (Some c) (Some x) = IsNextPhase s c x

-- the overlap that holds a phase whose own clearance is done in the next tick, and for how long, at most
abbrev pub trail_of : State → ℕ → Option (ℕ × ℕ)
trail_of s q = if is_cleared_next s q then holder_of s q else None

-- a phase in service
pub record IsServedPhase (s : State) (q : ℕ) (x : Served) : Type 0 where
  pub phase : x.phase ≡ q
  pub green : x.is_green ≡ is_green (interval s q)
  pub over : x.is_over ≡ is_over_next s q
  pub left : x.left ≡ until_over s q
  pub trail : x.trail ≡ trail_of s q
  pub lack : x.lack ≡ lack s q

-- if there is one
abbrev pub IsServed : State → Option ℕ → Option Served → Type 0
IsServed s None None = Unit {0}
IsServed s None (Some x) = ⊥
IsServed s (Some q) None = ⊥
IsServed s (Some q) (Some x) = IsServedPhase s q x

-- a ring
pub record IsRing (s : State) (r : Ring) (x : RingFound) : Type 0 where
  pub served : IsServed s (served s r) x.served
  pub next : IsNext s (s.rings.commitment r) x.next

-- the preempt in service, whose stage has these phases of 1 to 16 and no other
pub record IsService (s : State) (y : preempts.Service) (p : ℕ) (x : Service) : Type 0 where
  pub preempt : x.preempt ≡ y.preempt
  pub phases : has x.phases p ≡ stage_phases s.plan y.preempt y.stage p

-- if there is one
abbrev pub IsInService : State → ℕ → Option preempts.Service → Option Service → Type 0
IsInService s p None None = Unit {0}
IsInService s p None (Some x) = ⊥
IsInService s p (Some y) None = ⊥
IsInService s p (Some y) (Some x) = IsService s y p x

-- what holds of all phases, as phase p needs it
pub record IsAround (s : State) (p : ℕ) (x : Circumstances) : Type 0 where
  pub tripped : x.tripped ≡ is_some s.trip
  pub service : IsInService s p s.preempts.service x.service
  pub crosses : x.crosses ≡ is_some s.rings.crossing
  pub side : x.side ≡ s.rings.side

-- What is found of a state gives the wait of that state.
abbrev pub WaitsAreFound : Type 0
WaitsAreFound = (s : State) (p : Waiting) (own across : RingFound) (around : Circumstances) → IsWaiting s p →
    IsRing s (own_ring s.plan p.phase) own → IsRing s (other (own_ring s.plan p.phase)) across → IsAround s p.phase around →
    wait s p.phase ≡ Some (wait_by s.plan p own across around)
