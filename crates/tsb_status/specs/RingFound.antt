-- A ring's phase in service, as a state has it, and that the status found of it is then the definition's.
use Rattle.std.specs.Prelude.{◌≡◌, ℕ, Option, Some, None, option_map}
use Rattle.tsb_phase.specs.Promises.{IsTold}
use Rattle.tsb_step.specs.tsb_ring.Rings.{Ring}
use Rattle.tsb_step.specs.State.{State}
use Rattle.tsb_step.specs.Status.{ring_with, force_off_of}
use Rattle.tsb_step.specs.Waits.{holder, held_left}
use Rattle.tsb_status.specs.declared.rings.PhaseFound.{PhaseFound}
use Rattle.tsb_status.specs.Plain.{ring_status_of}
use Rattle.tsb_status.specs.RingBy.{ring_by}
use Rattle.tsb_status.specs.TimesFound.{IsGreenFound}

-- the least overlap that holds it in clearance in the next tick, and for how long, at most
abbrev pub holder_of : State → ℕ → Option (ℕ × ℕ)
holder_of s q = option_map (λ o. (o, held_left s o)) (holder s q)

-- a phase as it is given
pub record IsPhaseFound (s : State) (q : ℕ) (x : PhaseFound) : Type 0 where
  pub phase : x.phase ≡ q
  pub told : IsTold (s.phases q) x.times
  pub found : IsGreenFound s q x.found
  pub holder : x.holder ≡ holder_of s q

-- if there is one
abbrev pub IsFound : State → Option ℕ → Option PhaseFound → Type 0
IsFound s None None = Unit {0}
IsFound s None (Some x) = ⊥
IsFound s (Some q) None = ⊥
IsFound s (Some q) (Some x) = IsPhaseFound s q x

-- What is found of a ring is its status, with whichever phase in service.
abbrev pub RingsAreFound : Type 0
RingsAreFound = (s : State) (r : Ring) (o : Option ℕ) (x : Option PhaseFound) → IsFound s o x →
    ring_status_of (ring_by s.plan (s.rings.commitment r) x (force_off_of s o)) ≡ ring_with s r o
