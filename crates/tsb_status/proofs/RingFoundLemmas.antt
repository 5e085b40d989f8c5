-- What is found of a ring is its status.
use Rattle.std.proofs.Common.{◌≡◌, ℕ, Option, Some, None, refl, sym, subst}
use Rattle.tsb_phase.specs.declared.told.PhaseTimes.{PhaseTimes}
use Rattle.tsb_phase.specs.Green.{reduction_timer, cars_waiting}
use Rattle.tsb_phase.specs.Promises.{IsTold}
use Rattle.tsb_step.specs.tsb_ring.Rings.{Ring}
use Rattle.tsb_step.specs.State.{State}
use Rattle.tsb_step.specs.Status.{ring_with, force_off_of}
use Rattle.tsb_step.specs.Waits.{phases_again}
use Rattle.tsb_status.specs.declared.times.GreenFound.{GreenFound}
use Rattle.tsb_status.specs.Plain.{ring_status_of}
use Rattle.tsb_status.specs.RingBy.{ring_by}
use Rattle.tsb_status.specs.RingFound.{RingsAreFound}
use Rattle.tsb_status.specs.TimesFound.{IsGreenFound}

-- with phase q in service
serving-found : (s : State) (r : Ring) (q : ℕ) (x : PhaseTimes) (found : GreenFound) (held : Option (ℕ × ℕ)) → IsTold (s.phases q) x → IsGreenFound s q found →
    ring_status_of (ring_by s.plan (s.rings.commitment r) (Some (record { phase = q; times = x; found = found; holder = held })) (force_off_of s (Some q))) ≡ ring_with s r (Some q)
unfolding phases_again reduction_timer cars_waiting
serving-found s r q x found held h g =
    rw (
      g.count,
      g.runs,
      g.service,
      g.must_end,
      h.interval,
      h.timer,
      h.pedestrian,
      h.pedestrian_timer,
      h.passage,
      h.conflict,
      h.reduction,
      h.gapped,
      h.running_maximum,
    ) refl

pub rings-found : RingsAreFound
rings-found s r None None h = refl
rings-found s r None (Some x) h = absurd h
rings-found s r (Some q) None h = absurd h
rings-found s r (Some q) (Some x) h =
    subst (λ p. ring_status_of (ring_by s.plan (s.rings.commitment r) (Some (record { phase = p; times = x.times; found = x.found; holder = x.holder })) (force_off_of s (Some q)))
    ≡ ring_with s r (Some q)) (sym h.phase) (serving-found s r q x.times x.found x.holder h.told h.found)
