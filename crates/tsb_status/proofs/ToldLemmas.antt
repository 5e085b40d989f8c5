-- What waits are found from is what a state has.
use Rattle.std.proofs.Common.{◌≡◌, ℕ, Bool, true, ◌&&◌, if◌then◌else◌, Option, Some, None, is_none, option_map, refl, ap, ap₂, subst, sym}
use Rattle.tsb_step.specs.tsb_types.Sets.{is_phase}
use Rattle.tsb_phase.specs.declared.told.PhaseTimes.{PhaseTimes}
use Rattle.tsb_phase.specs.Promises.{IsTold}
use Rattle.tsb_step.specs.State.{State}
use Rattle.tsb_step.specs.Tick.{omitted}
use Rattle.tsb_step.specs.Waits.{holder, held_left}
use Rattle.tsb_status.specs.declared.rings.PhaseFound.{PhaseFound}
use Rattle.tsb_status.specs.declared.times.GreenFound.{GreenFound}
use Rattle.tsb_status.specs.RingFound.{holder_of, IsPhaseFound}
use Rattle.tsb_status.specs.Told.{next_as, served_as, waiting_as}
use Rattle.tsb_status.specs.TimesFound.{IsGreenFound}
use Rattle.tsb_status.specs.WaitFound.{IsNextPhase, IsServedPhase, IsWaiting}
use Rattle.tsb_status.proofs.TimesFoundLemmas.{lacks-found, next-found}

-- there is an overlap that holds it exactly where one was found
none-holds : (s : State) (q : ℕ) → is_none (holder_of s q) ≡ is_none (holder s q)
none-holds s q = go (holder s q)
  where
    go : (o : Option ℕ) → is_none {T = ℕ × ℕ} (option_map (λ n. (n, held_left s n)) o) ≡ is_none o
    go None = refl
    go (Some n) = refl

served-found : (s : State) (q : ℕ) (x : PhaseTimes) (found : GreenFound) → is_phase q ≡ true → IsTold (s.phases q) x → IsGreenFound s q found →
    IsServedPhase s q (served_as s.plan (record { phase = q; times = x; found = found; holder = holder_of s q }))
served-found s q x found phase h g = record {
  phase = refl;
  green = rw h.interval refl;
  over = ap₂ (λ (a b : Bool). a && b) (next-found s q x phase h).0 (none-holds s q);
  left = rw (h.timer, h.interval) refl;
  trail = ap (λ (b : Bool). if b then holder_of s q else None) (next-found s q x phase h).0;
  lack = lacks-found s q found x h g;
}

pub served-are-found : (s : State) (q : ℕ) (x : PhaseFound) → is_phase q ≡ true → IsPhaseFound s q x → IsServedPhase s q (served_as s.plan x)
served-are-found s q x phase h =
    subst (λ (y : PhaseFound). IsServedPhase s q (served_as s.plan y)) same (served-found s q x.times x.found phase h.told h.found)
  where
    same : record { phase = q; times = x.times; found = x.found; holder = holder_of s q } ≡ x
    same = λ i. record { phase = sym h.phase i; times = x.times; found = x.found; holder = sym h.holder i }

pub next-are-found : (s : State) (p : ℕ) (x : PhaseTimes) → is_phase p ≡ true → IsTold (s.phases p) x → IsNextPhase s p (next_as s.plan p x)
next-are-found s p x phase h = record {
  phase = refl;
  reverted = (next-found s p x phase h).1;
  red_revert = rw h.red_revert refl;
}

pub waiting-are-found : (s : State) (p : ℕ) (is_omitted : Bool) (x : PhaseTimes) → is_phase p ≡ true → is_omitted ≡ omitted s p → IsTold (s.phases p) x →
    IsWaiting s (waiting_as s.plan p is_omitted x)
waiting-are-found s p is_omitted x phase told h = record {
  omitted = told;
  reverted = (next-found s p x phase h).1;
  red_revert = rw h.red_revert refl;
}
