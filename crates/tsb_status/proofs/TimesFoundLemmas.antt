-- What is found of a phase as it was given is what the definitions say of the state.
use Rattle.std.proofs.Common.{◌≡◌, ℕ, true, Option, refl, subst, ◌∙◌}
use Rattle.tsb_step.specs.tsb_types.Sets.{is_phase}
use Rattle.tsb_phase.specs.declared.ending.Ending.{Ending}
use Rattle.tsb_phase.specs.declared.told.PhaseTimes.{PhaseTimes}
use Rattle.tsb_phase.specs.Phase.{Phase, as_read}
use Rattle.tsb_phase.specs.Green.{reduction_timer, cars_waiting}
use Rattle.tsb_phase.specs.Promises.{IsTold}
use Rattle.tsb_phase.specs.Ready.{is_over, red_revert_passed}
use Rattle.tsb_step.specs.State.{State}
use Rattle.tsb_step.specs.Waits.{phases_again, lack, part_lack, is_cleared_next, is_reverted_next}
use Rattle.tsb_status.specs.declared.times.GreenFound.{GreenFound}
use Rattle.tsb_status.specs.Times.{phase_by, read_by, given_by}
use Rattle.tsb_status.specs.TimesFound.{IsGreenFound}

-- a phase is what was given of it, and how its last green ended
with-ending : PhaseTimes → Option Ending → Phase
with-ending x e = record (phase_by x) { last_ending = e }

is-told : (y : Phase) (x : PhaseTimes) → IsTold y x → with-ending x y.last_ending ≡ y
unfolding with-ending
is-told y x h = λ i. record {
  interval = h.interval i;
  timer = h.timer i;
  pedestrian = h.pedestrian i;
  pedestrian_timer = h.pedestrian_timer i;
  passage = h.passage i;
  conflict = h.conflict i;
  reduction = h.reduction i;
  gapped = h.gapped i;
  forced = h.forced i;
  red_revert = h.red_revert i;
  running_maximum = h.running_maximum i;
  last_ending = y.last_ending;
}

-- no time depends on how its last green ended
over-told : (s : State) (p : ℕ) (x : PhaseTimes) (y : Phase) → IsTold y x → is_over s.plan p (read_by x) ≡ is_over s.plan p (as_read y)
unfolding is_over with-ending
over-told s p x y h = subst (λ z. is_over s.plan p (read_by x) ≡ is_over s.plan p (as_read z)) (is-told y x h) refl

reverted-told : (s : State) (p : ℕ) (x : PhaseTimes) (y : Phase) → IsTold y x →
    red_revert_passed s.plan p (read_by x) ≡ red_revert_passed s.plan p (as_read y)
unfolding red_revert_passed with-ending
reverted-told s p x y h =
    subst (λ z. red_revert_passed s.plan p (read_by x) ≡ red_revert_passed s.plan p (as_read z)) (is-told y x h) refl

pub next-found : (s : State) (p : ℕ) (x : PhaseTimes) → is_phase p ≡ true → IsTold (s.phases p) x →
    (is_over s.plan p (read_by x) ≡ is_cleared_next s p) × (red_revert_passed s.plan p (read_by x) ≡ is_reverted_next s p)
next-found s p x phase h = (
  over-told s p x (s.phases p) h ∙ rw phase refl,
  reverted-told s p x (s.phases p) h ∙ rw phase refl,
)

pub lacks-found : (s : State) (p : ℕ) (found : GreenFound) (x : PhaseTimes) → IsTold (s.phases p) x → IsGreenFound s p found →
    part_lack s.plan (given_by found x) p (phase_by x) x.pedestrian ≡ lack s p
unfolding lack phases_again reduction_timer cars_waiting
lacks-found s p found x h g =
    rw (
      g.count,
      g.runs,
      g.service,
      g.held,
      g.must_end,
      h.timer,
      h.pedestrian,
      h.pedestrian_timer,
      h.passage,
      h.conflict,
      h.reduction,
      h.gapped,
      h.forced,
      h.running_maximum,
    ) refl
