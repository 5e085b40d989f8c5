-- The status of a phase, as a state has it, and that what is found of it is then what the definitions say.
use Rattle.std.specs.Prelude.{◌≡◌, ℕ, true}
use Rattle.tsb_step.specs.tsb_types.Clip.{clipped, within}
use Rattle.tsb_step.specs.tsb_types.Sets.{is_phase}
use Rattle.tsb_step.specs.tsb_phase.Ready.{is_over, red_revert_passed}
use Rattle.tsb_phase.specs.declared.told.PhaseTimes.{PhaseTimes}
use Rattle.tsb_phase.specs.Promises.{IsTold}
use Rattle.tsb_step.specs.State.{State}
use Rattle.tsb_step.specs.Tick.{runs, hold}
use Rattle.tsb_step.specs.Waits.{service_number, is_unwanted, lack, part_lack, is_cleared_next, is_reverted_next}
use Rattle.tsb_status.specs.declared.times.GreenFound.{GreenFound}
use Rattle.tsb_status.specs.Times.{phase_by, read_by, given_by}

-- what the times of a green depend on
pub record IsGreenFound (s : State) (p : ℕ) (found : GreenFound) : Type 0 where
  pub count : found.count ≡ within 0 s.memories.count p
  pub runs : found.runs ≡ runs s
  pub service : found.service ≡ service_number s.preempts.service
  pub held : found.is_held ≡ clipped (hold s) p
  pub must_end : found.must_end ≡ clipped (is_unwanted s) p

-- What a green is found to lack is what it lacks in the state.
abbrev pub LacksAreFound : Type 0
LacksAreFound = (s : State) (p : ℕ) (found : GreenFound) (x : PhaseTimes) → IsTold (s.phases p) x → IsGreenFound s p found →
    part_lack s.plan (given_by found x) p (phase_by x) x.pedestrian ≡ lack s p

-- So is a phase over in the next tick, or its red revert has passed, of phases 1 to 16.
abbrev pub NextTicksAreFound : Type 0
NextTicksAreFound = (s : State) (p : ℕ) (x : PhaseTimes) → is_phase p ≡ true → IsTold (s.phases p) x →
    (is_over s.plan p (read_by x) ≡ is_cleared_next s p) × (red_revert_passed s.plan p (read_by x) ≡ is_reverted_next s p)
