-- In the run of LeftRuns 1 waits for the green of 2, which lacks what is left of its walk. And a mistake that the law of lacks
-- refuses.
use Rattle.std.proofs.Common.{◌≡◌, ℕ, Option, Some, refl, ap}
use Rattle.tsb_step.specs.tsb_phase.Pedestrian.{ended_by, walk_time}
use Rattle.tsb_step.specs.declared.waits.Lack.TheVariants as lacks
use Rattle.tsb_step.specs.declared.waits.Wait.{Wait}
use Rattle.tsb_step.specs.declared.waits.Wait.TheVariants as waits
use Rattle.tsb_step.specs.State.{State}
use Rattle.tsb_step.specs.Status.{status}
use Rattle.tsb_step.specs.Waits.{phases_again}
use Rattle.tsb_step.specs.Runs.{replay}
use Rattle.tsb_laws.proofs.times_left.Examples.LeftRuns.{leaving, shown_opened, ring_1, called}

-- what 1 waits for, and what the ring of 2 shows to be left of the walk
abbrev lack_shown : State → Option Wait × Option ℕ × Option ℕ
lack_shown s = ((status s).wait 1, (ring_1 s).phase, (ring_1 s).walk_left)

at_call : lack_shown (replay leaving called) ≡ (Some (waits.Green 2 (lacks.Walk 9)), Some 2, Some 9)
unfolding shown_opened
at_call = refl

a_lack : (status (replay leaving called)).wait 1 ≡ Some (waits.Green 2 (lacks.Walk 9))
a_lack = ap (λ (x : Option Wait × Option ℕ × Option ℕ). x.0) at_call

-- a mistake: it lacks the whole walk
would_lack_10 : walk_time (replay leaving called).plan 2 (ended_by (phases_again (replay leaving called)) 2) ≡ 10
unfolding shown_opened
would_lack_10 = refl
