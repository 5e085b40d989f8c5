-- Pedestrian recycle: when a coordinated phase walks again within its green, and that no force-off waits for such a
-- walk. The laws here are the contracts of a function in src/operation.rt, and proved there. Times are in tenths of a
-- second, which are ticks.
use Rattle.std.specs.Prelude.{◌≡◌, ℕ, ◌+◌, ◌<◌, ◌≤◌, Bool, true, false, not, ◌&&◌, List, ◌∷◌, ◌++◌, None, is_none}
use Rattle.tsb_step.specs.tsb_types.declared.interval.Interval.TheVariants.{Green}
use Rattle.tsb_step.specs.tsb_types.declared.interval.PedestrianInterval.TheVariants.{DontWalk, Walk}
use Rattle.tsb_step.specs.tsb_types.declared.row.Row.{Row}
use Rattle.tsb_step.specs.tsb_plan.Plan.{Plan, walk, pedestrian_clear, rests_in_walk, recycles_walk}
use Rattle.tsb_step.specs.tsb_coord.Correction.{forces}
use Rattle.tsb_step.specs.tsb_phase.Phase.{held_of}
use Rattle.tsb_step.specs.tsb_phase.Green.{initial_has_passed}
use Rattle.tsb_step.specs.tsb_phase.Pedestrian.{pedestrian_now}
use Rattle.tsb_step.specs.declared.inputs.Input.{Input}
use Rattle.tsb_step.specs.declared.inputs.Input.TheVariants.{Tick, Pattern, Commit, Clock}
use Rattle.tsb_step.specs.State.{State, interval, pedestrian_part}
use Rattle.tsb_step.specs.Tick.{service, hold, forced, conflict, pedestrian_call, phases_given, phase_read, ready}
use Rattle.tsb_step.specs.Signs.{IsInStep}
use Rattle.tsb_step.specs.Step.{step}
use Rattle.tsb_step.specs.Runs.{replay, AreTaken}
use Rattle.tsb_step.specs.Laws.{IsConsistent, OfEveryRun}
use Rattle.tsb_laws.specs.Stretches.{IsUntripped}
use Rattle.tsb_laws.specs.CoordinatedGreens.{HasGoneOn}

-- ## When it walks again

-- the tick begins a walk of p within its green
pub record WalksAgain (s : State) (row : Row) (p : ℕ) : Type 0 where
  pub green : interval s p ≡ Green
  pub dont_walk : pedestrian_part s p ≡ DontWalk
  pub walks : pedestrian_part (step s (Tick row)) p ≡ Walk

-- a walk of p that begins in the next tick ends with its pedestrian clearance by the next force-off of p: in none of
-- the ticks that both take is p forced off
abbrev pub FitsBeforeForceOff : State → ℕ → Type 0
FitsBeforeForceOff s p = (t : ℕ) → s.now < t → t ≤ s.now + (walk s.plan p + pedestrian_clear s.plan p) →
    forces s.plan s.pattern s.correction t p ≡ false

-- in the tick p may walk again: it has pedestrian recycle and is a coordinated phase of the pattern that runs, it was
-- Green in DontWalk and has a pedestrian call, no preempt is in service, no force-off is in force for a conflict that it
-- still has, the local counter is in step, and a walk fits
pub record MayWalkAgain (s : State) (row : Row) (p : ℕ) : Type 0 where
  pub recycles : recycles_walk s.plan p ≡ true
  pub coordinated : hold s p ≡ true
  pub green : interval s p ≡ Green
  pub dont_walk : pedestrian_part s p ≡ DontWalk
  pub called : pedestrian_call s row p ≡ true
  pub quiet : service s row ≡ None
  pub unforced : ((s.phases p).forced && conflict s row p) ≡ false
  pub in_step : IsInStep s
  pub fits : FitsBeforeForceOff s p

-- what may walk again does; no other walk begins within a green; and its button is then forgotten
pub record RecyclesCalls (s : State) (row : Row) (p : ℕ) : Type 0 where
  pub walks : MayWalkAgain s row p → WalksAgain s row p
  pub only : WalksAgain s row p → MayWalkAgain s row p
  pub served : WalksAgain s row p → (step s (Tick row)).memories.pedestrian p ≡ false

-- So it is of each phase in each tick after every run, while the controller has not tripped.
abbrev pub RecycledCallsWalk : Type 0
RecycledCallsWalk = OfEveryRun (λ s. (row : Row) (p : ℕ) → s.plan.phase_count ≤ 16 → s.trip ≡ None → RecyclesCalls s row p)

-- ## When such a walk is over

-- in the tick no preempt is in service, and p does not rest in walk
abbrev pub is_unheld : State → Row → ℕ → Bool
is_unheld s row p = is_none (service s row) && not (rests_in_walk s.plan p && not (conflict s row p))

-- and p is not forced off yet; no other input selects a pattern or commits
abbrev pub is_unforced : ℕ → State → Input → Bool
is_unforced p s (Tick row) = is_unheld s row p && not (forced s p)
is_unforced p s (Pattern n) = false
is_unforced p s (Clock m) = false
is_unforced p s (Commit station) = false
is_unforced p s i = true

-- in the tick p was Green and is in DontWalk, and with a conflict it is ready once its initial time has passed
pub record IsOverByForceOff (s : State) (row : Row) (p : ℕ) : Type 0 where
  pub green : interval s p ≡ Green
  pub dont_walk : pedestrian_now s.plan (phases_given s row) p (phase_read s p) ≡ DontWalk
  pub may_end : conflict s row p ≡ true → initial_has_passed s.plan (phases_given s row) p (held_of (phase_read s p)) ≡ true →
      ready s row p ≡ true

-- A walk that begins within a green, in the tick `row`, is over by the tick `next` of the next force-off, its
-- pedestrian clearance too. So none comes later by it.
abbrev pub RecycledWalksEndInTime : Type 0
RecycledWalksEndInTime = (plan : Plan) (is later : List Input) (row next : Row) (p : ℕ) → IsConsistent plan → plan.phase_count ≤ 16 →
    AreTaken plan (later ++ (Tick row ∷ is)) → IsUntripped plan (Tick row ∷ is) later → WalksAgain (replay plan is) row p →
    HasGoneOn (is_unforced p) plan (Tick row ∷ is) later → forced (replay plan (later ++ (Tick row ∷ is))) p ≡ true →
    is_unheld (replay plan (later ++ (Tick row ∷ is))) next p ≡ true → IsOverByForceOff (replay plan (later ++ (Tick row ∷ is))) next p
