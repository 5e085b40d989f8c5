-- Preempts reach their stages: a preempt that stays in a stage of its service, be it track, dwell or exit, has all phases of
-- that stage Green in a time that the plan gives. So one that stays in service reaches its dwell in time, and one whose dwell
-- has ended leaves service in time. Each law here is the contract of a function in src/operation.rt, and proved there. Times
-- are in tenths of a second, which are ticks.
use Rattle.std.specs.Prelude.{◌≡◌, ℕ, ◌+◌, ◌<◌, ◌≤◌, ◌==◌, Bool, true, false, ◌&&◌, max, List, ◌∷◌, ◌++◌, Option, Some, None, ◌⊎◌}
use Rattle.tsb_step.specs.tsb_types.declared.row.Row.{Row}
use Rattle.tsb_step.specs.tsb_types.declared.stage.Stage.{Stage}
use Rattle.tsb_step.specs.tsb_types.declared.stage.Stage.TheVariants.{Exit}
use Rattle.tsb_step.specs.tsb_plan.Parts.{preempt_minimum_green, track_green}
use Rattle.tsb_step.specs.tsb_plan.Plan.{Plan, yellow_change, red_clear, red_revert}
use Rattle.tsb_step.specs.tsb_phase.Pedestrian.{walk_time, clearance_time}
use Rattle.tsb_step.specs.tsb_preempt.Service.{Service, has_track, stage_phases, all_green}
use Rattle.tsb_step.specs.declared.inputs.Input.{Input}
use Rattle.tsb_step.specs.declared.inputs.Input.TheVariants.{Tick}
use Rattle.tsb_step.specs.State.{State, interval}
use Rattle.tsb_step.specs.Runs.{replay, AreTaken}
use Rattle.tsb_step.specs.Laws.{IsConsistent}
use Rattle.tsb_laws.specs.Stretches.{IsUntripped, has_held_since, largest, NoneTrails}
use Rattle.tsb_laws.specs.PreemptDwells.{BeginsService, is_served, has_arrived}
use Rattle.tsb_laws.specs.PreemptTurns.{place}

-- ## One stage

-- preempt n is in service, in this stage
abbrev pub is_in_stage : ℕ → Stage → Option Service → Bool
is_in_stage n stage None = false
is_in_stage n stage (Some x) = (x.preempt == n) && (place x.stage == place stage)

-- all phases of this stage of preempt n are Green
abbrev pub serves_stage : ℕ → Stage → State → Bool
serves_stage n stage s = all_green s.plan (interval s) (stage_phases s.plan n stage)

-- g is as large as the minimum green of preempt n; w as its walk and its pedestrian clearance together, of each phase; c as
-- the yellow change and the red clearance of each phase together, and as the red revert of each. Each time is the largest by
-- the plans in effect meanwhile, where a commit changes it. In none of these does an overlap trail, which would hold its
-- phases in clearance for longer
pub record StageTakesAtMost (plan : Plan) (base : List Input) (n g w c : ℕ) (later : List Input) : Type 0 where
  pub untrailed : NoneTrails plan base later
  pub green : largest (λ x. preempt_minimum_green x n) plan base later ≤ g
  pub walk : (p : ℕ) → largest (λ x. walk_time x p (Some n)) plan base later + largest (λ x. clearance_time x p (Some n)) plan base later ≤ w
  pub clearance : (p : ℕ) → largest (λ x. yellow_change x p) plan base later + largest (λ x. red_clear x p) plan base later ≤ c
  pub revert : (p : ℕ) → largest (λ x. red_revert x p) plan base later ≤ c

-- how long it may take: the pedestrians of what is Green clear, or an older commitment starts and has its green; then what is
-- in service clears, or what is wanted reverts; and four ticks in which the rings move
abbrev pub time_to_stage : ℕ → ℕ → ℕ → ℕ
time_to_stage g w c = max w (c + g + 1) + c + 4

-- all of them were Green after one of these later inputs, so many ticks after those of `base` at the latest
pub record ReachesStage (plan : Plan) (base : List Input) (n : ℕ) (stage : Stage) (limit : ℕ) (later : List Input) : Type 0 where
  pub older : List Input
  pub newer : List Input
  pub parts : later ≡ newer ++ older
  pub arrived : serves_stage n stage (replay plan (older ++ base)) ≡ true
  pub in_time : (replay plan (older ++ base)).now ≤ (replay plan base).now + limit

-- they were so in time, or there is time left: fewer than `limit` ticks came after those of `base`
abbrev pub ReachesWithin : Plan → List Input → ℕ → Stage → ℕ → List Input → Type 0
ReachesWithin plan base n stage limit later =
    ReachesStage plan base n stage limit later ⊎ ((replay plan (later ++ base)).now < (replay plan base).now + limit)

-- A preempt that stays in a stage has all phases of it Green within that time, from any moment of the stage on, whatever
-- inputs come, unless the controller trips before.
abbrev pub StagesAreReached : Type 0
StagesAreReached = (plan : Plan) (base later : List Input) (n : ℕ) (stage : Stage) (g w c : ℕ) → IsConsistent plan → plan.phase_count ≤ 16 →
    AreTaken plan (later ++ base) → IsUntripped plan base later →
    has_held_since (λ s. is_in_stage n stage s.preempts.service) plan base later ≡ true → StageTakesAtMost plan base n g w c later →
    ReachesWithin plan base n stage (time_to_stage g w c) later

-- So the exit of a preempt does not last longer than that time and one tick.
abbrev pub ExitsEnd : Type 0
ExitsEnd = (plan : Plan) (base later : List Input) (n g w c : ℕ) → IsConsistent plan → plan.phase_count ≤ 16 →
    AreTaken plan (later ++ base) → IsUntripped plan base later →
    has_held_since (λ s. is_in_stage n Exit s.preempts.service) plan base later ≡ true → StageTakesAtMost plan base n g w c later →
    (replay plan (later ++ base)).now ≤ (replay plan base).now + time_to_stage g w c

-- ## Its dwell

-- how long it may take from the begin of a service to its dwell: one stage; with a track list the track phases and their
-- track green, t, before
abbrev pub time_to_dwell : Bool → ℕ → ℕ → ℕ → ℕ → ℕ
time_to_dwell false g w c t = time_to_stage g w c
time_to_dwell true g w c t = time_to_stage g w c + t + time_to_stage g w c

-- preempt n dwelt with all of its dwell phases Green after one of these later inputs, so many ticks after those of `base` at
-- the latest
pub record ReachesDwell (plan : Plan) (base : List Input) (n limit : ℕ) (later : List Input) : Type 0 where
  pub older : List Input
  pub newer : List Input
  pub parts : later ≡ newer ++ older
  pub arrived : has_arrived n (replay plan (older ++ base)) ≡ true
  pub in_time : (replay plan (older ++ base)).now ≤ (replay plan base).now + limit

-- A preempt that stays in service, before its exit, has all of its dwell phases Green within that time, whatever inputs come,
-- unless the controller trips before.
abbrev pub DwellsAreReached : Type 0
DwellsAreReached = (plan : Plan) (is later : List Input) (row : Row) (n g w c t limit : ℕ) → IsConsistent plan →
    plan.phase_count ≤ 16 → AreTaken plan (later ++ (Tick row ∷ is)) → IsUntripped plan (Tick row ∷ is) later →
    BeginsService plan is row n → has_held_since (λ s. is_served n s.preempts.service) plan (Tick row ∷ is) later ≡ true →
    StageTakesAtMost plan (Tick row ∷ is) n g w c later → largest (λ x. track_green x n) plan (Tick row ∷ is) later ≤ t →
    limit ≡ time_to_dwell (has_track (replay plan is).plan n) g w c t →
    ReachesDwell plan (Tick row ∷ is) n limit later
    ⊎ ((replay plan (later ++ (Tick row ∷ is))).now < (replay plan (Tick row ∷ is)).now + limit)
