-- Preempts that choose anew reach their stages sooner: no ring serves what it was committed to before. So the time of a stage
-- is that of a worksheet. It takes the larger of two rows, and ticks in which the rings move. One row is of a conflicting
-- vehicle: least green, yellow change, red clearance. The other is of a conflicting pedestrian: walk, pedestrian clearance,
-- yellow change, red clearance. Each law here is the contract of a function in src/operation.rt. Times are in tenths of a
-- second, which are ticks.
use Rattle.std.specs.Prelude.{◌≡◌, ℕ, ◌+◌, ◌<◌, ◌≤◌, Bool, true, false, not, ◌&&◌, max, List, ◌∷◌, ◌++◌, ◌⊎◌}
use Rattle.tsb_step.specs.tsb_types.declared.row.Row.{Row}
use Rattle.tsb_step.specs.tsb_types.declared.stage.Stage.{Stage}
use Rattle.tsb_step.specs.tsb_plan.Parts.{track_green}
use Rattle.tsb_step.specs.tsb_plan.Plan.{Plan, red_revert}
use Rattle.tsb_step.specs.tsb_preempt.Service.{has_track}
use Rattle.tsb_step.specs.declared.inputs.Input.{Input}
use Rattle.tsb_step.specs.declared.inputs.Input.TheVariants.{Tick}
use Rattle.tsb_step.specs.State.{State}
use Rattle.tsb_step.specs.Signs.{is_choosing, is_lasting}
use Rattle.tsb_step.specs.Runs.{replay, AreTaken}
use Rattle.tsb_step.specs.Laws.{IsConsistent}
use Rattle.tsb_laws.specs.Stretches.{IsUntripped, has_held_since, largest}
use Rattle.tsb_laws.specs.PreemptDwells.{BeginsService, is_served}
use Rattle.tsb_laws.specs.PreemptStages.{is_in_stage, StageTakesAtMost, ReachesWithin, ReachesDwell}

-- the preempt in service chooses anew, and no overlap lasts through a clearance by a commitment
abbrev pub chooses : State → Bool
chooses s = is_choosing s && not (is_lasting s)

-- so it has been since the inputs `base`
abbrev pub HasChosen : Plan → List Input → List Input → Type 0
HasChosen plan base later = has_held_since (λ s. chooses s) plan base later ≡ true

-- g, w and c are as for any preempt: as large as the minimum green of preempt n; as its walk and its pedestrian clearance
-- together; as the yellow change and the red clearance together, and as the red revert. v is as large as the red revert of
-- each phase alone, by the plans in effect meanwhile
pub record ChoiceTakesAtMost (plan : Plan) (base : List Input) (n g w c v : ℕ) (later : List Input) : Type 0 where
  pub stage : StageTakesAtMost plan base n g w c later
  pub revert : (p : ℕ) → largest (λ x. red_revert x p) plan base later ≤ v

-- how long it may take: the pedestrians of what is Green clear, or it has its least green and a tick, or what is wanted
-- reverts; then what is in service clears; and four ticks in which the rings move
abbrev pub time_by_choice : ℕ → ℕ → ℕ → ℕ → ℕ
time_by_choice g w c v = max (max w (g + 1)) v + c + 4

-- A preempt that chooses anew, and stays in a stage, has all phases of it Green within that time. It counts from any
-- moment of the stage on, whatever inputs come, unless the controller trips before.
abbrev pub ChosenStagesAreReached : Type 0
ChosenStagesAreReached = (plan : Plan) (base later : List Input) (n : ℕ) (stage : Stage) (g w c v : ℕ) → IsConsistent plan →
    plan.phase_count ≤ 16 → AreTaken plan (later ++ base) → IsUntripped plan base later → HasChosen plan base later →
    has_held_since (λ s. is_in_stage n stage s.preempts.service) plan base later ≡ true → ChoiceTakesAtMost plan base n g w c v later →
    ReachesWithin plan base n stage (time_by_choice g w c v) later

-- how long it may take from the begin of its service to its dwell: one stage; with a track list the track phases and their
-- track green, t, before
abbrev pub time_to_chosen_dwell : Bool → ℕ → ℕ → ℕ → ℕ → ℕ → ℕ
time_to_chosen_dwell false g w c v t = time_by_choice g w c v
time_to_chosen_dwell true g w c v t = time_by_choice g w c v + t + time_by_choice g w c v

-- One that stays in service, before its exit, has all of its dwell phases Green within that time.
abbrev pub ChosenDwellsAreReached : Type 0
ChosenDwellsAreReached = (plan : Plan) (is later : List Input) (row : Row) (n g w c v t limit : ℕ) → IsConsistent plan →
    plan.phase_count ≤ 16 → AreTaken plan (later ++ (Tick row ∷ is)) → IsUntripped plan (Tick row ∷ is) later →
    BeginsService plan is row n → HasChosen plan (Tick row ∷ is) later →
    has_held_since (λ s. is_served n s.preempts.service) plan (Tick row ∷ is) later ≡ true →
    ChoiceTakesAtMost plan (Tick row ∷ is) n g w c v later → largest (λ x. track_green x n) plan (Tick row ∷ is) later ≤ t →
    limit ≡ time_to_chosen_dwell (has_track (replay plan is).plan n) g w c v t →
    ReachesDwell plan (Tick row ∷ is) n limit later
    ⊎ ((replay plan (later ++ (Tick row ∷ is))).now < (replay plan (Tick row ∷ is)).now + limit)
