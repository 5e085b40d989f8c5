-- The longest entry of a worksheet holds: what `tsb_field worksheet` prints of a preempt, no run exceeds. The law here is the
-- contract of a function in src/operation.rt. Times are in tenths of a second, which are ticks.
use Rattle.std.specs.Prelude.{◌≡◌, ℕ, ◌≤◌, true, List, [], ◌∷◌, ◌++◌}
use Rattle.tsb_step.specs.tsb_types.declared.row.Row.{Row}
use Rattle.tsb_step.specs.tsb_types.declared.stage.Stage.{Stage}
use Rattle.tsb_step.specs.tsb_plan.Plan.{Plan}
use Rattle.tsb_step.specs.tsb_preempt.Service.{begun}
use Rattle.tsb_step.specs.declared.inputs.Input.{Input}
use Rattle.tsb_step.specs.declared.inputs.Input.TheVariants.{Tick}
use Rattle.tsb_step.specs.Runs.{replay, AreTaken}
use Rattle.tsb_step.specs.Laws.{IsConsistent}
use Rattle.tsb_review.specs.Worksheet.{longest_entry}
use Rattle.tsb_laws.specs.Stretches.{IsUntripped, has_held_since, has_no_trails}
use Rattle.tsb_laws.specs.PreemptDwells.{BeginsService}
use Rattle.tsb_laws.specs.PreemptStages.{is_in_stage, ReachesWithin}

-- the plan in effect was x after the inputs `base`, and after each of those that came later
abbrev pub HasStayed : Plan → Plan → List Input → List Input → Type 0
HasStayed x plan base [] = (replay plan base).plan ≡ x
HasStayed x plan base (i ∷ later) = HasStayed x plan base later × ((replay plan (i ∷ (later ++ base))).plan ≡ x)

-- the stage in which the service of preempt n begins: Track, or Dwell where it has no track phases
abbrev pub first_stage : Plan → ℕ → Stage
first_stage x n = (begun x n).stage

-- A preempt that stays in the stage in which its service began has all phases of it Green within its longest entry. That
-- is the one in the worksheet of the plan in effect. It holds whatever inputs come, while this plan stays, unless the
-- controller trips before, where no overlap of it trails.
abbrev pub PrintedEntriesHold : Type 0
PrintedEntriesHold = (plan x : Plan) (is later : List Input) (row : Row) (n : ℕ) → IsConsistent plan → plan.phase_count ≤ 16 → has_no_trails x ≡ true →
    AreTaken plan (later ++ (Tick row ∷ is)) → IsUntripped plan (Tick row ∷ is) later → HasStayed x plan (Tick row ∷ is) later →
    BeginsService plan is row n → has_held_since (λ s. is_in_stage n (first_stage x n) s.preempts.service) plan (Tick row ∷ is) later ≡ true →
    ReachesWithin plan (Tick row ∷ is) n (first_stage x n) (longest_entry x n) later

-- NOT PROVED: the same where overlaps trail. A preempt in service ends their trailing greens at once, and the worksheet counts
-- their own yellow and red clearance as a clearance of the phases that they include.
abbrev pub EntriesWithTrailsHold : Type 0
EntriesWithTrailsHold = (plan x : Plan) (is later : List Input) (row : Row) (n : ℕ) → IsConsistent plan → plan.phase_count ≤ 16 →
    AreTaken plan (later ++ (Tick row ∷ is)) → IsUntripped plan (Tick row ∷ is) later → HasStayed x plan (Tick row ∷ is) later →
    BeginsService plan is row n → has_held_since (λ s. is_in_stage n (first_stage x n) s.preempts.service) plan (Tick row ∷ is) later ≡ true →
    ReachesWithin plan (Tick row ∷ is) n (first_stage x n) (longest_entry x n) later
