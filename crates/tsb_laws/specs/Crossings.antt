-- Crossings of the barrier are completed: a crossing that begins is followed by the tick in which all that it committed
-- the rings to starts on the other side, in a time that the plan says. The law here is the contract of a function in
-- src/safety.rt, and proved there. Times are in tenths of a second, which are ticks.
--
-- A plan here has 16 phases at most, as every plan in memory has: what layers give one another is of phases 1 to 16
-- alone, so that a crossing to a phase of a greater number would wait for ever.
use Rattle.std.specs.Prelude.{◌≡◌, ℕ, suc, ◌+◌, ◌<◌, ◌≤◌, true, List, ◌∷◌, ◌++◌, Some, None, ◌⊎◌}
use Rattle.tsb_step.specs.tsb_types.declared.row.Row.{Row}
use Rattle.tsb_step.specs.tsb_types.Intervals.{in_service}
use Rattle.tsb_step.specs.tsb_plan.Plan.{Plan, yellow_change, red_clear, red_revert}
use Rattle.tsb_step.specs.tsb_ring.Rings.{Ring}
use Rattle.tsb_step.specs.declared.inputs.Input.{Input}
use Rattle.tsb_step.specs.declared.inputs.Input.TheVariants.{Tick}
use Rattle.tsb_step.specs.State.{interval}
use Rattle.tsb_step.specs.Runs.{replay, AreTaken}
use Rattle.tsb_step.specs.Laws.{IsConsistent}
use Rattle.tsb_laws.specs.Stretches.{IsUntripped, NoneChooses, NoneTrails, largest, StartsGreen}

-- in the tick `row` after the inputs `is` a crossing to side d begins
pub record BeginsCrossing (plan : Plan) (is : List Input) (row : Row) (d : ℕ) : Type 0 where
  pub none_before : (replay plan is).rings.crossing ≡ None
  pub begins : (replay plan (Tick row ∷ is)).rings.crossing ≡ Some d

-- n is as large as the yellow change and red clearance of each phase that is in service as the crossing begins, and as
-- the red revert of each phase that it commits a ring to; each time is the largest by the plans in effect meanwhile,
-- where a commit changes it
pub record TakesAtMost (plan : Plan) (base : List Input) (n : ℕ) (later : List Input) : Type 0 where
  pub clearance : (p : ℕ) → in_service (interval (replay plan base) p) ≡ true →
      largest (λ x. yellow_change x p) plan base later + largest (λ x. red_clear x p) plan base later ≤ n
  pub revert : (r : Ring) (c : ℕ) → (replay plan base).rings.commitment r ≡ Some c → largest (λ x. red_revert x c) plan base later ≤ n

-- The crossing has been completed at one of these later inputs, `limit` ticks after those of `base` at the latest: in
-- the tick `next` after the inputs `older` of them. After it no crossing is under way, side d is served, and each phase
-- that the crossing committed a ring to is Green.
pub record IsCompleted (plan : Plan) (base : List Input) (d limit : ℕ) (later : List Input) : Type 0 where
  pub older : List Input
  pub next : Row
  pub newer : List Input
  pub parts : later ≡ newer ++ (Tick next ∷ older)
  pub under_way : (replay plan (older ++ base)).rings.crossing ≡ Some d
  pub completed : (replay plan (Tick next ∷ (older ++ base))).rings.crossing ≡ None
  pub side : (replay plan (Tick next ∷ (older ++ base))).rings.side ≡ d
  pub started : (r : Ring) (c : ℕ) → (replay plan base).rings.commitment r ≡ Some c → StartsGreen plan (older ++ base) next c
  pub in_time : (replay plan (Tick next ∷ (older ++ base))).now ≤ (replay plan base).now + limit

-- it has been completed in time, or there is time left: fewer than `limit` ticks came after those of `base`
abbrev pub CompletesWithin : Plan → List Input → ℕ → ℕ → List Input → Type 0
CompletesWithin plan base d limit later =
    IsCompleted plan base d limit later ⊎ ((replay plan (later ++ base)).now < (replay plan base).now + limit)

-- A crossing that begins is completed within one tick and that time, whatever inputs come, unless the controller trips
-- before. No preempt that chooses anew is in service meanwhile, and no overlap trails, which holds its phases for longer.
abbrev pub CrossingsComplete : Type 0
CrossingsComplete = (plan : Plan) (is later : List Input) (row : Row) (d n : ℕ) → IsConsistent plan →
    plan.phase_count ≤ 16 → AreTaken plan (later ++ (Tick row ∷ is)) → IsUntripped plan (Tick row ∷ is) later →
    NoneChooses plan (Tick row ∷ is) later → NoneTrails plan (Tick row ∷ is) later → BeginsCrossing plan is row d → TakesAtMost plan (Tick row ∷ is) n later →
    CompletesWithin plan (Tick row ∷ is) d (suc n) later
