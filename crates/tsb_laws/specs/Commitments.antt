-- Commitments are served: a green that ends for the phase that its ring commits to is followed by that phase, in a time
-- that the plan says. Each law here is the contract of a function in src/safety.rt, and proved there. Times are in
-- tenths of a second, which are ticks.
--
-- A plan here has 16 phases at most, as every plan in memory has: what layers give one another is of phases 1 to 16
-- alone, so that a commitment to a phase of a greater number would wait for ever.
use Rattle.std.specs.Prelude.{◌≡◌, ℕ, ◌+◌, ◌<◌, ◌≤◌, true, max, List, ◌∷◌, ◌++◌, Some, None, ◌⊎◌}
use Rattle.tsb_step.specs.tsb_types.declared.row.Row.{Row}
use Rattle.tsb_step.specs.tsb_types.Intervals.{in_service}
use Rattle.tsb_step.specs.tsb_plan.Plan.{Plan, is_enabled, yellow_change, red_clear, red_revert}
use Rattle.tsb_step.specs.tsb_ring.Rings.{Ring, in_ring}
use Rattle.tsb_step.specs.declared.inputs.Input.{Input}
use Rattle.tsb_step.specs.declared.inputs.Input.TheVariants.{Tick}
use Rattle.tsb_step.specs.State.{State, interval}
use Rattle.tsb_step.specs.Runs.{replay, AreTaken}
use Rattle.tsb_step.specs.Laws.{IsConsistent, OfEveryRun}
use Rattle.tsb_laws.specs.Stretches.{IsUntripped, NoneChooses, NoneTrails, largest, EndsGreen, StartsGreen}

-- ## Enabled phases

-- each phase in service is enabled, and so is each that a ring has committed to
pub record ServesEnabled (s : State) : Type 0 where
  pub serves : (p : ℕ) → in_service (interval s p) ≡ true → is_enabled s.plan p ≡ true
  pub promised : (r : Ring) (c : ℕ) → s.rings.commitment r ≡ Some c → is_enabled s.plan c ≡ true

-- the same after every run, by the plan in effect then
abbrev pub EnabledAreServed : Type 0
EnabledAreServed = OfEveryRun ServesEnabled

-- ## Commitments

-- the tick `row` after the inputs `is` ends the green of p, of ring r; after it r is committed to c, and no crossing
-- is under way
pub record CommitsTo (plan : Plan) (is : List Input) (row : Row) (p : ℕ) (r : Ring) (c : ℕ) : Type 0 where
  pub ended : EndsGreen plan is row p
  pub ringed : in_ring (replay plan is).plan r p ≡ true
  pub made : (replay plan (Tick row ∷ is)).rings.commitment r ≡ Some c
  pub outside : (replay plan (Tick row ∷ is)).rings.crossing ≡ None

-- how long c may have to wait: the larger of the clearance of p, its yellow change and its red clearance, and the red
-- revert of c; each time is the largest by the plans in effect meanwhile, where a commit changes it
abbrev pub wait : Plan → List Input → ℕ → ℕ → List Input → ℕ
wait plan base p c later =
    max (largest (λ x. yellow_change x p) plan base later + largest (λ x. red_clear x p) plan base later)
    (largest (λ x. red_revert x c) plan base later)

-- c has started at one of these later inputs, `limit` ticks after those of `base` at the latest: in the tick `next`
-- after the inputs `older` of them
pub record HasStarted (plan : Plan) (base : List Input) (c limit : ℕ) (later : List Input) : Type 0 where
  pub older : List Input
  pub next : Row
  pub newer : List Input
  pub parts : later ≡ newer ++ (Tick next ∷ older)
  pub started : StartsGreen plan (older ++ base) next c
  pub in_time : (replay plan (Tick next ∷ (older ++ base))).now ≤ (replay plan base).now + limit

-- c has started in time, or there is time left: fewer than `limit` ticks came after those of `base`
abbrev pub StartsWithin : Plan → List Input → ℕ → ℕ → List Input → Type 0
StartsWithin plan base c limit later =
    HasStarted plan base c limit later ⊎ ((replay plan (later ++ base)).now < (replay plan base).now + limit)

-- Outside a crossing the commitment that is made as a green ends starts within that time, whatever inputs come. This
-- needs that the controller does not trip before, that no preempt that chooses anew is in service, and that no overlap
-- trails, which holds its phases for longer.
abbrev pub CommitmentsAreServed : Type 0
CommitmentsAreServed = (plan : Plan) (is later : List Input) (row : Row) (p : ℕ) (r : Ring) (c : ℕ) → IsConsistent plan →
    plan.phase_count ≤ 16 → AreTaken plan (later ++ (Tick row ∷ is)) → IsUntripped plan (Tick row ∷ is) later →
    NoneChooses plan (Tick row ∷ is) later → NoneTrails plan (Tick row ∷ is) later → CommitsTo plan is row p r c → StartsWithin plan (Tick row ∷ is) c (wait plan (Tick row ∷ is) p c later) later
