-- An older bound for the dwell of a preempt: NOT PROVED, AND FALSE. `w` is as large as walk and clearance of one plan
-- together, and a commit between the two can make them longer; docs/trust/SAFETY.md has a run. The bound that holds is
-- DwellsAreReached of PreemptStages: it takes the largest walk and the largest clearance of each phase. Times are in
-- tenths of a second, which are ticks.
use Rattle.std.specs.Prelude.{◌≡◌, ℕ, ◌+◌, ◌*◌, ◌<◌, ◌≤◌, ◌==◌, Bool, true, false, not, ◌&&◌, max, List, ◌∷◌, ◌++◌, Option, Some, None, ◌⊎◌}
use Rattle.tsb_step.specs.tsb_types.declared.row.Row.{Row}
use Rattle.tsb_step.specs.tsb_plan.Parts.{is_dwell_phase, preempt_minimum_green, track_green}
use Rattle.tsb_step.specs.tsb_plan.Plan.{Plan, yellow_change, red_clear, red_revert}
use Rattle.tsb_step.specs.tsb_phase.Pedestrian.{walk_time, clearance_time}
use Rattle.tsb_step.specs.tsb_preempt.Preempts.{is_dwell, is_exit}
use Rattle.tsb_step.specs.tsb_preempt.Service.{Service, has_track, all_green, begun}
use Rattle.tsb_step.specs.declared.inputs.Input.{Input}
use Rattle.tsb_step.specs.declared.inputs.Input.TheVariants.{Tick}
use Rattle.tsb_step.specs.State.{State, interval}
use Rattle.tsb_step.specs.Runs.{replay, AreTaken}
use Rattle.tsb_step.specs.Laws.{IsConsistent}
use Rattle.tsb_laws.specs.Stretches.{IsUntripped, has_held_since, largest}

-- the tick `row` after the inputs `is` begins the service of preempt n
abbrev pub BeginsService : Plan → List Input → Row → ℕ → Type 0
BeginsService plan is row n = (replay plan (Tick row ∷ is)).preempts.service ≡ Some (begun (replay plan is).plan n)

-- preempt n is in service, in Track or in Dwell. So it stays while its input is on, no lower one asks for service, and
-- it has no maximum presence
abbrev pub is_served : ℕ → Option Service → Bool
is_served n None = false
is_served n (Some x) = x.preempt == n && not (is_exit x.stage)

-- preempt n is in Dwell
abbrev pub is_dwelling : ℕ → Option Service → Bool
is_dwelling n None = false
is_dwelling n (Some x) = x.preempt == n && is_dwell x.stage

-- and all of its dwell phases are Green
abbrev pub has_arrived : ℕ → State → Bool
has_arrived n s = is_dwelling n s.preempts.service && all_green s.plan (interval s) (is_dwell_phase s.plan n)

-- g, w, c and t are as large as its minimum green; as the walk and pedestrian clearance together of each phase that it
-- ends; as the clearance and as the red revert of each phase; and as its track green. Each time is the largest by the
-- plans in effect meanwhile
pub record LastAtMost (plan : Plan) (base : List Input) (n g w c t : ℕ) (later : List Input) : Type 0 where
  pub green : largest (λ x. preempt_minimum_green x n) plan base later ≤ g
  pub walk : (p : ℕ) → largest (λ x. walk_time x p (Some n) + clearance_time x p (Some n)) plan base later ≤ w
  pub clearance : (p : ℕ) → largest (λ x. yellow_change x p) plan base later + largest (λ x. red_clear x p) plan base later ≤ c
  pub revert : (p : ℕ) → largest (λ x. red_revert x p) plan base later ≤ c
  pub track : largest (λ x. track_green x n) plan base later ≤ t

-- how long it may take: what is in service ends and clears, an older commitment starts, ends and clears; with a track
-- list the track phases besides
abbrev pub time_to_dwell : Bool → ℕ → ℕ → ℕ → ℕ → ℕ
time_to_dwell false g w c t = max g w + 2 * c + g + 4
time_to_dwell true g w c t = max g w + 2 * c + g + 4 + t + max g w + c + 2

-- it has arrived after one of these later inputs, so many ticks after those of `base` at the latest
pub record Arrives (plan : Plan) (base : List Input) (n limit : ℕ) (later : List Input) : Type 0 where
  pub older : List Input
  pub newer : List Input
  pub parts : later ≡ newer ++ older
  pub arrived : has_arrived n (replay plan (older ++ base)) ≡ true
  pub in_time : (replay plan (older ++ base)).now ≤ (replay plan base).now + limit

-- FALSE: a preempt that stays in service has all of its dwell phases Green within that time, whatever inputs come,
-- unless the controller trips before.
abbrev pub PreemptsReachDwell : Type 0
PreemptsReachDwell = (plan : Plan) (is later : List Input) (row : Row) (n g w c t limit : ℕ) → IsConsistent plan →
    plan.phase_count ≤ 16 → AreTaken plan (later ++ (Tick row ∷ is)) → IsUntripped plan (Tick row ∷ is) later →
    BeginsService plan is row n →
    has_held_since (λ s. is_served n s.preempts.service) plan (Tick row ∷ is) later ≡ true →
    LastAtMost plan (Tick row ∷ is) n g w c t later →
    limit ≡ time_to_dwell (has_track (replay plan is).plan n) g w c t →
    Arrives plan (Tick row ∷ is) n limit later
    ⊎ ((replay plan (later ++ (Tick row ∷ is))).now < (replay plan (Tick row ∷ is)).now + limit)
