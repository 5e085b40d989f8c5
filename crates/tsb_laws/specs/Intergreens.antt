-- Intergreens: what lies between the tick that ends the green of a phase and a later one that starts a phase which is
-- not concurrent with it, whatever inputs came between. Each law here is the contract of a function in src/safety.rt,
-- and proved there. Times are in tenths of a second, which are ticks.
--
-- Each time is by the plan in effect in the tick that ends what it times. That is why a commit between is no exception.
use Rattle.std.specs.Prelude.{◌≡◌, ◌≢◌, ℕ, ◌+◌, ◌≤◌, Bool, false, not, ◌||◌, List, ◌∷◌, ◌++◌, Option}
use Rattle.tsb_step.specs.tsb_types.declared.interval.Interval.{Interval}
use Rattle.tsb_step.specs.tsb_types.declared.interval.PedestrianInterval.TheVariants.{Walk}
use Rattle.tsb_step.specs.tsb_types.declared.row.Row.{Row}
use Rattle.tsb_step.specs.tsb_types.Intervals.{is_yellow, is_red_clear, is_walk, is_dont_walk}
use Rattle.tsb_step.specs.tsb_plan.Plan.{Plan, is_concurrent, yellow_change, red_clear}
use Rattle.tsb_step.specs.tsb_phase.Pedestrian.{ended_by, walk_time, clearance_time}
use Rattle.tsb_step.specs.declared.inputs.Input.{Input}
use Rattle.tsb_step.specs.declared.inputs.Input.TheVariants.{Tick}
use Rattle.tsb_step.specs.State.{State, interval, pedestrian_part}
use Rattle.tsb_step.specs.Tick.{phases_given}
use Rattle.tsb_step.specs.Runs.{replay, AreTaken}
use Rattle.tsb_step.specs.Laws.{IsConsistent}
use Rattle.tsb_laws.specs.Stretches.{IsUntripped, due, EndsGreen, StartsGreen}

-- ## From the end of a green

-- in yellow change or in red clearance
abbrev pub is_clearing : Interval → Bool
is_clearing i = is_yellow i || is_red_clear i

-- the yellow change time of p, by the plan in effect as its yellow ended
abbrev pub yellow_due : Plan → ℕ → List Input → List Input → ℕ
yellow_due plan p = due (λ s. is_yellow (interval s p)) (λ s i. yellow_change s.plan p) plan

-- its red clearance time, by the plan in effect as its clearance ended, or as the tick came that found it over
abbrev pub red_clear_due : Plan → ℕ → List Input → List Input → ℕ
red_clear_due plan p = due (λ s. is_clearing (interval s p)) (λ s i. red_clear s.plan p) plan

-- the tick `row` after `is` ends the green of p; the tick `next`, after the inputs `later` besides, starts q, which is
-- not concurrent with p by the plan in effect then. The controller has not tripped between. q may be p itself.
pub record AreApart (plan : Plan) (is : List Input) (row : Row) (p : ℕ) (later : List Input) (next : Row) (q : ℕ) : Type 0 where
  pub ended : EndsGreen plan is row p
  pub untripped : IsUntripped plan (Tick row ∷ is) later
  pub started : StartsGreen plan (later ++ (Tick row ∷ is)) next q
  pub apart : is_concurrent (replay plan (later ++ (Tick row ∷ is))).plan p q ≡ false

-- between the two ticks lies at least the yellow change and the red clearance of p
abbrev pub HasCleared : Plan → List Input → Row → ℕ → List Input → Row → Type 0
HasCleared plan is row p later next =
    (replay plan (Tick row ∷ is)).now
    + yellow_due plan p (Tick row ∷ is) (Tick next ∷ later)
    + red_clear_due plan p (Tick row ∷ is) (Tick next ∷ later)
    ≤ (replay plan (Tick next ∷ (later ++ (Tick row ∷ is)))).now

-- So it is in every run, across inputs of every kind.
abbrev pub IntergreensHold : Type 0
IntergreensHold = (plan : Plan) (is later : List Input) (row next : Row) (p q : ℕ) → IsConsistent plan →
    AreTaken plan (later ++ (Tick row ∷ is)) → AreApart plan is row p later next q → HasCleared plan is row p later next

-- ## From the beginning of a walk

-- a time of phase p that a preempt may cut short: by the plan in effect in this tick, and by the preempt that ends p in
-- it, if one does
abbrev pub in_tick : (Plan → ℕ → Option ℕ → ℕ) → ℕ → State → Input → ℕ
in_tick time p s (Tick row) = time s.plan p (ended_by (phases_given s row) p)
in_tick time p s i = 0

-- the walk time of p as its walk ended
abbrev pub walk_due : Plan → ℕ → List Input → List Input → ℕ
walk_due plan p = due (λ s. is_walk (pedestrian_part s p)) (in_tick walk_time p) plan

-- its pedestrian clearance time as its pedestrians were shown DontWalk again
abbrev pub clearance_due : Plan → ℕ → List Input → List Input → ℕ
clearance_due plan p = due (λ s. not (is_dont_walk (pedestrian_part s p))) (in_tick clearance_time p) plan

-- the tick `row` after `is` begins a walk of p; the tick `next`, after the inputs `later` besides, starts q, which is
-- not concurrent with p by the plan in effect then. The controller has not tripped between.
pub record WalksBefore (plan : Plan) (is : List Input) (row : Row) (p : ℕ) (later : List Input) (next : Row) (q : ℕ) : Type 0 where
  pub no_walk : pedestrian_part (replay plan is) p ≢ Walk
  pub walks : pedestrian_part (replay plan (Tick row ∷ is)) p ≡ Walk
  pub untripped : IsUntripped plan (Tick row ∷ is) later
  pub started : StartsGreen plan (later ++ (Tick row ∷ is)) next q
  pub apart : is_concurrent (replay plan (later ++ (Tick row ∷ is))).plan p q ≡ false

-- Between the two ticks, `newer` being the inputs after and `older` those before it, a tick ends the green of p. From
-- the beginning of the walk to it lies at least p's walk and its pedestrian clearance, and from it to the start of q at
-- least p's yellow change and red clearance.
pub record HasWalked (plan : Plan) (is : List Input) (row : Row) (p : ℕ) (later : List Input) (next : Row) : Type 0 where
  pub older : List Input
  pub last : Row
  pub newer : List Input
  pub parts : later ≡ newer ++ (Tick last ∷ older)
  pub ended : EndsGreen plan (older ++ (Tick row ∷ is)) last p
  pub walked : (replay plan (Tick row ∷ is)).now
      + walk_due plan p (Tick row ∷ is) (Tick last ∷ older)
      + clearance_due plan p (Tick row ∷ is) (Tick last ∷ older)
      ≤ (replay plan (Tick last ∷ (older ++ (Tick row ∷ is)))).now
  pub cleared : HasCleared plan (older ++ (Tick row ∷ is)) last p newer next

-- So it is in every run, across inputs of every kind.
abbrev pub WalksAreCleared : Type 0
WalksAreCleared = (plan : Plan) (is later : List Input) (row next : Row) (p q : ℕ) → IsConsistent plan →
    AreTaken plan (later ++ (Tick row ∷ is)) → WalksBefore plan is row p later next q → HasWalked plan is row p later next
