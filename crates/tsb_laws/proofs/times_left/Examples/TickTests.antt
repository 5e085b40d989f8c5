-- Properties of each of so many ticks with one row, found by testing one tick after the other.
use Rattle.std.proofs.Common.{zero, suc, ◌≡◌, ℕ, ◌+◌, ◌≤◌, Bool, true, ◌&&◌, List, [], ◌∷◌, ◌++◌, refl, sym, ap, arith, ◌∙◌}
use Rattle.std.proofs.lemmas.Bool.{and_parts}
use Rattle.tsb_step.specs.tsb_types.declared.row.Row.{Row}
use Rattle.tsb_step.specs.tsb_plan.Plan.{Plan}
use Rattle.tsb_step.specs.declared.inputs.Input.{Input}
use Rattle.tsb_step.specs.declared.inputs.Input.TheVariants.{Tick}
use Rattle.tsb_step.specs.State.{State}
use Rattle.tsb_step.specs.Step.{step}
use Rattle.tsb_step.specs.Runs.{replay, AreTaken}
use Rattle.tsb_step.specs.Laws.{IsConsistent, is_unlit}
use Rattle.tsb_laws.specs.Stretches.{IsUntripped}
use Rattle.tsb_laws.specs.TimesLeft.{InEachTick}
use Rattle.tsb_laws.proofs.safety.Examples.TickRuns.{ticks, plan_then, all_taken, none_trips}

-- ## A test of each tick

-- the state so many ticks on
abbrev pub ticked : Row → State → ℕ → State
ticked row s zero = s
ticked row s (suc n) = ticked row (step s (Tick row)) n

-- the test passes in so many ticks
abbrev pub passes : (State → Row → Bool) → Row → State → ℕ → Bool
passes test row s zero = true
passes test row s (suc n) = test s row && passes test row (step s (Tick row)) n

-- what each state shows, from this one to that so many ticks on
abbrev pub shows : {A : Type 0} → (State → A) → Row → State → ℕ → List A
shows f row s zero = f s ∷ []
shows f row s (suc n) = f s ∷ shows f row (step s (Tick row)) n

one_more : (row : Row) (base : List Input) (n : ℕ) → ticks row n ++ (Tick row ∷ base) ≡ Tick row ∷ (ticks row n ++ base)
one_more row base zero = refl
one_more row base (suc n) = ap (λ (l : List Input). Tick row ∷ l) (one_more row base n)

pub ticked_is : (plan : Plan) (row : Row) (base : List Input) (n : ℕ) → ticked row (replay plan base) n ≡ replay plan (ticks row n ++ base)
ticked_is plan row base zero = refl
ticked_is plan row base (suc n) = ticked_is plan row (Tick row ∷ base) n ∙ ap (replay plan) (one_more row base n)

-- so it does in the last of them, and in all before
passes_last : (test : State → Row → Bool) (row : Row) (s : State) (n : ℕ) → passes test row s (suc n) ≡ true → test (ticked row s n) row ≡ true
passes_last test row s zero h = (and_parts (test s row) true h).0
passes_last test row s (suc n) h =
    passes_last test row (step s (Tick row)) n (and_parts (test s row) (passes test row (step s (Tick row)) (suc n)) h).1

passes_before : (test : State → Row → Bool) (row : Row) (s : State) (n : ℕ) → passes test row s (suc n) ≡ true → passes test row s n ≡ true
passes_before test row s zero h = refl
passes_before test row s (suc n) h =
    let both = and_parts (test s row) (passes test row (step s (Tick row)) (suc n)) h in
    rw (both.0, passes_before test row (step s (Tick row)) n both.1) refl

-- and in the first ones, and in those after them
pub passes_first : (test : State → Row → Bool) (row : Row) (s : State) (n k : ℕ) → n ≤ k → passes test row s k ≡ true → passes test row s n ≡ true
passes_first test row s zero k few h = refl
passes_first test row s (suc n) zero few h = absurd (omega (arith, few))
passes_first test row s (suc n) (suc k) few h =
    let both = and_parts (test s row) (passes test row (step s (Tick row)) k) h in
    rw (both.0, passes_first test row (step s (Tick row)) n k (omega (arith, few)) both.1) refl

pub passes_then : (test : State → Row → Bool) (row : Row) (s : State) (n m k : ℕ) → n + m ≡ k → passes test row s k ≡ true → passes test row (ticked row s n) m ≡ true
passes_then test row s zero m k all h = let same : m ≡ k = omega (arith, all) in ap (passes test row s) same ∙ h
passes_then test row s (suc n) m zero all h = absurd (omega (arith, all))
passes_then test row s (suc n) m (suc k) all h =
    passes_then test row (step s (Tick row)) n m k (omega (arith, all)) (and_parts (test s row) (passes test row (step s (Tick row)) k) h).1

pub each_by : (fact : State → Row → Type 0) (test : State → Row → Bool) → ((s : State) (row : Row) → test s row ≡ true → fact s row) →
    (plan : Plan) (row : Row) (base : List Input) (n : ℕ) → passes test row (replay plan base) n ≡ true → InEachTick fact plan base (ticks row n)
each_by fact test means plan row base zero h = tt
each_by fact test means plan row base (suc n) h = (
  each_by fact test means plan row base n (passes_before test row (replay plan base) n h),
  means (replay plan (ticks row n ++ base)) row
      (sym (ap (λ (s : State). test s row) (ticked_is plan row base n)) ∙ passes_last test row (replay plan base) n h),
)

-- ## What the plan alone says

-- no tick changes the plan
pub each_plan : (time : Plan → ℕ) (plan : Plan) (row : Row) (base : List Input) (n : ℕ) →
    InEachTick (λ s row. time s.plan ≡ time (replay plan base).plan) plan base (ticks row n)
each_plan time plan row base zero = tt
each_plan time plan row base (suc n) = (each_plan time plan row base n, ap time (plan_then plan row base n))

-- ## A stretch of ticks

-- a stretch of a run of a consistent plan
pub record IsStretch (plan : Plan) (base later : List Input) : Type 0 where
  pub consistent : IsConsistent plan
  pub taken : AreTaken plan (later ++ base)
  pub untripped : IsUntripped plan base later

pub ticks_stretch : (plan : Plan) (row : Row) (base : List Input) (n : ℕ) → IsConsistent plan → AreTaken plan base → is_unlit plan base ≡ true →
    (replay plan base).now + n ≤ 1000 → IsStretch plan base (ticks row n)
ticks_stretch plan row base n ok taken unlit few = record {
  consistent = ok;
  taken = all_taken plan row base n taken few;
  untripped = none_trips plan row base ok taken unlit n few;
}
