-- A count that goes on by one in each tick up to a limit, along a run and over inputs of every kind; and what a status
-- shows of a ring.
use Rattle.std.proofs.Common.{◌≡◌, ℕ, ◌+◌, ◌-◌, ◌<◌, ◌≤◌, nat_le, Bool, true, false, if◌then◌else◌, max, List, [], ◌∷◌, ◌++◌, Option, Some, None, refl, subst, arith, ◌∙◌}
use Rattle.std.proofs.lemmas.Bool.Decides.{nat_tests}
use Rattle.tsb_step.specs.tsb_cells.declared.timer.Timer.{Timer}
use Rattle.tsb_step.specs.tsb_cells.declared.timer.Timer.TheVariants.{On}
use Rattle.tsb_step.specs.tsb_types.declared.row.Row.{Row}
use Rattle.tsb_step.specs.tsb_plan.Plan.{Plan}
use Rattle.tsb_step.specs.declared.inputs.Input.{Input}
use Rattle.tsb_step.specs.declared.inputs.Input.TheVariants as inputs
use Rattle.tsb_step.specs.declared.inputs.Input.TheVariants.{Tick}
use Rattle.tsb_step.specs.State.{State}
use Rattle.tsb_step.specs.Status.{where_is}
use Rattle.tsb_step.specs.Step.{step}
use Rattle.tsb_step.specs.Waits.{left}
use Rattle.tsb_step.specs.Runs.{replay, AreTaken}
use Rattle.tsb_step.specs.Laws.{IsConsistent}
use Rattle.tsb_step.specs.TimeLaws.{is_tick}
use Rattle.tsb_step.proofs.ClearLemmas.{one_later}
use Rattle.tsb_laws.specs.Stretches.{IsUntripped}
use Rattle.tsb_laws.specs.TimesLeft.{InEachTick, PassesThen}
use Rattle.tsb_laws.proofs.safety.StretchLemmas.{dark_now}
use Rattle.tsb_laws.proofs.operation.step.PhaseTimeLemmas.{IsTimed}
use Rattle.tsb_laws.proofs.operation.green.PressedRunLemmas.{timed_run, clock_stays}

-- ## Along a stretch

-- the timers of a phase as the stretch begins
pub timed_first : (plan : Plan) (base later : List Input) → IsConsistent plan → AreTaken plan (later ++ base) → IsUntripped plan base later → (p : ℕ) →
    IsTimed ((replay plan base).phases p)
timed_first plan base [] ok taken dark p = timed_run plan base ok taken dark p
timed_first plan base (i ∷ later) ok taken dark p = timed_first plan base later ok taken.0 dark.0 p

pub clock_on : (plan : Plan) (base later : List Input) → IsUntripped plan base later → (replay plan base).now ≤ (replay plan (later ++ base)).now
clock_on plan base [] dark = omega arith
clock_on plan base (inputs.Tick row ∷ later) dark =
    let before : (replay plan base).now ≤ (replay plan (later ++ base)).now = clock_on plan base later dark.0 in
    let now : (replay plan (Tick row ∷ (later ++ base))).now ≡ (replay plan (later ++ base)).now + 1 = one_later (replay plan (later ++ base)) row in
    omega (arith, before, now)
clock_on plan base (i ∷ later) dark =
    let before : (replay plan base).now ≤ (replay plan (later ++ base)).now = clock_on plan base later dark.0 in
    let now : (replay plan (i ∷ (later ++ base))).now ≡ (replay plan (later ++ base)).now =
    clock_stays (replay plan (later ++ base)) i refl (dark_now plan base later dark.0) in
    omega (arith, before, now)

-- ## A count

-- no input but a tick changes it
abbrev pub StaysOverOthers : (State → Type 0) → Type 0
StaysOverOthers Of = (s : State) (i : Input) → is_tick i ≡ false → s.trip ≡ None → Of s → Of (step s i)

-- below the limit it goes on by one in a tick
abbrev pub GoesOn : Plan → (State → Row → Type 0) → (ℕ → State → Type 0) → ℕ → Type 0
GoesOn plan fact Counts limit = (is : List Input) (row : Row) (n : ℕ) → AreTaken plan is → (replay plan is).trip ≡ None → fact (replay plan is) row →
    n + 1 < limit → Counts n (replay plan is) → Counts (n + 1) (replay plan (Tick row ∷ is))

-- the last tick, in which it comes to the limit, ends something
abbrev pub EndsAt : Plan → (State → Row → Type 0) → (ℕ → State → Type 0) → ℕ → ℕ → (State → Type 0) → Type 0
EndsAt plan fact Counts limit last Ended = (is : List Input) (row : Row) (n : ℕ) → AreTaken plan is → (replay plan is).trip ≡ None →
    fact (replay plan is) row → (replay plan is).now + 1 ≡ last → limit ≤ n + 1 → Counts n (replay plan is) → Ended (replay plan (Tick row ∷ is))

pub not_long : (time n : ℕ) → n < time → nat_le time n ≡ false
not_long time n h = grind (arith, nat_tests, h)

pub long : (time n : ℕ) → time ≤ n → nat_le time n ≡ true
long time n h = grind (arith, nat_tests, h)

module _ (plan : Plan) (base : List Input) (fact : State → Row → Type 0) (Counts : ℕ → State → Type 0) (limit start : ℕ)
    (others : (n : ℕ) → StaysOverOthers (Counts n)) (goes : GoesOn plan fact Counts limit) (begins : Counts start (replay plan base)) where
  -- before the tick in which it comes to the limit
  pub counted : (later : List Input) → AreTaken plan (later ++ base) → IsUntripped plan base later → InEachTick fact plan base later →
      (replay plan (later ++ base)).now < (replay plan base).now + max 1 (limit - start) →
      Counts (start + ((replay plan (later ++ base)).now - (replay plan base).now)) (replay plan (later ++ base))
  counted [] taken dark each early =
      let same : start ≡ start + ((replay plan base).now - (replay plan base).now) = omega arith in
      subst (λ (k : ℕ). Counts k (replay plan base)) same begins
  counted (inputs.Tick row ∷ later) taken dark each early =
      let since : (replay plan base).now ≤ (replay plan (later ++ base)).now = clock_on plan base later dark.0 in
      let now : (replay plan (Tick row ∷ (later ++ base))).now ≡ (replay plan (later ++ base)).now + 1 = one_later (replay plan (later ++ base)) row in
      let was : Counts (start + ((replay plan (later ++ base)).now - (replay plan base).now)) (replay plan (later ++ base)) =
      counted later taken.0 dark.0 each.0 (omega (arith, since, now, early)) in
      let more : start + ((replay plan (later ++ base)).now - (replay plan base).now) + 1 ≡ start + ((replay plan (Tick row ∷ (later ++ base))).now - (replay plan base).now) =
      omega (arith, since, now) in
      let low : start + ((replay plan (later ++ base)).now - (replay plan base).now) + 1 < limit = omega (arith, since, now, early) in
      subst (λ (k : ℕ). Counts k (replay plan (Tick row ∷ (later ++ base)))) more
      (goes (later ++ base) row (start + ((replay plan (later ++ base)).now - (replay plan base).now)) taken.0 (dark_now plan base later dark.0) each.1 low was)
  counted (i ∷ later) taken dark each early =
      let now : (replay plan (i ∷ (later ++ base))).now ≡ (replay plan (later ++ base)).now =
      clock_stays (replay plan (later ++ base)) i refl (dark_now plan base later dark.0) in
      let was : Counts (start + ((replay plan (later ++ base)).now - (replay plan base).now)) (replay plan (later ++ base)) =
      counted later taken.0 dark.0 each (omega (arith, now, early)) in
      let same : start + ((replay plan (later ++ base)).now - (replay plan base).now) ≡ start + ((replay plan (i ∷ (later ++ base))).now - (replay plan base).now) =
      omega (arith, now) in
      subst (λ (k : ℕ). Counts k (replay plan (i ∷ (later ++ base)))) same
      (others (start + ((replay plan (later ++ base)).now - (replay plan base).now)) (replay plan (later ++ base)) i refl (dark_now plan base later dark.0) was)

  -- and with it
  pub ended : (Ended : State → Type 0) → StaysOverOthers Ended →
      EndsAt plan fact Counts limit ((replay plan base).now + max 1 (limit - start)) Ended →
      (later : List Input) → AreTaken plan (later ++ base) → IsUntripped plan base later → InEachTick fact plan base later →
      (replay plan (later ++ base)).now ≡ (replay plan base).now + max 1 (limit - start) → Ended (replay plan (later ++ base))
  ended Ended stays ends [] taken dark each now = absurd (omega (arith, now))
  ended Ended stays ends (inputs.Tick row ∷ later) taken dark each last =
      let since : (replay plan base).now ≤ (replay plan (later ++ base)).now = clock_on plan base later dark.0 in
      let now : (replay plan (Tick row ∷ (later ++ base))).now ≡ (replay plan (later ++ base)).now + 1 = one_later (replay plan (later ++ base)) row in
      ends (later ++ base) row (start + ((replay plan (later ++ base)).now - (replay plan base).now)) taken.0 (dark_now plan base later dark.0) each.1
      (omega (arith, now, last)) (omega (arith, since, now, last)) (counted later taken.0 dark.0 each.0 (omega (arith, now, last)))
  ended Ended stays ends (i ∷ later) taken dark each last =
      let now : (replay plan (i ∷ (later ++ base))).now ≡ (replay plan (later ++ base)).now =
      clock_stays (replay plan (later ++ base)) i refl (dark_now plan base later dark.0) in
      stays (replay plan (later ++ base)) i refl (dark_now plan base later dark.0) (ended Ended stays ends later taken.0 dark.0 each (omega (arith, now, last)))

  -- a test of a tick that compares the limit with the count passes in just the tick in which the rest runs out
  pub passes_then : (test : State → Row → Bool) →
      ((is : List Input) (row : Row) (n : ℕ) → AreTaken plan is → fact (replay plan is) row → Counts n (replay plan is) → test (replay plan is) row ≡ nat_le limit (n + 1)) →
      (later : List Input) (row : Row) (n : ℕ) → limit - start ≡ n → AreTaken plan (later ++ base) → IsUntripped plan base later →
      InEachTick fact plan base (Tick row ∷ later) → PassesThen test plan base later row n
  passes_then test reads later row n some taken dark each = record {
    before = λ early. read (omega (arith, some, early))
        ∙ not_long limit (start + ((replay plan (later ++ base)).now - (replay plan base).now) + 1) (omega (arith, since, some, early));
    at_end = λ now. read (omega (arith, some, now))
        ∙ long limit (start + ((replay plan (later ++ base)).now - (replay plan base).now) + 1) (omega (arith, since, some, now));
  }
    where
      since : (replay plan base).now ≤ (replay plan (later ++ base)).now
      since = clock_on plan base later dark

      read : (replay plan (later ++ base)).now < (replay plan base).now + max 1 (limit - start) →
          test (replay plan (later ++ base)) row ≡ nat_le limit (start + ((replay plan (later ++ base)).now - (replay plan base).now) + 1)
      read early =
          reads (later ++ base) row (start + ((replay plan (later ++ base)).now - (replay plan base).now)) taken each.1
          (counted later taken dark each.0 early)

-- ## What is shown

pub where_shown : (test : ℕ → Bool) (value : ℕ → ℕ) (o : Option ℕ) (p n : ℕ) → o ≡ Some p → where_is test value o ≡ Some n →
    (test p ≡ true) × (value p ≡ n)
where_shown test value o p n e h = go (test p) refl (rw e at h)
  where
    go : (b : Bool) → test p ≡ b → (if b then Some (value p) else None) ≡ Some n → (test p ≡ true) × (value p ≡ n)
    go true k l = (k, cc)
    go false k l = absurd cc

-- what is left of a time by a timer that runs
pub left_on : (time n k : ℕ) (t : Timer) → t ≡ On k → left time t ≡ n → time - k ≡ n
left_on time n k t e h = rw e at h
