-- When the local counter is in step with the cycle and the offset, and that a pattern that is selected goes on from
-- where it is. The laws here are the contracts of functions in src/operation.rt, and proved there.
use Rattle.std.specs.Prelude.{◌≡◌, ◌≢◌, ℕ, ◌-◌, ◌≤◌, ◌%◌, Bool, true, false, List, ◌∷◌, ◌++◌, Some, None, ◌⊎◌}
use Rattle.tsb_step.specs.tsb_plan.declared.plan.patterns.CorrectionMode.TheVariants.{AtOnce}
use Rattle.tsb_step.specs.tsb_plan.Parts.{cycle, correction_mode, correction_limit}
use Rattle.tsb_step.specs.tsb_plan.Plan.{Plan}
use Rattle.tsb_step.specs.tsb_coord.Coordinated.{is_pattern}
use Rattle.tsb_step.specs.tsb_coord.Laws.{IsLongEnough}
use Rattle.tsb_step.specs.declared.inputs.Input.{Input}
use Rattle.tsb_step.specs.declared.inputs.Input.TheVariants.{Pattern, Commit, Clock}
use Rattle.tsb_step.specs.State.{State}
use Rattle.tsb_step.specs.Tick.{runs}
use Rattle.tsb_step.specs.Signs.{local, IsInStep}
use Rattle.tsb_step.specs.Step.{step}
use Rattle.tsb_step.specs.Runs.{replay, AreTaken}
use Rattle.tsb_step.specs.Laws.{IsConsistent, OfEveryRun}
use Rattle.tsb_laws.specs.CoordinatedGreens.{HasGoneOn}

-- ## In step

-- With correction mode 0 the local counter is in step in every state (`InStepAtOnce` of tsb_step).

-- the input selects no pattern, and sets no clock
abbrev pub selects_none : State → Input → Bool
selects_none s (Pattern n) = false
selects_none s (Clock m) = false
selects_none s i = true

-- in free operation, or with mode 0, what is selected begins in step
abbrev pub BeginsInStep : State → Type 0
BeginsInStep s = (runs s ≡ None) ⊎ (correction_mode s.plan ≡ AtOnce)

-- A pattern that was selected in free operation is in step, in whatever mode, and so is one that was selected with mode
-- 0: until another is selected or a clock is set, and whatever is committed meanwhile.
abbrev pub SelectedInStep : Type 0
SelectedInStep = (plan : Plan) (is later : List Input) (n : ℕ) → BeginsInStep (replay plan is) →
    HasGoneOn selects_none plan (Pattern n ∷ is) later → IsInStep (replay plan (later ++ (Pattern n ∷ is)))

-- neither selects a pattern, nor sets a clock, nor commits
abbrev pub keeps_in_step : Input → Bool
keeps_in_step (Pattern n) = false
keeps_in_step (Clock m) = false
keeps_in_step (Commit station) = false
keeps_in_step i = true

-- the next input leaves it in step, unless it selects a pattern, sets a clock or commits
abbrev pub StaysInStep : State → Type 0
StaysInStep s = (i : Input) → keeps_in_step i ≡ true → IsInStep s → IsInStep (step s i)

-- Once it is in step it stays so, by whatever mode it came there.
abbrev pub OnceInStep : Type 0
OnceInStep = OfEveryRun StaysInStep

-- from s, in which pattern n has just been selected, to this state so many ticks have passed as its mode and its limit
-- need, from as far ahead as it began
abbrev pub HasHadTime : State → ℕ → State → Type 0
HasHadTime s n after = IsLongEnough (correction_mode s.plan) s.plan n s.correction (after.now - s.now)

-- A used pattern was selected, whatever ran before it; no later input selected a pattern, set a clock or committed, and its counter
-- has had its time.
pub record HasComeSince (plan : Plan) (is later : List Input) (n : ℕ) : Type 0 where
  pub used : is_pattern (replay plan (Pattern n ∷ is)).plan n ≡ true
  pub limited : correction_limit (replay plan (Pattern n ∷ is)).plan ≤ 50
  pub kept : HasGoneOn (λ s i. keeps_in_step i) plan (Pattern n ∷ is) later
  pub long : HasHadTime (replay plan (Pattern n ∷ is)) n (replay plan (later ++ (Pattern n ∷ is)))

-- Then it is in step.
abbrev pub ComeIntoStep : Type 0
ComeIntoStep = (plan : Plan) (is later : List Input) (n : ℕ) → IsConsistent plan → AreTaken plan (later ++ (Pattern n ∷ is)) →
    HasComeSince plan is later n → IsInStep (replay plan (later ++ (Pattern n ∷ is)))

-- ## Where a pattern is selected

-- pattern n, which is used, begins at the local counter l of the pattern that runs, within its own cycle
abbrev pub GoesOnFrom : State → Type 0
GoesOnFrom s = (n l : ℕ) → is_pattern s.plan n ≡ true → correction_mode s.plan ≢ AtOnce → local s ≡ Some l →
    local (step s (Pattern n)) ≡ Some (l % cycle s.plan n)

-- So a selection moves no local counter, where the mode is not 0.
abbrev pub SelectionsGoOn : Type 0
SelectionsGoOn = OfEveryRun GoesOnFrom
