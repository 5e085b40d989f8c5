-- What holds of all that is kept. Each law here is the contract of a function in src/kept/laws.rt, and proved there.
use Rattle.std.specs.Prelude.{◌≡◌, ℕ, zero, suc, ◌+◌, ◌-◌, List, [], ◌∷◌, ◌++◌, false}
use Rattle.tsb_types.specs.Sets.{all_off, is_same_row}
use Rattle.tsb_types.specs.declared.row.Row.{Row}
use Rattle.tsb_log_text.specs.declared.log.LogRow.{LogRow}
use Rattle.tsb_log_text.specs.Logs.{Rises, row_at}
use Rattle.tsb_step.specs.tsb_plan.Plan.{Plan}
use Rattle.tsb_step.specs.declared.inputs.Input.{Input}
use Rattle.tsb_step.specs.declared.inputs.Input.TheVariants.{Tick}
use Rattle.tsb_step.specs.Runs.{replay}
use Rattle.tsb_text.specs.declared.kept.Other.{Other}
use Rattle.tsb_text.specs.kept.Kept.{Keeping, kept_of}

-- whatever inputs came later, the row in force at a tick is the one that it was given
abbrev pub RowsAreGiven : Type 0
RowsAreGiven = (plan : Plan) (later : List Input) (row : Row) (is : List Input) →
    row_at (kept_of plan (later ++ Tick row ∷ is)).rows (replay plan (Tick row ∷ is)).now ≡ row

-- each row differs from the one before it, where this one is before all of them
abbrev pub Differ : Row → List LogRow → Type 0
Differ before [] = Unit {0}
Differ before (r ∷ rs) = (is_same_row r.row before ≡ false) × Differ r.row rs

-- the ticks of the rows rise, and each row differs from the one before it
abbrev pub RowsAreFew : Type 0
RowsAreFew = (plan : Plan) (is : List Input) → Rises 0 (kept_of plan is).rows × Differ all_off (kept_of plan is).rows

-- ## The inputs again

-- so many ticks more after tick t, with the rows in force there
abbrev pub with_ticks : List LogRow → ℕ → ℕ → List Input → List Input
with_ticks rows zero t is = is
with_ticks rows (suc n) t is = Tick (row_at rows (t + n + 1)) ∷ with_ticks rows n t is

-- ticks up to each of these other inputs, and it; then ticks up to `now`
abbrev pub given_from : List LogRow → ℕ → List Other → ℕ → List Input → List Input
given_from rows now [] t is = with_ticks rows (now - t) t is
given_from rows now (o ∷ os) t is = given_from rows now os o.tick (o.input ∷ with_ticks rows (o.tick - t) t is)

-- the inputs that this is kept of, where this tick is in force after them
abbrev pub given_again : Keeping → ℕ → List Input
given_again kept now = given_from kept.rows now kept.others 0 []

-- what is kept gives the inputs again
abbrev pub GivesAgain : Type 0
GivesAgain = (plan : Plan) (is : List Input) → given_again (kept_of plan is) (replay plan is).now ≡ is
