-- The inputs of a run that remain, kept so that they can be given again: the rows of its ticks as a log has them, and the
-- other inputs, each with the tick in force. Inputs are piled up, the newest first; what is kept stands the oldest first.
use Rattle.std.specs.Prelude.{◌≡◌, ℕ, ◌+◌, false, List, [], ◌∷◌, ◌++◌, if◌then◌else◌}
use Rattle.tsb_types.specs.Sets.{all_off, is_same_row}
use Rattle.tsb_types.specs.declared.row.Row.{Row}
use Rattle.tsb_log_text.specs.declared.log.LogRow.{LogRow}
use Rattle.tsb_step.specs.tsb_plan.Plan.{Plan}
use Rattle.tsb_step.specs.declared.inputs.Input.{Input}
use Rattle.tsb_step.specs.declared.inputs.Input.TheVariants.{Tick}
use Rattle.tsb_step.specs.Runs.{replay}
use Rattle.tsb_text.specs.declared.kept.Other.{Other}
use Rattle.tsb_text.specs.Later.{row_tick, without_later}

-- ## Inputs

-- the row of the newest tick; all inputs are off before the first
abbrev pub last_row : List Input → Row
last_row [] = all_off
last_row (Tick row ∷ is) = row
last_row (i ∷ is) = last_row is

-- an input that is no tick
abbrev pub IsNoTick : Input → Type 0
IsNoTick (Tick row) = ⊥
IsNoTick i = Unit {0}

-- ## What is kept of them

-- a row for each tick whose inputs differ from those of the tick before it, and the inputs that are no ticks
pub record Keeping : Type 0 where
  pub rows : List LogRow
  pub others : List Other

-- these rows and these other inputs
abbrev pub keeping : List LogRow → List Other → Keeping
keeping rows others = record { rows = rows; others = others }

-- no input has come
abbrev pub nothing_kept : Keeping
nothing_kept = keeping [] []

-- the last of these rows, where this one is before all of them
abbrev pub row_behind : Row → List LogRow → Row
row_behind before [] = before
row_behind before (r ∷ rs) = row_behind r.row rs

-- the row of the last tick; all inputs are off before the first row
abbrev pub row_kept : Keeping → Row
row_kept kept = row_behind all_off kept.rows

-- the row of this tick, where it differs from the last
abbrev pub new_rows : ℕ → Row → Keeping → List LogRow
new_rows tick row kept = if is_same_row row (row_kept kept) then [] else record { tick = tick; row = row } ∷ []

-- this tick has come, with these inputs on
abbrev pub with_row : ℕ → Row → Keeping → Keeping
with_row tick row kept = keeping (kept.rows ++ new_rows tick row kept) kept.others

-- an input that is no tick has come, with this tick in force
abbrev pub with_other : ℕ → Input → Keeping → Keeping
with_other tick i kept = keeping kept.rows (kept.others ++ record { tick = tick; input = i } ∷ [])

-- an input has come, with this tick in force before it
abbrev pub with_input : Input → ℕ → Keeping → Keeping
with_input (Tick row) tick kept = with_row (tick + 1) row kept
with_input i tick kept = with_other tick i kept

-- what is kept of all inputs from power-up
abbrev pub kept_of : Plan → List Input → Keeping
kept_of plan [] = nothing_kept
kept_of plan (i ∷ is) = with_input i (replay plan is).now (kept_of plan is)

-- ## Room

-- what is kept, and for how many more rows and other inputs there is memory
pub record Stock : Type 0 where
  pub kept : Keeping
  pub row_room : ℕ
  pub other_room : ℕ

-- there is no room to keep an input: none for the row of a tick that differs from the last, or none for another input
abbrev pub LacksRoom : Input → Stock → Type 0
LacksRoom (Tick row) stock = (is_same_row row (row_kept stock.kept) ≡ false) × (stock.row_room ≡ 0)
LacksRoom i stock = stock.other_room ≡ 0

-- ## Back to a tick

-- the tick in force when another input came
abbrev pub other_tick : Other → ℕ
other_tick o = o.tick

-- what is kept up to a tick
abbrev pub gone_back : ℕ → Keeping → Keeping
gone_back t kept = keeping (without_later row_tick t kept.rows) (without_later other_tick t kept.others)

-- the newest input that is no tick is taken back
abbrev pub DropsOther : Keeping → Keeping → Type 0
DropsOther old new = (others : List Other) (last : Other) → old.others ≡ others ++ last ∷ [] → new ≡ keeping old.rows others
