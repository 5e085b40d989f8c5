-- The rows of a log of which it is told which inputs are on in each tick: one where they differ from the row before.
use Rattle.std.specs.Prelude.{ℕ, zero, suc, List, [], ◌∷◌, ◌++◌, if◌then◌else◌}
use Rattle.tsb_types.specs.Sets.{all_off, is_same_row}
use Rattle.tsb_types.specs.declared.limits.TheConstants.{TICKS}
use Rattle.tsb_types.specs.declared.row.Row.{Row}
use Rattle.tsb_log_text.specs.declared.log.LogRow.{LogRow}

-- the row of a tick, where its inputs differ from those before
abbrev pub change : ℕ → Row → Row → List LogRow
change tick before now = if is_same_row now before then [] else record { tick = tick; row = now } ∷ []

-- the rows of so many ticks from this one on, in which the inputs of this function are on
unfoldable pub changes : (ℕ → Row) → Row → ℕ → ℕ → List LogRow
changes inputs before tick zero = []
changes inputs before tick (suc count) = change tick before (inputs tick) ++ changes inputs (inputs tick) (suc tick) count

-- the rows of all ticks of a bench; before the first one all inputs are off
abbrev pub rows_of : (ℕ → Row) → List LogRow
rows_of inputs = changes inputs all_off 1 TICKS
