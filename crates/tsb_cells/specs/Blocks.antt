-- Which cells of a bank were written since it was opened, and what they held then. A word tells that: it has a bit for
-- each of 64 blocks side by side.
use Rattle.std.specs.Prelude.{ℕ, ◌+◌, ◌*◌, ◌/◌, ◌==◌, Bool, if◌then◌else◌, List, map, slice_index}
use Rattle.std.specs.Int.{bit_at}
use Rattle.tsb_types.specs.Lists.{run_from}
use Rattle.tsb_cells.specs.Diff.{diff_from}
use Rattle.tsb_cells.specs.Row.{row_at}

-- whether the word does not mark the block of cell k, of n cells
unfoldable pub is_unmarked : ℕ → ℕ → ℕ → Bool
is_unmarked n word k = bit_at word (k / (n / 64 + 1)) == 0

-- what cell k held: what `before` has of it where its block is marked, else what it holds now
abbrev pub kept_at : ℕ → ℕ → List ℕ → List ℕ → ℕ → ℕ
kept_at n word cells before k = if is_unmarked n word k then slice_index cells k else slice_index before k

-- what all n cells held
unfoldable pub kept_in : ℕ → ℕ → List ℕ → List ℕ → List ℕ
kept_in n word cells before = map (kept_at n word cells before) (run_from 0 n)

-- the cells of block b that changed, of n cells
abbrev pub block_changes : ℕ → ℕ → List ℕ → List ℕ → List (ℕ × ℕ)
block_changes n b before cells =
    diff_from (b * (n / 64 + 1)) (row_at (n / 64 + 1) before (b * (n / 64 + 1))) (row_at (n / 64 + 1) cells (b * (n / 64 + 1)))
