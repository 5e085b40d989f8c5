-- What the contracts of `TimedOverlaps` say of it: its cells, those at the last `open`, and whether it is open.
use Rattle.std.specs.Prelude.{◌≡◌, ℕ, ◌<◌, List, Bool, slice_index}
use Rattle.tsb_cells.specs.Bank as bank
use Rattle.tsb_overlap.specs.declared.timed_overlaps.TimedOverlaps.{TimedOverlaps}
use Rattle.tsb_overlap.specs.Cells.{omitted_in}

-- the cells of the overlaps now
abbrev pub cells_of : TimedOverlaps → List ℕ
cells_of s = bank.cells_of s.bank

-- those at the last `open`: `close` records what differs from them, and so an undo gives them back
abbrev pub kept_of : TimedOverlaps → List ℕ
kept_of s = bank.kept_of s.bank

-- cells may be written: between `open` and `close`
abbrev pub is_open : TimedOverlaps → Bool
is_open s = bank.is_open s.bank

-- lists stay lists, of 16 numbers each
abbrev pub KeepsLists : List ℕ → List ℕ → Type 0
KeepsLists old new = (k : ℕ) → slice_index old k < 65536 → k < 6 → slice_index new k < 65536

-- the same arrows are omitted
abbrev pub KeepsOmitted : List ℕ → List ℕ → Type 0
KeepsOmitted old new = omitted_in new ≡ omitted_in old
