-- What the contracts of `Coord` say of it: its cells, those at the last `open`, and whether it is open.
use Rattle.std.specs.Prelude.{List, ℕ, Bool}
use Rattle.tsb_cells.specs.Bank as bank
use Rattle.tsb_coord.specs.declared.coord.Coord.{Coord}

-- the cells of coordination now
abbrev pub cells_of : Coord → List ℕ
cells_of s = bank.cells_of s.bank

-- that at the last `open`: `close` records whether it differs, and so an undo gives it back
abbrev pub kept_of : Coord → List ℕ
kept_of s = bank.kept_of s.bank

-- the cells may be written: between `open` and `close`
abbrev pub is_open : Coord → Bool
is_open s = bank.is_open s.bank
