-- What holds of the cells of the desk. Each law here is the contract of a function in src/laws.rt, and proved there.
use Rattle.std.specs.Prelude.{◌≡◌, ℕ, ◌≤◌, List, IfSome}
use Rattle.tsb_transact.specs.Desk.{Desk, IsSoundDesk}
use Rattle.tsb_transact.specs.Cells.{desk_in, desk_cells, IsBy}
use Rattle.tsb_transact.specs.Rows.{IsRow}

-- a row that the desk can hold is the table of what it says
abbrev pub RowsAreTold : Type 0
RowsAreTold = (row : List ℕ) → IsBy row → desk_cells (desk_in row) ≡ row

-- desks that have a table: sound ones, whose owner is one of the four stations
pub record IsInRange (desk : Desk) : Type 0 where
  pub sound : IsSoundDesk desk
  pub owner : IfSome desk.owner (λ s. (1 ≤ s) × (s ≤ 4))

-- the table of a desk in range is a row that a desk allows, and read as that desk
abbrev pub StatesAreRead : Type 0
StatesAreRead = (desk : Desk) → IsInRange desk → (desk_in (desk_cells desk) ≡ desk) × IsRow (desk_cells desk)
