-- What the contracts of a bank say of it: the cells now, the cells when it was opened last, and whether it
-- is open.
use Rattle.std.specs.Prelude.{ℕ, List, Bool}
use Rattle.tsb_cells.specs.Blocks.{kept_in}
use Rattle.tsb_cells.specs.declared.bank.Bank.{Bank}

-- the cells now
abbrev pub cells_of : {N : ℕ} → Bank N → List ℕ
cells_of b = b.cells

-- the cells when the bank was opened last
abbrev pub kept_of : {N : ℕ} → Bank N → List ℕ
kept_of {N} b = kept_in N b.written b.cells b.before

-- cells are written only while the bank is open
abbrev pub is_open : {N : ℕ} → Bank N → Bool
is_open b = b.is_open
