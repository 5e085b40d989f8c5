-- the display line, byte by byte: its letters and digits, its fields, and the whole
pub mod Line
-- the letters that a line has of heads
pub mod Letters
-- rounds: ten ticks whose lines differ in few bytes
pub mod Rounds
-- the names of crates below, for those above
pub use Rattle.tsb_heads.specs as tsb_heads
