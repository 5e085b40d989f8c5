-- Vehicles that phases have counted, as they are lent.
use Rattle.std.specs.Prelude.{ℕ, ◌-◌, ◌≤◌, List, slice_index}

-- those of phases 1 to 16 in turn: each is 255 at most
abbrev pub AreCounts : List ℕ → Type 0
AreCounts counts = (p : ℕ) → 1 ≤ p → p ≤ 16 → slice_index counts (p - 1) ≤ 255
