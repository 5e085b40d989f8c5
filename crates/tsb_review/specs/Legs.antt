-- Where phases 1 to 8 stand as usual. A leg of the intersection has the number of the through phase that comes in by it:
-- leg 2 is in the west, leg 4 in the north, leg 6 in the east and leg 8 in the south. 0 is no leg.
use Rattle.std.specs.Prelude.{ℕ, ◌==◌, Bool, not, ◌&&◌, if◌then◌else◌}

-- the leg that a phase comes in by: the left turns 1, 3, 5 and 7 come in beside the through phases 6, 8, 2 and 4
abbrev pub comes_in_by : ℕ → ℕ
comes_in_by p =
    if p == 1 then 6 else if p == 2 then 2 else if p == 3 then 8 else if p == 4 then 4 else
    if p == 5 then 2 else if p == 6 then 6 else if p == 7 then 4 else if p == 8 then 8 else 0

-- the leg that a phase goes out by: a through phase by the leg across, a left turn by the leg at its left
abbrev pub goes_out_by : ℕ → ℕ
goes_out_by p =
    if p == 1 then 8 else if p == 2 then 6 else if p == 3 then 2 else if p == 4 then 8 else
    if p == 5 then 4 else if p == 6 then 2 else if p == 7 then 6 else if p == 8 then 4 else 0

-- the leg at the right of a through phase: right turns beside it go out by this leg, and its crossing lies over it
abbrev pub right_of : ℕ → ℕ
right_of p = if p == 2 then 8 else if p == 4 then 2 else if p == 6 then 4 else if p == 8 then 6 else 0

-- p is a through phase: 2, 4, 6 or 8
abbrev pub goes_through : ℕ → Bool
goes_through p = not (comes_in_by p == 0) && comes_in_by p == p

-- p turns left: it is phase 1, 3, 5 or 7
abbrev pub turns_left : ℕ → Bool
turns_left p = not (comes_in_by p == 0) && not (comes_in_by p == p)

-- p comes in by the other street than through phase t: neither by the leg of t nor by the one across
abbrev pub is_of_other_street : ℕ → ℕ → Bool
is_of_other_street t p = not (comes_in_by p == t) && not (comes_in_by p == goes_out_by t)
