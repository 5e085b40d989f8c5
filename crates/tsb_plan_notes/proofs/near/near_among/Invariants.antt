use Rattle.std.proofs.Common.{◌≡◌, drop}
use Rattle.tsb_plan_notes.specs.Near.{near_among}
use Rattle.tsb_plan_notes.proofs.near.near_among.Given as goal

-- no object is near by a difference so far
abbrev pub invariant-loop-difference : goal.invariant-loop-difference
invariant-loop-difference l = near_among (drop l.difference-index l.differences) l.name ≡ near_among l.differences l.name
