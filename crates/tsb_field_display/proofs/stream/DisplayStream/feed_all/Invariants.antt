use Rattle.std.proofs.Common.{◌≡◌, ◌++◌, ℕ, List, length}
use Rattle.tsb_field_display.specs.Stream.{Stand, StandsAt, with_bytes}
use Rattle.tsb_field_display.proofs.stream.DisplayStream.feed_all.Given as goal

-- what was taken so far are whole lines
abbrev pub invariant-loop-rest : goal.invariant-loop-rest
invariant-loop-rest l = (taken : List ℕ) × (l.bytes ≡ taken ++ l.left) × ((s : Stand) → StandsAt s l.fn.self → StandsAt (with_bytes s taken) l.self)

abbrev pub decreases-loop-rest : goal.decreases-loop-rest
decreases-loop-rest l = length l.left
