-- A phase that the rings take for over has done its own clearance, and no overlap holds it.
use Rattle.std.proofs.Common.{◌≡◌, ℕ, true, false, not}
use Rattle.std.proofs.lemmas.Bool.{and_parts, not-true}
use Rattle.tsb_types.specs.declared.row.Row.{Row}
use Rattle.tsb_types.specs.Clip.{clipped}
use Rattle.tsb_ring.specs.Moves.{is_cleared}
use Rattle.tsb_ring.proofs.MoveLemmas.{clears_over}
use Rattle.tsb_step.specs.State.{State}
use Rattle.tsb_step.specs.Tick.{rings_given, moves, over, held, lets_go}
use Rattle.tsb_step.proofs.ClipLemmas.{clipped_holds}

pub taken_over : (s : State) (row : Row) (p : ℕ) → clipped (lets_go s row) p ≡ true → over s p ≡ true
taken_over s row p h = (and_parts (over s p) (not (held s row p)) (clipped_holds (lets_go s row) p h)).0

pub taken_free : (s : State) (row : Row) (p : ℕ) → clipped (lets_go s row) p ≡ true → held s row p ≡ false
taken_free s row p h = not-true (held s row p) (and_parts (over s p) (not (held s row p)) (clipped_holds (lets_go s row) p h)).1

-- a phase that goes Red is held by none
pub cleared_was_free : (s : State) (row : Row) (p : ℕ) → is_cleared (moves s row) p ≡ true → held s row p ≡ false
unfolding moves rings_given
cleared_was_free s row p h = taken_free s row p (clears_over s.plan s.rings (rings_given s row) p h)
