-- What a green that ends, a phase that goes Red and one that starts have waited for.
use Rattle.std.proofs.Common.{◌≡◌, ℕ, true}
use Rattle.tsb_types.specs.declared.row.Row.{Row}
use Rattle.tsb_phase.proofs.ReadyLemmas.{ready_has_lasted, ready_is_in_dont_walk}
use Rattle.tsb_ring.specs.Moves.{is_ended, is_cleared, is_started}
use Rattle.tsb_ring.proofs.MoveLemmas.{ends_ready, clears_over, starts_reverted}
use Rattle.tsb_step.specs.State.{State}
use Rattle.tsb_step.specs.Tick.{phases_given, phase_read, rings_given, moves, ready, over, reverted}
use Rattle.tsb_step.specs.ClearanceLaws.{HasLasted}
use Rattle.tsb_step.proofs.ClipLemmas.{clipped_holds}
use Rattle.tsb_step.proofs.HoldLemmas.{taken_over}

pub ended_was_ready : (s : State) (row : Row) (p : ℕ) → is_ended (moves s row) p ≡ true → ready s row p ≡ true
unfolding moves rings_given
ended_was_ready s row p h = clipped_holds (ready s row) p (ends_ready s.plan s.rings (rings_given s row) p h).1

pub ended_has_lasted : (s : State) (row : Row) (p : ℕ) → is_ended (moves s row) p ≡ true → HasLasted s row p
ended_has_lasted s row p h = record {
  lasted = ready_has_lasted s.plan (phases_given s row) p (phase_read s p) (ended_was_ready s row p h);
  dont_walk = ready_is_in_dont_walk s.plan (phases_given s row) p (phase_read s p) (ended_was_ready s row p h);
}

pub cleared_was_over : (s : State) (row : Row) (p : ℕ) → is_cleared (moves s row) p ≡ true → over s p ≡ true
unfolding moves rings_given
cleared_was_over s row p h = taken_over s row p (clears_over s.plan s.rings (rings_given s row) p h)

pub started_has_reverted : (s : State) (row : Row) (p : ℕ) → is_started (moves s row) p ≡ true → reverted s p ≡ true
unfolding moves rings_given
started_has_reverted s row p h = clipped_holds (reverted s) p (starts_reverted s.plan s.rings (rings_given s row) p h)
