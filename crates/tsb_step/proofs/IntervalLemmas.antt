-- The intervals after a tick are what comes of the rings' moves.
use Rattle.std.proofs.Common.{◌≡◌, ℕ, true, false, ◌||◌, refl, sym, ◌∙◌}
use Rattle.std.proofs.lemmas.Bool.{false≢true, false_from_ne_true}
use Rattle.std.proofs.Math.Path.{fun_ext}
use Rattle.tsb_types.specs.declared.interval.Interval.{Interval}
use Rattle.tsb_types.specs.declared.interval.Interval.TheVariants.{Red, Green, Yellow, RedClear}
use Rattle.tsb_types.specs.declared.row.Row.{Row}
use Rattle.tsb_types.specs.Intervals.{is_green, is_yellow, is_red_clear}
use Rattle.tsb_objects.specs.tsb_plan.Plan.{Plan}
use Rattle.tsb_phase.specs.Phase.{Phase}
use Rattle.tsb_phase.specs.Next.{new_interval}
use Rattle.tsb_phase.specs.Ready.{is_over, is_over_in}
use Rattle.tsb_ring.specs.Moves.{is_ended, is_cleared, interval_after}
use Rattle.tsb_ring.proofs.MoveLemmas.{ends_ready, clears_over}
use Rattle.tsb_step.specs.State.{State, interval}
use Rattle.tsb_step.specs.Tick.{rings_given, moves, moved, phase_read, yellow_done, next}
use Rattle.tsb_step.proofs.HoldLemmas.{taken_over}

-- a phase that is over clears
over_clears : (plan : Plan) (p : ℕ) (w : Phase) (i : Interval) → is_over_in plan p w i ≡ true → (is_yellow i || is_red_clear i) ≡ true
over_clears plan p w Red e = absurd cc
over_clears plan p w Green e = absurd cc
over_clears plan p w Yellow e = refl
over_clears plan p w RedClear e = refl

-- a phase that goes Yellow was Green
pub ended_was_green : (s : State) (row : Row) (p : ℕ) → is_ended (moves s row) p ≡ true → is_green (interval s p) ≡ true
unfolding moves rings_given
ended_was_green s row p e = (ends_ready s.plan s.rings (rings_given s row) p e).0

-- a phase that goes Red was in Yellow or in red clearance
pub cleared_was_clearing : (s : State) (row : Row) (p : ℕ) → is_cleared (moves s row) p ≡ true →
    (is_yellow (interval s p) || is_red_clear (interval s p)) ≡ true
unfolding moves rings_given is_over
cleared_was_clearing s row p e =
    over_clears s.plan p (phase_read s p) (interval s p) (taken_over s row p (clears_over s.plan s.rings (rings_given s row) p e))

green_not : (i : Interval) → is_green i ≡ false → is_green i ≡ true → ⊥
green_not i e h = absurd (false≢true (sym e ∙ h))

clearing_not : (i : Interval) → (is_yellow i || is_red_clear i) ≡ false → (is_yellow i || is_red_clear i) ≡ true → ⊥
clearing_not i e h = absurd (false≢true (sym e ∙ h))

not_ended : (s : State) (row : Row) (p : ℕ) → is_green (interval s p) ≡ false → is_ended (moves s row) p ≡ false
not_ended s row p e = false_from_ne_true (is_ended (moves s row) p) (λ h. green_not (interval s p) e (ended_was_green s row p h))

not_cleared : (s : State) (row : Row) (p : ℕ) → (is_yellow (interval s p) || is_red_clear (interval s p)) ≡ false →
    is_cleared (moves s row) p ≡ false
not_cleared s row p e = false_from_ne_true (is_cleared (moves s row) p) (λ h. clearing_not (interval s p) e (cleared_was_clearing s row p h))

at_interval : (s : State) (row : Row) (p : ℕ) (i : Interval) → interval s p ≡ i →
    new_interval s.plan (moved s row) p (phase_read s p) ≡ interval_after (moves s row) (yellow_done s) (interval s) p
unfolding interval_after
at_interval s row p Red e = rw (e, not_ended s row p (rw e refl), not_cleared s row p (rw e refl)) refl
at_interval s row p Green e = rw (e, not_cleared s row p (rw e refl)) refl
at_interval s row p Yellow e = rw (e, not_ended s row p (rw e refl)) refl
at_interval s row p RedClear e = rw (e, not_ended s row p (rw e refl)) refl

-- the intervals after a tick, before the monitor judges it
pub intervals_after : (s : State) (row : Row) →
    interval (next s row) ≡ interval_after (moves s row) (yellow_done s) (interval s)
intervals_after s row = fun_ext (λ p. at_interval s row p (interval s p) refl)
