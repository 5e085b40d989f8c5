-- Rows of phases that later ticks find and leave as tick `now` did, while what a tick gives phase timing stays the
-- same.
use Rattle.std.specs.Prelude.{◌≡◌, ℕ, ◌+◌, ◌≤◌, min, Bool, List, Option, Some, None}
use Rattle.tsb_cells.specs.Timer.{timer_at, has_reached}
use Rattle.tsb_objects.specs.tsb_plan.Plan.{Plan, red_revert}
use Rattle.tsb_objects.specs.tsb_plan.Parts.{preempt_minimum_green}
use Rattle.tsb_phase.specs.declared.phase_row.PhaseRow.{PhaseRow}
use Rattle.tsb_phase.specs.Phase.{Given, none_moved, held_of}
use Rattle.tsb_phase.specs.Green.{initial, gap, passage_timer, conflict_timer, reduction_timer, gapped_latch, forced_latch}
use Rattle.tsb_phase.specs.Pedestrian.{walks_again}
use Rattle.tsb_phase.specs.Ready.{is_ready, is_over, is_gapped_now, red_revert_passed}
use Rattle.tsb_phase.specs.Next.{next_from_read}
use Rattle.tsb_phase.specs.Cells.{phase_of, row_in}

-- tick t makes of the row what it was, and finds of it what tick `now` finds
pub record IsStill (plan : Plan) (given : Given) (p : ℕ) (r : PhaseRow) (now t : ℕ) : Type 0 where
  pub state : phase_of t r ≡ next_from_read plan given none_moved p (phase_of t r)
  pub ready : is_ready plan given p (phase_of t r) ≡ is_ready plan given p (phase_of now r)
  pub over : is_over plan p (phase_of t r) ≡ is_over plan p (phase_of now r)
  pub gapped : is_gapped_now plan given p (phase_of t r) ≡ is_gapped_now plan given p (phase_of now r)
  pub reverted : red_revert_passed plan p (phase_of t r) ≡ red_revert_passed plan p (phase_of now r)
  pub walks : walks_again given p (phase_of t r) ≡ walks_again given p (phase_of now r)

-- the least time of a green: its initial time, under a preempt that ends it at most the preempt's minimum green
abbrev pub least_of : Plan → Given → ℕ → Option ℕ → ℕ
least_of plan given p None = initial plan p (given.count p)
least_of plan given p (Some n) = min (initial plan p (given.count p)) (preempt_minimum_green plan n)

-- at tick t the passage timer of a green has reached its gap
abbrev pub has_expired : Plan → ℕ → PhaseRow → ℕ → Bool
has_expired plan p r t = has_reached (timer_at t r.passage) (gap plan p (timer_at t r.reduction))

-- what runs of a green, its timers and its latches, tick `now` leaves as it was
pub record IsKept (plan : Plan) (given : Given) (p : ℕ) (r : PhaseRow) (now : ℕ) : Type 0 where
  pub passage : timer_at now r.passage ≡ passage_timer given p (held_of (phase_of now r))
  pub conflict : timer_at now r.conflict ≡ conflict_timer given p (held_of (phase_of now r))
  pub reduction : timer_at now r.reduction ≡ reduction_timer plan given p (held_of (phase_of now r))
  pub gapped : r.gapped ≡ gapped_latch plan given p (held_of (phase_of now r))
  pub forced : r.forced ≡ forced_latch plan given p (held_of (phase_of now r))

-- at tick t the red revert timer of a row has reached its time exactly when it has at tick `now`
abbrev pub IsRevertedAs : Plan → ℕ → PhaseRow → ℕ → ℕ → Type 0
IsRevertedAs plan p r now t = has_reached (timer_at t r.red_revert) (red_revert plan p) ≡ has_reached (timer_at now r.red_revert) (red_revert plan p)

-- so is that of phase p
abbrev pub StaysReverted : Plan → List ℕ → ℕ → ℕ → ℕ → Type 0
StaysReverted plan cells now t p = now ≤ t → (row_in cells p).red_revert ≤ now + 1 → IsRevertedAs plan p (row_in cells p) now t
