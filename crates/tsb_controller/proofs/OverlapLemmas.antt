-- Overlaps that have intervals of their own: what rows say of them at whatever tick they are read, and plans without them.
use Rattle.std.proofs.Common.{◌≡◌, ℕ, ◌+◌, ◌-◌, ◌≤◌, Bool, false, List, refl, sym, ap, ◌∙◌, inl, inr, arith, slice_index, is_some}
use Rattle.std.proofs.Math.Path.{fun_ext}
use Rattle.std.proofs.lemmas.Bool.{cases_Bool}
use Rattle.tsb_cells.proofs.TimerLemmas.{timer_at-this}
use Rattle.tsb_step.specs.tsb_types.declared.limits.TheConstants.{OVERLAPS}
use Rattle.tsb_step.specs.tsb_types.declared.phase_set.PhaseSet.{PhaseSet}
use Rattle.tsb_step.specs.tsb_types.Sets.{has}
use Rattle.tsb_step.proofs.tsb_types.ClipLemmas.{any-agree}
use Rattle.tsb_step.specs.tsb_plan.Plan.{Plan}
use Rattle.tsb_overlap.specs.declared.parts.OverlapInterval.{OverlapInterval}
use Rattle.tsb_overlap.specs.Cells.{IsBy, is_overlap, omitted_in, overlap_in}
use Rattle.tsb_overlap.specs.Overlap.{Overlap, as_read, at_power_up, holds, holds_by, is_held, run_on}
use Rattle.tsb_overlap.specs.Promises as overlaps
use Rattle.tsb_overlap.proofs.CellLemmas.{among-overlaps, at-rest, rows-later}
use Rattle.tsb_overlap.proofs.OwnLemmas.{untimed-free, untimed-runs}
use Rattle.tsb_controller.specs.declared.values.Sensed.{Sensed}
use Rattle.tsb_controller.specs.Found.{HasNoneTimed, IsRunOn}
use Rattle.tsb_controller.specs.Passing.{AreOverlapsStill}
use Rattle.tsb_controller.specs.Rows.{Rows}

-- ## Rows

-- the interval is the same at whatever tick a row is read
pub interval-any : (m n : ℕ) (row : List ℕ) (o : ℕ) → (overlap_in m row o).interval ≡ (overlap_in n row o).interval
unfolding overlap_in
interval-any m n row o = elim (cases_Bool (is_overlap o)) [
  | inl on ↦ rw on refl
  | inr out ↦ rw out refl
]

-- a row as the next tick reads it
pub read-on : (now : ℕ) (row : List ℕ) → 1 ≤ now → IsBy (now - 1) row → (o : ℕ) → overlap_in now row o ≡ as_read (overlap_in (now - 1) row o)
unfolding overlap_in
read-on now row one by o = elim (cases_Bool (is_overlap o)) [
  | inl on ↦ rw (on, timer_at-this now (slice_index row (5 + o)) one (by.each o (among-overlaps o on).from (among-overlaps o on).to).timer) refl
  | inr out ↦ rw out refl
]

-- rows that say the same of each overlap
pub whole : (now : ℕ) (row : List ℕ) (f : ℕ → Overlap) → overlaps.IsSame (overlap_in now row) f → ((o : ℕ) → is_overlap o ≡ false → f o ≡ at_power_up) → overlap_in now row ≡ f
whole now row f same out_of = fun_ext (λ o. elim (cases_Bool (is_overlap o)) [
  | inl on ↦ same o (among-overlaps o on).from (among-overlaps o on).to
  | inr out ↦ at-rest now row o out ∙ sym (out_of o out)
])

-- in two rows
pub kept-whole : (now : ℕ) (old new : List ℕ) → overlaps.IsSame (overlap_in now new) (overlap_in now old) → overlap_in now new ≡ overlap_in now old
kept-whole now old new same = whole now new (overlap_in now old) same (at-rest now old)

-- ## At power-up

pub overlaps-start : (now : ℕ) (new : List ℕ) → overlaps.IsAtPowerUp new → overlap_in now new ≡ (λ o. at_power_up)
overlaps-start now new done = whole now new (λ o. at_power_up) (done.overlaps now) (λ o out. refl)

pub omitted-start : (new : List ℕ) → overlaps.IsAtPowerUp new → omitted_in new ≡ (λ o. false)
omitted-start new done = fun_ext done.omitted

-- ## Plans without overlaps that have intervals of their own

-- nothing runs on, and nothing is held
pub runs-idle : (now : ℕ) (s : Sensed) (plan : Plan) (r : Rows) (held : PhaseSet) → 1 ≤ now → HasNoneTimed plan → IsBy (now - 1) r.overlaps →
    ((p : ℕ) → has held p ≡ false) → IsRunOn now s plan r r held
runs-idle now s plan r held one none by unheld = record {
  state = λ o from to.
      read-on now r.overlaps one by o
      ∙ sym (untimed-runs plan (is_some s.service) o (as_read (overlap_in (now - 1) r.overlaps o)) (none o));
  omitted = refl;
  holding = λ p from to. unheld p ∙ sym (untimed-free plan (is_some s.service) (overlap_in (now - 1) r.overlaps) p none);
  overlaps_by = rows-later (now - 1) now r.overlaps (omega arith) by;
  rest = refl;
}

-- what is still up to a tick is still up to an earlier one
pub still-sooner : (now : ℕ) (plan : Plan) (rows : Rows) (due soon : ℕ) → AreOverlapsStill now plan rows due → soon ≤ due → AreOverlapsStill now plan rows soon
still-sooner now plan rows due soon (inl none) less = inl none
still-sooner now plan rows due soon (inr f) less = inr (record {
  seen = f.seen;
  intervals = f.intervals;
  shown = f.shown;
  preempted = f.preempted;
  served = f.served;
  seen_are = f.seen_are;
  quiet = λ t lights from before. f.quiet t lights from (omega (arith, before, less));
})

-- ## Held phases

-- who holds is seen of the intervals in which overlaps begin the tick
pub held-same : (plan : Plan) (preempted : Bool) (f g : ℕ → Overlap) (p : ℕ) → plan.counts.overlaps ≤ OVERLAPS →
    ((o : ℕ) → 1 ≤ o → o ≤ OVERLAPS → (run_on plan preempted o (as_read (f o))).interval ≡ (run_on plan preempted o (as_read (g o))).interval) →
    is_held plan preempted f p ≡ is_held plan preempted g p
unfolding is_held
held-same plan preempted f g p few same =
    any-agree plan.counts.overlaps (holds plan preempted f p) (holds plan preempted g p) few
    (λ o from to. ap (λ (i : OverlapInterval). holds_by plan o i p) (same o from to))
