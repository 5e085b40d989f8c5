-- Who is held in clearance in the next tick is known from the state: a preempt ends a trailing green at once, but the yellow
-- that follows holds as well.
use Rattle.std.proofs.Common.{◌≡◌, ℕ, Bool, true, false, not, ◌&&◌, ◌||◌, if◌then◌else◌, Option, Some, None, is_some, is_none, refl, sym, ap, ◌∙◌}
use Rattle.std.specs.List.{list_any}
use Rattle.std.proofs.Math.Path.{fun_ext}
use Rattle.tsb_cells.specs.declared.timer.Timer.{Timer}
use Rattle.tsb_cells.specs.Timer.{has_reached}
use Rattle.tsb_types.specs.declared.row.Row.{Row}
use Rattle.tsb_types.specs.Lists.{first, run_from}
use Rattle.tsb_types.specs.Sets.{is_phase}
use Rattle.tsb_types.proofs.FirstLemmas.{first-any, first-passes}
use Rattle.tsb_objects.specs.tsb_plan.Plan.{Plan}
use Rattle.tsb_objects.specs.tsb_plan.Parts.{is_arrow, is_included, trails, trail_green}
use Rattle.tsb_overlap.specs.declared.parts.OverlapInterval.{OverlapInterval}
use Rattle.tsb_overlap.specs.declared.parts.OverlapInterval.TheVariants.{Red, Green, TrailGreen, Flashing, Yellow, RedClear}
use Rattle.tsb_overlap.specs.Overlap.{Overlap, begun, as_read, arrow_by, trail_by, run_on, is_trailing, holds, is_held}
use Rattle.tsb_step.specs.declared.waits.Wait.{Wait}
use Rattle.tsb_step.specs.declared.waits.Wait.TheVariants as waits
use Rattle.tsb_step.specs.State.{State}
use Rattle.tsb_step.specs.Tick.{service, over, held, rings_given}
use Rattle.tsb_step.specs.Waits.{until_over, holds_next, holder, is_cleared_next, is_over_next, held_left, held_wait, clearing_wait}
use Rattle.tsb_step.specs.WaitLaws.{IsHeldBy}

-- whether an overlap that trails is off does not depend on a preempt
trails_alike : (plan : Plan) (b c : Bool) (o : ℕ) (i : OverlapInterval) (timer : Timer) (phase : Option ℕ) →
    is_trailing (trail_by plan o b (record { interval = i; timer = timer; phase = phase }) i).interval
    ≡ is_trailing (trail_by plan o c (record { interval = i; timer = timer; phase = phase }) i).interval
trails_alike plan b c o Red timer phase = refl
trails_alike plan b c o Green timer phase = refl
trails_alike plan b c o TrailGreen timer phase = trailing (b || has_reached timer (trail_green plan o)) ∙ sym (trailing (c || has_reached timer (trail_green plan o)))
  where
    trailing : (ends : Bool) → is_trailing (if ends then begun Yellow else record { interval = TrailGreen; timer = timer; phase = phase }).interval ≡ true
    trailing true = refl
    trailing false = refl
trails_alike plan b c o Flashing timer phase = refl
trails_alike plan b c o Yellow timer phase = refl
trails_alike plan b c o RedClear timer phase = refl

runs_alike : (plan : Plan) (b c : Bool) (o : ℕ) (x : Overlap) → is_trailing (run_on plan b o x).interval ≡ is_trailing (run_on plan c o x).interval
unfolding run_on
runs_alike plan b c o x = go (is_arrow plan o) (trails plan o)
  where
    go : (arrow trailing : Bool) →
        is_trailing (if arrow then arrow_by plan x x.interval else (if trailing then trail_by plan o b x x.interval else x)).interval
        ≡ is_trailing (if arrow then arrow_by plan x x.interval else (if trailing then trail_by plan o c x x.interval else x)).interval
    go true trailing = refl
    go false true = trails_alike plan b c o x.interval x.timer x.phase
    go false false = refl

holds_alike : (plan : Plan) (b c : Bool) (f : ℕ → Overlap) (p o : ℕ) → holds plan b f p o ≡ holds plan c f p o
holds_alike plan b c f p o = ap (λ (on : Bool). trails plan o && (is_included plan o p && on)) (runs_alike plan b c o (as_read (f o)))

-- a phase is held in a tick where the state says so, whatever inputs are on in it
pub held-as-told : (s : State) (row : Row) (p : ℕ) → held s row p ≡ is_some (holder s p)
unfolding held is_held holder
held-as-told s row p =
    ap (λ (test : ℕ → Bool). list_any test (run_from 1 s.plan.counts.overlaps))
    (fun_ext (λ o. holds_alike s.plan (is_some (service s row)) (is_some s.preempts.service) s.overlaps p o))
    ∙ sym (first-any (holds_next s p) (run_from 1 s.plan.counts.overlaps))

pub over-as-told : (s : State) (row : Row) (p : ℕ) → (rings_given s row).over p ≡ is_over_next s p
unfolding rings_given
over-as-told s row p =
    ap (λ (on : Bool). is_phase p && (over s p && not on)) (held-as-told s row p) ∙ go (is_phase p) (over s p) (holder s p)
  where
    go : (a b : Bool) (o : Option ℕ) → (a && (b && not (is_some o))) ≡ ((a && b) && is_none o)
    go false b o = refl
    go true false o = refl
    go true true None = refl
    go true true (Some x) = refl

-- what a wait for a phase that clears may be
pub clearing-cases : (s : State) (wait : ℕ → ℕ → Wait) (q : ℕ) (P : Wait → Type 0) → P (wait q (until_over s q)) →
    ((o n : ℕ) → IsHeldBy s q o n → P (waits.Trails q o n)) → P (clearing_wait s wait q)
unfolding holder
clearing-cases s wait q P own trailing = go (is_cleared_next s q) (first (holds_next s q) (run_from 1 s.plan.counts.overlaps)) refl refl
  where
    go : (b : Bool) (h : Option ℕ) → is_cleared_next s q ≡ b → first (holds_next s q) (run_from 1 s.plan.counts.overlaps) ≡ h →
        P (if b then held_wait s wait q h else wait q (until_over s q))
    go false h e f = own
    go true None e f = own
    go true (Some o) e f =
        trailing o (held_left s o)
        (record { cleared = e; holds = first-passes (holds_next s q) (run_from 1 s.plan.counts.overlaps) o f; left = refl })
