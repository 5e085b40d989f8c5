-- Phases 1 to 8 are timed the same on the wide plan, where orders are the same of them; and a phase that no ring moves
-- stays as it was at power-up.
use Rattle.std.proofs.Common.{◌≡◌, ℕ, ◌==◌, Bool, true, false, if◌then◌else◌, Option, Some, None, refl, sym, ap, ◌∙◌, inl, inr}
use Rattle.std.proofs.lemmas.Bool.{cases_Bool}
use Rattle.tsb_step.specs.tsb_cells.declared.timer.Timer.{Timer}
use Rattle.tsb_step.specs.tsb_cells.declared.timer.Timer.TheVariants.{Off, On}
use Rattle.tsb_step.specs.tsb_types.declared.interval.PedestrianInterval.{PedestrianInterval}
use Rattle.tsb_step.specs.tsb_types.declared.interval.PedestrianInterval.TheVariants.{DontWalk, Walk, PedestrianClear}
use Rattle.tsb_step.specs.tsb_types.declared.interval.Interval.{Interval}
use Rattle.tsb_step.specs.tsb_types.declared.interval.Interval.TheVariants.{Red, Green, Yellow, RedClear}
use Rattle.tsb_step.specs.tsb_plan.declared.object.Object.TheVariants.{UnitMax2}
use Rattle.tsb_step.specs.tsb_plan.Plan.{Plan, maximum}
use Rattle.tsb_step.specs.tsb_phase.declared.ending.Ending.{Ending}
use Rattle.tsb_step.specs.tsb_phase.declared.ending.Ending.TheVariants.{MaxOut, GapOut}
use Rattle.tsb_step.specs.tsb_phase.Phase.{Phase, Given, Moved, GreenHeld, as_read, held_of}
use Rattle.tsb_step.specs.tsb_phase.DynamicMaximum.{effective_maximum, maximum_in_use, stepped, running_maximum_after}
use Rattle.tsb_step.specs.tsb_phase.Green.{waits_for, cars_waiting, reduction_timer, gap, initial, gap_has_expired, gapped_latch, is_gapped, has_reached_some, conflict_timer, acting_maximum, has_maxed_out, forced_latch}
use Rattle.tsb_step.specs.tsb_phase.Pedestrian.{ended_by, walk_time, clearance_time, pedestrian_after, pedestrian_now}
use Rattle.tsb_step.specs.tsb_phase.Ready.{is_gapped_now, has_timed_out, green_is_done, is_ready, is_over_in, is_over, red_revert_passed}
use Rattle.tsb_step.specs.tsb_phase.Next.{interval_after, held_now, ending_now, next}
use Rattle.tsb_laws.specs.Widened.{IsNarrow, widened}
use Rattle.tsb_laws.proofs.versions.ListLemmas.{is_narrow, IsSameOnNarrow, IsBeyondNarrow}
use Rattle.tsb_laws.proofs.versions.PlanLemmas.{sum-same, not-floating, no-maximum_mode}
use Rattle.tsb_laws.proofs.operation.pattern.OptionLemmas.{never_floats, latched_by_instant, never_in_patterns}
use Rattle.tsb_laws.proofs.versions.CoordLemmas.{maximum_recall-same}

-- what phase timing is given on the wide plan: other phases may be held, beyond the eighth
abbrev pub wide_given : (ℕ → Bool) → Given → Given
wide_given hold given = record given { hold = hold }

-- ## Maximum greens

maximum-same : (plan : Plan) (p : ℕ) → maximum (widened plan) p ≡ maximum plan p
maximum-same plan p =
    elim (cases_Bool (plan.value UnitMax2 1 == 1)) [
      | inl e ↦ rw e refl
      | inr e ↦ rw e refl
    ]

effective_maximum-same : (plan : Plan) (p : ℕ) (running : Option ℕ) → effective_maximum (widened plan) p running ≡ effective_maximum plan p running
effective_maximum-same plan p None = maximum-same plan p
effective_maximum-same plan p (Some n) = rw (maximum-same plan p) refl

maximum_in_use-same : (plan : Plan) (p : ℕ) (running : Option ℕ) → maximum_in_use (widened plan) p running ≡ maximum_in_use plan p running
unfolding maximum_in_use
maximum_in_use-same plan p running = rw (effective_maximum-same plan p running, maximum-same plan p) refl

-- in a pattern no maximum acts
acting_maximum-same : (plan : Plan) (runs : Option ℕ) (p : ℕ) (running : Option ℕ) → IsNarrow plan →
    acting_maximum (widened plan) runs p running ≡ acting_maximum plan runs p running
acting_maximum-same plan None p running narrow = ap Some (maximum_in_use-same plan p running)
acting_maximum-same plan (Some n) p running narrow =
    never_in_patterns (widened plan) (Some n) p (no-maximum_mode plan p narrow) ∙ sym (never_in_patterns plan (Some n) p (no-maximum_mode plan p narrow))

has_maxed_out-same : (plan : Plan) (hold : ℕ → Bool) (given : Given) (p : ℕ) (held : GreenHeld) (running : Option ℕ) → IsNarrow plan →
    has_maxed_out (widened plan) (wide_given hold given) p held running ≡ has_maxed_out plan given p held running
has_maxed_out-same plan hold given p held running narrow =
    ap (has_reached_some (conflict_timer given p held)) (acting_maximum-same plan given.runs p running narrow)

-- no green floats
forced_latch-same : (plan : Plan) (hold : ℕ → Bool) (given : Given) (p : ℕ) (held : GreenHeld) → IsNarrow plan →
    forced_latch (widened plan) (wide_given hold given) p held ≡ forced_latch plan given p held
forced_latch-same plan hold given p held narrow =
    latched_by_instant (widened plan) (wide_given hold given) p held (never_floats (widened plan) given.runs p (not-floating plan narrow))
    ∙ sym (latched_by_instant plan given p held (never_floats plan given.runs p (not-floating plan narrow)))

stepped-same : (plan : Plan) (p : ℕ) (e : Ending) (n : ℕ) → stepped (widened plan) p e n ≡ stepped plan p e n
stepped-same plan p MaxOut n = rw (maximum-same plan p) refl
stepped-same plan p GapOut n = rw (maximum-same plan p) refl

running_maximum_after-same : (plan : Plan) (p : ℕ) (e : Ending) (x : Phase) →
    running_maximum_after (widened plan) p e x ≡ running_maximum_after plan p e x
running_maximum_after-same plan p e x =
    rw (effective_maximum-same plan p x.running_maximum, stepped-same plan p e (effective_maximum plan p x.running_maximum)) refl

-- ## Greens

cars_waiting-same : (plan : Plan) (hold : ℕ → Bool) (given : Given) (p : ℕ) → IsNarrow plan → IsBeyondNarrow given.callable false →
    cars_waiting (widened plan) (wide_given hold given) p ≡ cars_waiting plan given p
unfolding cars_waiting
cars_waiting-same plan hold given p narrow none =
    sum-same plan (λ q. if waits_for plan given p q then given.count q else 0) (λ q. if waits_for plan given p q then given.count q else 0) narrow
    (λ q in_it. refl) (λ q out. rw (none q out) refl)

reduction_timer-same : (plan : Plan) (hold : ℕ → Bool) (given : Given) (p : ℕ) (held : GreenHeld) → IsNarrow plan →
    IsBeyondNarrow given.callable false →
    reduction_timer (widened plan) (wide_given hold given) p held ≡ reduction_timer plan given p held
unfolding reduction_timer
reduction_timer-same plan hold given p held narrow none = rw (cars_waiting-same plan hold given p narrow none) refl

gap-same : (plan : Plan) (p : ℕ) (timer : Timer) → gap (widened plan) p timer ≡ gap plan p timer
unfolding gap
gap-same plan p Off = refl
gap-same plan p (On r) = refl

initial-same : (plan : Plan) (p cars : ℕ) → initial (widened plan) p cars ≡ initial plan p cars
unfolding initial
initial-same plan p cars = refl

gap_has_expired-same : (plan : Plan) (hold : ℕ → Bool) (given : Given) (p : ℕ) (held : GreenHeld) → IsNarrow plan →
    IsBeyondNarrow given.callable false →
    gap_has_expired (widened plan) (wide_given hold given) p held ≡ gap_has_expired plan given p held
gap_has_expired-same plan hold given p held narrow none =
    rw (reduction_timer-same plan hold given p held narrow none, gap-same plan p (reduction_timer plan given p held)) refl

gapped_latch-same : (plan : Plan) (hold : ℕ → Bool) (given : Given) (p : ℕ) (held : GreenHeld) → IsNarrow plan →
    IsBeyondNarrow given.callable false →
    gapped_latch (widened plan) (wide_given hold given) p held ≡ gapped_latch plan given p held
gapped_latch-same plan hold given p held narrow none =
    rw (gap_has_expired-same plan hold given p held narrow none, initial-same plan p (given.count p)) refl

is_gapped-same : (plan : Plan) (hold : ℕ → Bool) (given : Given) (p : ℕ) (held : GreenHeld) → IsNarrow plan →
    IsBeyondNarrow given.callable false →
    is_gapped (widened plan) (wide_given hold given) p held ≡ is_gapped plan given p held
is_gapped-same plan hold given p held narrow none =
    rw (gapped_latch-same plan hold given p held narrow none, gap_has_expired-same plan hold given p held narrow none) refl

-- ## Pedestrians

walk_time-same : (plan : Plan) (p : ℕ) (o : Option ℕ) → walk_time (widened plan) p o ≡ walk_time plan p o
walk_time-same plan p None = refl
walk_time-same plan p (Some n) = refl

clearance_time-same : (plan : Plan) (p : ℕ) (o : Option ℕ) → clearance_time (widened plan) p o ≡ clearance_time plan p o
clearance_time-same plan p None = refl
clearance_time-same plan p (Some n) = refl

pedestrian_after-same : (plan : Plan) (hold : ℕ → Bool) (given : Given) (p : ℕ) (w : Phase) (part : PedestrianInterval) →
    pedestrian_after (widened plan) (wide_given hold given) p w part ≡ pedestrian_after plan given p w part
pedestrian_after-same plan hold given p w DontWalk = refl
pedestrian_after-same plan hold given p w Walk =
    rw (walk_time-same plan p (ended_by given p), clearance_time-same plan p (ended_by given p)) refl
pedestrian_after-same plan hold given p w PedestrianClear = rw (clearance_time-same plan p (ended_by given p)) refl

pedestrian_now-same : (plan : Plan) (hold : ℕ → Bool) (given : Given) (p : ℕ) (w : Phase) →
    pedestrian_now (widened plan) (wide_given hold given) p w ≡ pedestrian_now plan given p w
unfolding pedestrian_now
pedestrian_now-same plan hold given p w = pedestrian_after-same plan hold given p w w.pedestrian

-- ## What the rings are given

pub gapped_now-same : (plan : Plan) (hold : ℕ → Bool) (given : Given) (p : ℕ) (w : Phase) → IsNarrow plan →
    IsBeyondNarrow given.callable false →
    is_gapped_now (widened plan) (wide_given hold given) p w ≡ is_gapped_now plan given p w
gapped_now-same plan hold given p w narrow none = rw (is_gapped-same plan hold given p (held_of w) narrow none) refl

has_timed_out-same : (plan : Plan) (hold : ℕ → Bool) (given : Given) (p : ℕ) (w : Phase) → IsNarrow plan → is_narrow p ≡ true →
    IsBeyondNarrow given.callable false →
    has_timed_out (widened plan) (wide_given hold given) p w ≡ has_timed_out plan given p w
has_timed_out-same plan hold given p w narrow in_it none =
    rw (
      is_gapped-same plan hold given p (held_of w) narrow none,
      maximum_recall-same plan given.runs p narrow in_it,
      has_maxed_out-same plan hold given p (held_of w) w.running_maximum narrow,
      forced_latch-same plan hold given p (held_of w) narrow,
    ) refl

green_is_done-same : (plan : Plan) (hold : ℕ → Bool) (given : Given) (p : ℕ) (w : Phase) (o : Option ℕ) → IsNarrow plan →
    is_narrow p ≡ true → IsBeyondNarrow given.callable false → IsSameOnNarrow hold given.hold →
    green_is_done (widened plan) (wide_given hold given) p w o ≡ green_is_done plan given p w o
green_is_done-same plan hold given p w None narrow in_it none agree =
    rw (
      has_timed_out-same plan hold given p w narrow in_it none,
      forced_latch-same plan hold given p (held_of w) narrow,
      initial-same plan p (given.count p),
      agree p in_it,
    ) refl
green_is_done-same plan hold given p w (Some n) narrow in_it none agree = rw (initial-same plan p (given.count p)) refl

pub is_ready-same : (plan : Plan) (hold : ℕ → Bool) (given : Given) (p : ℕ) (w : Phase) → IsNarrow plan →
    is_narrow p ≡ true → IsBeyondNarrow given.callable false → IsSameOnNarrow hold given.hold →
    is_ready (widened plan) (wide_given hold given) p w ≡ is_ready plan given p w
unfolding is_ready
is_ready-same plan hold given p w narrow in_it none agree =
    rw (pedestrian_now-same plan hold given p w, green_is_done-same plan hold given p w (ended_by given p) narrow in_it none agree) refl

is_over_in-same : (plan : Plan) (p : ℕ) (w : Phase) (i : Interval) → is_over_in (widened plan) p w i ≡ is_over_in plan p w i
is_over_in-same plan p w Red = refl
is_over_in-same plan p w Green = refl
is_over_in-same plan p w Yellow = refl
is_over_in-same plan p w RedClear = refl

pub is_over-same : (plan : Plan) (p : ℕ) (w : Phase) → is_over (widened plan) p w ≡ is_over plan p w
unfolding is_over
is_over-same plan p w = is_over_in-same plan p w w.interval

pub red_revert_passed-same : (plan : Plan) (p : ℕ) (w : Phase) → red_revert_passed (widened plan) p w ≡ red_revert_passed plan p w
unfolding red_revert_passed
red_revert_passed-same plan p w = refl

-- ## The phase after a tick

interval_after-same : (plan : Plan) (moved : Moved) (p : ℕ) (w : Phase) (i : Interval) →
    interval_after (widened plan) moved p w i ≡ interval_after plan moved p w i
interval_after-same plan moved p w Red = refl
interval_after-same plan moved p w Green = refl
interval_after-same plan moved p w Yellow = refl
interval_after-same plan moved p w RedClear = refl

ending_now-same : (plan : Plan) (hold : ℕ → Bool) (given : Given) (p : ℕ) (w : Phase) → IsNarrow plan → is_narrow p ≡ true →
    IsBeyondNarrow given.callable false →
    ending_now (widened plan) (wide_given hold given) p w ≡ ending_now plan given p w
ending_now-same plan hold given p w narrow in_it none =
    rw (is_gapped-same plan hold given p (held_of w) narrow none, maximum_recall-same plan given.runs p narrow in_it) refl

pub next-same : (plan : Plan) (hold : ℕ → Bool) (given : Given) (moved : Moved) (p : ℕ) (was : Phase) → IsNarrow plan →
    is_narrow p ≡ true → IsBeyondNarrow given.callable false →
    next (widened plan) (wide_given hold given) moved p was ≡ next plan given moved p was
next-same plan hold given moved p was narrow in_it none =
    rw (
      interval_after-same plan moved p (as_read was) (as_read was).interval,
      pedestrian_now-same plan hold given p (as_read was),
      ending_now-same plan hold given p (as_read was) narrow in_it none,
      running_maximum_after-same plan p (ending_now plan given p (as_read was)) (as_read was),
      gapped_latch-same plan hold given p (held_now moved p (as_read was)) narrow none,
      forced_latch-same plan hold given p (held_of (as_read was)) narrow,
      reduction_timer-same plan hold given p (held_now moved p (as_read was)) narrow none,
    ) refl
