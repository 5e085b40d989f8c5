-- A phase among 1 to 16 looks at nothing of what is none: two that tell phase timing the same of these give the same.
use Rattle.std.proofs.Common.{◌≡◌, ℕ, ◌≤◌, Bool, if◌then◌else◌, Option, Some, None, refl, ◌∙◌}
use Rattle.tsb_objects.specs.tsb_types.declared.interval.Interval.{Interval}
use Rattle.tsb_objects.specs.tsb_types.declared.interval.Interval.TheVariants.{Red, Green, Yellow, RedClear}
use Rattle.tsb_objects.specs.tsb_types.declared.interval.PedestrianInterval.{PedestrianInterval}
use Rattle.tsb_objects.specs.tsb_types.declared.interval.PedestrianInterval.TheVariants.{DontWalk, Walk, PedestrianClear}
use Rattle.tsb_objects.proofs.tsb_types.ClipLemmas.{sum-agree}
use Rattle.tsb_objects.specs.tsb_plan.Plan.{Plan}
use Rattle.tsb_phase.specs.Phase.{Phase, Given, Moved, GreenHeld, as_read, held_of, none_held}
use Rattle.tsb_phase.specs.Green.{waits_for, cars_waiting, reduction_timer, gapped_latch, is_gapped}
use Rattle.tsb_phase.specs.Pedestrian.{ended_by, pedestrian_after, pedestrian_now, walks_again}
use Rattle.tsb_phase.specs.Ready.{is_gapped_now, is_ready, green_is_done}
use Rattle.tsb_phase.specs.Next.{next, held_now, interval_after, new_interval, new_timer}
use Rattle.tsb_phase.specs.Moves.{ended, started_by}
use Rattle.tsb_phase.specs.Laws as phases
use Rattle.tsb_phase.specs.Laws.{AgreeOnPhases, MoveAlike}

module _ (plan : Plan) (g h : Given) (count : plan.phase_count ≤ 16) (same : AgreeOnPhases g h) (p : ℕ) (from : 1 ≤ p) (to : p ≤ 16) where
  cars-same : cars_waiting plan g p ≡ cars_waiting plan h p
  unfolding cars_waiting
  cars-same =
      sum-agree plan.phase_count (λ q. if waits_for plan g p q then g.count q else 0) (λ q. if waits_for plan h p q then h.count q else 0)
      count (λ q a b. rw (same.callable q a b, same.count q a b) refl)

  reduction-same : (held : GreenHeld) → reduction_timer plan g p held ≡ reduction_timer plan h p held
  unfolding reduction_timer
  reduction-same held = rw (cars-same, same.conflict p from to) refl

  latch-same : (held : GreenHeld) → gapped_latch plan g p held ≡ gapped_latch plan h p held
  latch-same held = rw (reduction-same held, same.conflict p from to, same.count p from to, same.output p from to) refl

  gapped-same : (held : GreenHeld) → is_gapped plan g p held ≡ is_gapped plan h p held
  gapped-same held = rw (reduction-same held, same.conflict p from to, same.count p from to, same.output p from to) refl

  gapped_now-same : (w : Phase) → is_gapped_now plan g p w ≡ is_gapped_now plan h p w
  gapped_now-same w = rw (gapped-same (held_of w)) refl

  after-same : (w : Phase) (part : PedestrianInterval) → pedestrian_after plan g p w part ≡ pedestrian_after plan h p w part
  after-same w DontWalk = rw (same.recycle p from to, same.pedestrian_call p from to, same.service, same.conflict p from to) refl
  after-same w Walk = rw (same.must_end p from to, same.service, same.conflict p from to) refl
  after-same w PedestrianClear = rw (same.must_end p from to, same.service) refl

  pedestrian-same : (w : Phase) → pedestrian_now plan g p w ≡ pedestrian_now plan h p w
  unfolding pedestrian_now
  pedestrian-same w = after-same w w.pedestrian

  walks-same : (w : Phase) → walks_again g p w ≡ walks_again h p w
  walks-same w = rw (same.recycle p from to, same.pedestrian_call p from to, same.service, same.conflict p from to) refl

  done-same : (w : Phase) (o : Option ℕ) → green_is_done plan g p w o ≡ green_is_done plan h p w o
  done-same w None =
      rw (
        gapped-same (held_of w),
        same.conflict p from to,
        same.count p from to,
        same.hold p from to,
        same.forced p from to,
        same.runs,
        same.service,
      ) refl
  done-same w (Some n) = rw (same.count p from to) refl

  by-same : ended_by g p ≡ ended_by h p
  by-same = rw (same.must_end p from to, same.service) refl

  ready-same : (w : Phase) → is_ready plan g p w ≡ is_ready plan h p w
  unfolding is_ready
  ready-same w = rw (pedestrian-same w, done-same w (ended_by g p), by-same) refl

  read-same : (moved : Moved) (was : Phase) → next plan g moved p was ≡ next plan h moved p was
  read-same moved was =
      rw (
        pedestrian-same (as_read was),
        gapped-same (held_of (as_read was)),
        latch-same (held_now moved p (as_read was)),
        reduction-same (held_now moved p (as_read was)),
        same.output p from to,
        same.conflict p from to,
        same.pedestrian_call p from to,
        same.forced p from to,
        same.runs,
        same.service,
      ) refl

  ended-same : (by_gap : Bool) (x : Phase) → ended plan g p by_gap x ≡ ended plan h p by_gap x
  ended-same by_gap x = rw (same.runs, same.service) refl

  started-same : (x : Phase) → started_by plan g p x ≡ started_by plan h p x
  started-same x =
      rw (
        latch-same none_held,
        reduction-same none_held,
        same.output p from to,
        same.conflict p from to,
        same.pedestrian_call p from to,
        same.service,
      ) refl

-- ## Moves

interval-alike : (plan : Plan) (moved other : Moved) (p : ℕ) (w : Phase) (i : Interval) → MoveAlike moved other p →
    interval_after plan moved p w i ≡ interval_after plan other p w i
interval-alike plan moved other p w Red alike = refl
interval-alike plan moved other p w Green alike = rw alike.ends refl
interval-alike plan moved other p w Yellow alike = rw alike.clears refl
interval-alike plan moved other p w RedClear alike = rw alike.clears refl

new_interval-alike : (plan : Plan) (moved other : Moved) (p : ℕ) (w : Phase) → MoveAlike moved other p →
    new_interval plan moved p w ≡ new_interval plan other p w
new_interval-alike plan moved other p w alike = rw (interval-alike plan moved other p w w.interval alike, alike.starts) refl

new_timer-alike : (plan : Plan) (moved other : Moved) (p : ℕ) (w : Phase) → MoveAlike moved other p →
    new_timer plan moved p w ≡ new_timer plan other p w
new_timer-alike plan moved other p w alike = rw (new_interval-alike plan moved other p w alike, alike.starts) refl

moved-alike : (plan : Plan) (given : Given) (moved other : Moved) (p : ℕ) (was : Phase) → MoveAlike moved other p →
    next plan given moved p was ≡ next plan given other p was
moved-alike plan given moved other p was alike =
    rw (
      new_timer-alike plan moved other p (as_read was) alike,
      new_interval-alike plan moved other p (as_read was) alike,
      alike.ends,
      alike.starts,
    ) refl

next-same : (plan : Plan) (g h : Given) → plan.phase_count ≤ 16 → AgreeOnPhases g h → (p : ℕ) → 1 ≤ p → p ≤ 16 →
    (moved other : Moved) (was : Phase) → MoveAlike moved other p → next plan g moved p was ≡ next plan h other p was
next-same plan g h count same p from to moved other was alike =
    read-same plan g h count same p from to moved was ∙ moved-alike plan h moved other p was alike

pub looks_only : phases.LooksOnlyAtItsOwn
looks_only plan g h count same p from to = record {
  ready = ready-same plan g h count same p from to;
  gapped = gapped_now-same plan g h count same p from to;
  walks = walks-same plan g h count same p from to;
  goes_on = next-same plan g h count same p from to;
  ends = ended-same plan g h count same p from to;
  starts = started-same plan g h count same p from to;
}
