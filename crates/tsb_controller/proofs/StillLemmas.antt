-- The monitor in ticks that leave the phases as they were: the field is the one that it was, so that it finds what it found.
use Rattle.std.proofs.Common.{◌≡◌, ℕ, ◌+◌, ◌-◌, List, Option, Some, None, option_map, refl, sym, ap, ap₂, subst, ◌∙◌}
use Rattle.std.proofs.Math.Path.{fun_ext}
use Rattle.tsb_step.specs.tsb_types.declared.lamp.Lamp.{Lamp}
use Rattle.tsb_step.specs.tsb_types.declared.row.Row.{Row}
use Rattle.tsb_step.specs.tsb_plan.Plan.{Plan}
use Rattle.tsb_heads.specs.declared.monitor.Trip.{Trip}
use Rattle.tsb_heads.specs.Displays as heads
use Rattle.tsb_heads.specs.Heads.{Shown}
use Rattle.tsb_heads.specs.Monitoring.{judge}
use Rattle.tsb_overlap.specs.Overlap.{light}
use Rattle.tsb_transact.specs.Desk.{Desk}
use Rattle.tsb_step.specs.Signs.{field, shown, watched}
use Rattle.tsb_step.specs.State.{State, Tripped}
use Rattle.tsb_step.specs.Step.{ticked}
use Rattle.tsb_step.specs.Tick as tick
use Rattle.tsb_step.specs.Tick.{new_detectors, phases_given, rings_given, moves, next}
use Rattle.tsb_controller.specs.Passing.{WatchedTicksAreTicked, WatchedTicksPass}
use Rattle.tsb_controller.specs.Promises.{IsTicked, IsWatchedTick}
use Rattle.tsb_controller.specs.Rows.{Rows, untripped, state_of}
use Rattle.tsb_controller.proofs.LaterLemmas.{part-at}
use Rattle.tsb_controller.proofs.CarryLemmas.{same-interval}
use Rattle.tsb_controller.proofs.OverlapLemmas.{interval-any}

-- ## A watched tick is a tick

pub watched-ticks_are : WatchedTicksAreTicked
unfolding watched new_detectors tick.new_service phases_given tick.held rings_given moves tick.new_rings tick.gives_up
watched-ticks_are now row lamp plan old new None done desk other = λ i. record (done desk i) { lamp = other; trip = None }
watched-ticks_are now row lamp plan old new (Some cause) done desk other = λ i. record (done desk i) { lamp = other; trip = None }

-- ## What the monitor finds

-- what displays are found from, at whatever tick the rows are read
shown-at : (m n : ℕ) (plan : Plan) (desk : Desk) (lamp : Option Lamp) (r : Rows) →
    shown (state_of m (untripped plan desk lamp) r) ≡ shown (state_of n (untripped plan desk lamp) r)
shown-at m n plan desk lamp r = λ i. record (shown (state_of n (untripped plan desk lamp) r)) {
  interval = fun_ext (λ p. same-interval m n r.phases p) i;
  pedestrian = fun_ext (λ p. part-at m n r.phases p) i;
  light = fun_ext (λ o. ap light (interval-any m n r.overlaps o)) i;
}

field-at : (m n : ℕ) (plan : Plan) (desk : Desk) (lamp : Option Lamp) (r : Rows) →
    field (state_of m (untripped plan desk lamp) r) ≡ field (state_of n (untripped plan desk lamp) r)
unfolding field
field-at m n plan desk lamp r = ap (λ (x : Shown). heads.field plan x lamp) (shown-at m n plan desk lamp r)

-- the trip that comes of what is found
abbrev tripped_at : ℕ → Option Trip → Option Tripped
tripped_at now o = option_map (λ cause. record { cause = cause; tick = now }) o

found-none : (now : ℕ) (o : Option Trip) → None ≡ tripped_at now o → o ≡ None
found-none now None e = refl
found-none now (Some cause) e = absurd cc

module _ (now t : ℕ) (row : Row) (lamp : Option Lamp) (plan : Plan) (detectors calls : List ℕ) (r : Rows) (desk : Desk)
    (seen : IsWatchedTick now row lamp plan (record r { detectors = detectors; calls = calls }) r None) (then : IsTicked t row plan r r) where
  -- the rows before tick `now`
  abbrev was : Rows
  was = record r { detectors = detectors; calls = calls }

  abbrev at_tick : ℕ → Rows → State
  at_tick n rows = state_of n (untripped plan desk lamp) rows

  found-now : judge plan (field (at_tick (now - 1) was)) (field (next (at_tick (now - 1) was) row)) ≡ None
  unfolding watched
  found-now = found-none (now - 1 + 1) _ (ap (λ (x : State). x.trip) (seen desk))

  found-then : judge plan (field (at_tick (t - 1) r)) (field (at_tick t r)) ≡ None
  unfolding field
  found-then =
      ap₂ (judge plan) (field-at (t - 1) (now - 1) plan desk lamp r)
      (field-at t now plan desk lamp r ∙ ap field (watched-ticks_are now row lamp plan was r None seen desk lamp))
      ∙ found-now

  pub watched-then : state_of t (untripped plan desk lamp) r ≡ ticked row (at_tick (t - 1) r)
  unfolding watched
  watched-then =
      ap (λ (o : Option Trip). record (at_tick t r) { trip = tripped_at t o }) (sym found-then)
      ∙ ap (watched (at_tick (t - 1) r)) (then desk lamp)

pub watched-pass : WatchedTicksPass
watched-pass now t row lamp plan old r rest seen then desk =
    watched-then now t row lamp plan old.detectors old.calls r desk
    (subst (λ (rows : Rows). IsWatchedTick now row lamp plan rows r None) rest seen) then
