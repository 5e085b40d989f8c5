-- Good states show phases that go together: what has right of way is in service, and what is in service together is
-- concurrent.
use Rattle.std.proofs.Common.{◌≡◌, ℕ, Bool, true, false, if◌then◌else◌, refl, inl, inr, ◌⊎◌}
use Rattle.std.proofs.lemmas.Bool.{cases_Bool, false≢true}
use Rattle.tsb_types.specs.declared.interval.Interval.{Interval}
use Rattle.tsb_types.specs.declared.interval.Interval.TheVariants.{Red, Green, Yellow, RedClear}
use Rattle.tsb_types.specs.declared.interval.PedestrianInterval.{PedestrianInterval}
use Rattle.tsb_types.specs.declared.interval.PedestrianInterval.TheVariants.{DontWalk, Walk, PedestrianClear}
use Rattle.tsb_types.specs.declared.lamp.Aspect.{Aspect}
use Rattle.tsb_types.specs.declared.lamp.Aspect.TheVariants as aspects
use Rattle.tsb_types.specs.declared.lamp.PedestrianAspect.TheVariants as pedestrian_aspects
use Rattle.tsb_types.specs.declared.row.Row.{Row}
use Rattle.tsb_types.specs.Intervals.{in_service, is_green}
use Rattle.tsb_objects.specs.tsb_plan.Plan.{is_enabled, is_concurrent}
use Rattle.tsb_heads.specs.Heads.{aspect_of, vehicle_head, pedestrian_aspect_of, has_pedestrian_head, pedestrian_head}
use Rattle.tsb_heads.specs.Displays.{ordered}
use Rattle.tsb_heads.specs.Monitoring.{gives_way, lets_walk, has_right_of_way, AreSafeByPhases}
use Rattle.tsb_ring.specs.declared.ring_order.RingOrder.{RingOrder}
use Rattle.tsb_ring.specs.Moves.{acted, is_started}
use Rattle.tsb_ring.proofs.ActLemmas.{acts_as_next}
use Rattle.tsb_ring.proofs.MoveLemmas.{or_cases}
use Rattle.tsb_ring.proofs.SafetyLemmas.{sound_is_safe}
use Rattle.tsb_ring.proofs.WaitLemmas.{starts_wait}
use Rattle.tsb_step.specs.State.{State, interval, pedestrian_part}
use Rattle.tsb_step.specs.Tick.{rings_given, moves, held, after_moves}
use Rattle.tsb_step.specs.Signs.{shown}
use Rattle.tsb_step.specs.Laws.{ServesTogether, StartsWaiting, ServesPreempt}
use Rattle.tsb_step.specs.Good.{IsGood}
use Rattle.tsb_step.proofs.HoldLemmas.{taken_over, taken_free}
use Rattle.tsb_step.proofs.GivenLemmas.{symmetric}
use Rattle.tsb_step.proofs.ServiceLemmas.{served}
use Rattle.tsb_types.proofs.IntervalLemmas.{serves-green}

pub served_together : (s : State) → IsGood s → ServesTogether s
served_together s good = sound_is_safe s.plan (interval s) s.rings (symmetric s.plan good.plan.rules) good.rings

-- ## Right of way

-- a vehicle head that is green or yellow is of a phase in service
pub shows_service : (on : Bool) (i : Interval) → gives_way (if on then aspect_of i else aspects.Dark) ≡ true → in_service i ≡ true
shows_service true Red h = absurd (false≢true h)
shows_service true Green h = refl
shows_service true Yellow h = refl
shows_service true RedClear h = absurd (false≢true h)
shows_service false i h = absurd (false≢true h)

-- a pedestrian head in walk or clearance is of a phase that is not in DontWalk
pub shows_walk : (on : Bool) (x : PedestrianInterval) → lets_walk (if on then pedestrian_aspect_of x else pedestrian_aspects.Dark) ≡ true →
    x ≡ DontWalk → ⊥
shows_walk false x h e = false≢true h
shows_walk true DontWalk h e = false≢true h
shows_walk true Walk h e = cc
shows_walk true PedestrianClear h e = cc

pub walks_in_service : (s : State) → IsGood s → (p : ℕ) → lets_walk (pedestrian_head s.plan (shown s) p) ≡ true → in_service (interval s p) ≡ true
walks_in_service s good p h =
    elim (cases_Bool (is_green (interval s p))) [
      | inl e ↦ serves-green (interval s p) e
      | inr e ↦ absurd (shows_walk (has_pedestrian_head s.plan (shown s) p) (pedestrian_part s p) h (good.walks p e))
    ]

pub way_in_service : (s : State) → IsGood s → (p : ℕ) → has_right_of_way (ordered s.plan (shown s)) p ≡ true → in_service (interval s p) ≡ true
way_in_service s good p h =
    elim (or_cases (gives_way (vehicle_head s.plan (shown s) p)) (lets_walk (pedestrian_head s.plan (shown s) p)) h) [
      | inl k ↦ shows_service (is_enabled s.plan p) (interval s p) k
      | inr k ↦ walks_in_service s good p k
    ]

-- ## What good states show

pub ordered_is_safe : (s : State) → IsGood s → AreSafeByPhases s.plan (ordered s.plan (shown s))
ordered_is_safe s good p q h k = served_together s good p q (way_in_service s good p h) (way_in_service s good q k)

-- ## Starts, and preempts in service

pub starts_waiting : (s : State) → IsGood s → StartsWaiting s
unfolding moves rings_given
starts_waiting s good row p q h k =
    elim (starts_wait s.plan s.rings (rings_given s row) p q good.rings h k) [
      | inl both ↦ inl both
      | inr done ↦ inr (taken_over s row q done)
    ]

-- a phase in service that a start does not go with is held by no overlap
pub starts_free : (s : State) → IsGood s → (row : Row) (p q : ℕ) → is_started (moves s row) p ≡ true → in_service (interval s q) ≡ true →
    (is_concurrent s.plan p q ≡ true) ⊎ (held s row q ≡ false)
unfolding moves rings_given
starts_free s good row p q h k =
    elim (starts_wait s.plan s.rings (rings_given s row) p q good.rings h k) [
      | inl both ↦ inl both
      | inr done ↦ inr (taken_free s row q done)
    ]

pub serves_preempt : (s : State) → IsGood s → ServesPreempt s
serves_preempt s good x e = served s.plan x good.plan.rules (good.service x e)

-- ## Rings

pub acts_in_either_order : (s : State) (row : Row) (order : RingOrder) → acted order (moves s row) s.rings ≡ (after_moves s row).rings
unfolding moves rings_given
acts_in_either_order s row order = acts_as_next s.plan s.rings (rings_given s row) order
