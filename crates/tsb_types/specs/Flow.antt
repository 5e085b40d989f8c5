-- What the values that layers tell one another say of each phase, as functions of its number.
use Rattle.std.specs.Prelude.{◌≡◌, ℕ, Bool, false, if◌then◌else◌, Option, Some, None, Result, Ok, Err, ◌&&◌, is_none}
use Rattle.tsb_types.specs.declared.interval.Interval.{Interval}
use Rattle.tsb_types.specs.declared.interval.Interval.TheVariants.{Red, Green, Yellow, RedClear}
use Rattle.tsb_types.specs.declared.interval.PedestrianInterval.{PedestrianInterval}
use Rattle.tsb_types.specs.declared.interval.PedestrianInterval.TheVariants.{DontWalk, Walk, PedestrianClear}
use Rattle.tsb_types.specs.declared.flow.Intervals.{Intervals}
use Rattle.tsb_types.specs.declared.flow.Pedestrians.{Pedestrians}
use Rattle.tsb_types.specs.declared.phase_set.PhaseSet.{PhaseSet}
use Rattle.tsb_types.specs.declared.refusal.Refusal.{Refusal}
use Rattle.tsb_types.specs.declared.flow.OverlapLights.{OverlapLights}
use Rattle.tsb_types.specs.declared.lamp.Aspect.{Aspect}
use Rattle.tsb_types.specs.declared.lamp.Aspect.TheVariants as aspects
use Rattle.tsb_types.specs.Sets.{has, has_number}

-- the interval of phase p
abbrev pub interval_of : Intervals → ℕ → Interval
interval_of i p = if has i.green p then Green else (if has i.yellow p then Yellow else (if has i.red_clear p then RedClear else Red))

-- the pedestrian part of phase p
abbrev pub pedestrian_of : Pedestrians → ℕ → PedestrianInterval
pedestrian_of i p = if has i.walk p then Walk else (if has i.clearance p then PedestrianClear else DontWalk)

-- the phases that a set has, if there is a set
abbrev pub target_of : Option PhaseSet → Option (ℕ → Bool)
target_of None = None
target_of (Some phases) = Some (has phases)

-- what a call that may be refused answers
abbrev pub answered : Option Refusal → Result (Unit {0}) Refusal
answered None = Ok tt
answered (Some refusal) = Err refusal

-- a phase that starts has a walk at once where it has a pedestrian call, and no preempt is in service
abbrev pub gives_walk : Bool → Option ℕ → Bool
gives_walk called service = called && is_none service

-- what the head of overlap o shows that has intervals of its own
abbrev pub light_of : OverlapLights → ℕ → Aspect
light_of lights o =
    if has_number lights.green o then aspects.Green else
    (if has_number lights.flashing o then aspects.FlashingYellow else
    (if has_number lights.yellow o then aspects.Yellow else aspects.Red))

-- none of them is lit
pub record AreUnlit (lights : OverlapLights) : Type 0 where
  pub green : (o : ℕ) → has_number lights.green o ≡ false
  pub flashing : (o : ℕ) → has_number lights.flashing o ≡ false
  pub yellow : (o : ℕ) → has_number lights.yellow o ≡ false
