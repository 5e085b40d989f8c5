-- What the heads of phases show, read from the sets of phases.
use Rattle.std.specs.Prelude.{ℕ}
use Rattle.tsb_objects.specs.tsb_types.declared.lamp.Aspect.{Aspect}
use Rattle.tsb_objects.specs.tsb_types.declared.lamp.PedestrianAspect.{PedestrianAspect}
use Rattle.tsb_objects.specs.tsb_types.Sets.{has}
use Rattle.tsb_heads.specs.declared.phase_heads.Vehicles.{Vehicles}
use Rattle.tsb_heads.specs.declared.phase_heads.Walkers.{Walkers}
use Rattle.tsb_heads.specs.Reading.{aspect_in, pedestrian_aspect_in}
use Rattle.tsb_heads.specs.Promises.{IsApart}

-- the aspect of the vehicle head of a phase
abbrev pub vehicle_aspect : Vehicles → ℕ → Aspect
vehicle_aspect heads p = aspect_in (has heads.red p) (has heads.yellow p) (has heads.green p)

-- the aspect of the pedestrian head of a phase
abbrev pub pedestrian_aspect : Walkers → ℕ → PedestrianAspect
pedestrian_aspect heads p = pedestrian_aspect_in (has heads.dont_walk p) (has heads.clearance p) (has heads.walk p)

-- no vehicle head is in two sets
pub record VehiclesAreApart (heads : Vehicles) : Type 0 where
  pub red_yellow : IsApart (has heads.red) (has heads.yellow)
  pub red_green : IsApart (has heads.red) (has heads.green)
  pub yellow_green : IsApart (has heads.yellow) (has heads.green)

-- no pedestrian head is in two sets
pub record WalkersAreApart (heads : Walkers) : Type 0 where
  pub wait_clear : IsApart (has heads.dont_walk) (has heads.clearance)
  pub wait_walk : IsApart (has heads.dont_walk) (has heads.walk)
  pub clear_walk : IsApart (has heads.clearance) (has heads.walk)
