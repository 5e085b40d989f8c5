-- What is shown before the first line, and which colour each head has.
use Rattle.std.specs.Prelude.{ℕ, ◌&&◌, nat_eq, Bool, None, if◌then◌else◌}
use Rattle.std.specs.Option.{option_eq}
use Rattle.tsb_types.specs.Sets.{has_number, is_same_set, set_of_list}
use Rattle.tsb_types.specs.declared.lamp.Aspect.{Aspect}
use Rattle.tsb_types.specs.declared.lamp.Aspect.TheVariants.{Dark, Red, Yellow, Green, FlashingRed, FlashingYellow}
use Rattle.tsb_types.specs.declared.lamp.PedestrianAspect.{PedestrianAspect}
use Rattle.tsb_types.specs.declared.lamp.PedestrianAspect.TheVariants as pedestrian_aspects
use Rattle.tsb_display_text.specs.tsb_heads.Promises.{IsApart}
use Rattle.tsb_field_display.specs.declared.shown.VehicleHeads.{VehicleHeads}
use Rattle.tsb_field_display.specs.declared.shown.PedestrianHeads.{PedestrianHeads}
use Rattle.tsb_field_display.specs.declared.shown.Signals.{Signals}

-- no vehicle head is lit
abbrev pub dark_vehicles : VehicleHeads
dark_vehicles = record {
  greens = set_of_list 0;
  yellows = set_of_list 0;
  reds = set_of_list 0;
  flashing = set_of_list 0;
  arrows = set_of_list 0;
}

-- no pedestrian head is lit
abbrev pub dark_pedestrians : PedestrianHeads
dark_pedestrians = record { walks = set_of_list 0; clearances = set_of_list 0; dont_walks = set_of_list 0 }

-- what stands before the first line
abbrev pub nothing_lit : Signals
nothing_lit = record { vehicles = dark_vehicles; pedestrians = dark_pedestrians; overlaps = dark_vehicles; preempt = None }

-- what the head of this number shows, by the set that it is in
abbrev pub aspect_of : VehicleHeads → ℕ → Aspect
aspect_of heads n =
    if has_number heads.greens n then Green else
    (if has_number heads.yellows n then Yellow else
    (if has_number heads.reds n then Red else
    (if has_number heads.flashing n then FlashingRed else
    (if has_number heads.arrows n then FlashingYellow else Dark))))

-- what the pedestrian head of this number shows, by the set that it is in
abbrev pub pedestrian_aspect_of : PedestrianHeads → ℕ → PedestrianAspect
pedestrian_aspect_of heads n =
    if has_number heads.walks n then pedestrian_aspects.Walk else
    (if has_number heads.clearances n then pedestrian_aspects.Clearance else
    (if has_number heads.dont_walks n then pedestrian_aspects.DontWalk else pedestrian_aspects.Dark))

-- no pedestrian head shows both walk and clearance, and no overlap two of green, yellow and flashing yellow
pub record AreApart (s : Signals) : Type 0 where
  pub pedestrians : IsApart (has_number s.pedestrians.walks) (has_number s.pedestrians.clearances)
  pub overlaps : IsApart (has_number s.overlaps.greens) (has_number s.overlaps.yellows)
  pub green_arrows : IsApart (has_number s.overlaps.greens) (has_number s.overlaps.arrows)
  pub yellow_arrows : IsApart (has_number s.overlaps.yellows) (has_number s.overlaps.arrows)

-- ## Whether two show the same

-- the same vehicle heads show each colour
abbrev pub are_same_vehicles : VehicleHeads → VehicleHeads → Bool
are_same_vehicles one other =
    is_same_set one.greens other.greens && (is_same_set one.yellows other.yellows
    && (is_same_set one.reds other.reds && (is_same_set one.flashing other.flashing && is_same_set one.arrows other.arrows)))

-- the same pedestrian heads show each signal
abbrev pub are_same_pedestrians : PedestrianHeads → PedestrianHeads → Bool
are_same_pedestrians one other =
    is_same_set one.walks other.walks
    && (is_same_set one.clearances other.clearances && is_same_set one.dont_walks other.dont_walks)

-- the same heads show the same, and the same preempt is in service
unfoldable pub is_same : Signals → Signals → Bool
is_same one other =
    are_same_vehicles one.vehicles other.vehicles && (are_same_pedestrians one.pedestrians other.pedestrians
    && (are_same_vehicles one.overlaps other.overlaps && option_eq nat_eq one.preempt other.preempt))
