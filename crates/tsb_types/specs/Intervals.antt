-- Words on the intervals of a phase: of its vehicle head, and of its pedestrian head.
use Rattle.std.specs.Prelude.{Bool, true, false}
use Rattle.tsb_types.specs.declared.interval.Interval.{Interval}
use Rattle.tsb_types.specs.declared.interval.Interval.TheVariants.{Red, Green, Yellow, RedClear}
use Rattle.tsb_types.specs.declared.interval.PedestrianInterval.{PedestrianInterval}
use Rattle.tsb_types.specs.declared.interval.PedestrianInterval.TheVariants.{DontWalk, Walk, PedestrianClear}

-- the phase is Green, from its start until its yellow change
abbrev pub is_green : Interval → Bool
is_green Green = true
is_green Red = false
is_green Yellow = false
is_green RedClear = false

-- in yellow change, right after a green
abbrev pub is_yellow : Interval → Bool
is_yellow Yellow = true
is_yellow Red = false
is_yellow Green = false
is_yellow RedClear = false

-- in red clearance, after yellow change: the head is red, and the phase is still in service
abbrev pub is_red_clear : Interval → Bool
is_red_clear RedClear = true
is_red_clear Red = false
is_red_clear Green = false
is_red_clear Yellow = false

-- a phase is in service in Green, Yellow or RedClear
abbrev pub in_service : Interval → Bool
in_service Red = false
in_service Green = true
in_service Yellow = true
in_service RedClear = true

-- in walk: pedestrians may begin to cross
abbrev pub is_walk : PedestrianInterval → Bool
is_walk Walk = true
is_walk DontWalk = false
is_walk PedestrianClear = false

-- in pedestrian clearance: those who are crossing finish, and none may begin
abbrev pub is_clearance : PedestrianInterval → Bool
is_clearance PedestrianClear = true
is_clearance DontWalk = false
is_clearance Walk = false

-- in don't walk: neither a walk nor a pedestrian clearance is under way
abbrev pub is_dont_walk : PedestrianInterval → Bool
is_dont_walk DontWalk = true
is_dont_walk Walk = false
is_dont_walk PedestrianClear = false
