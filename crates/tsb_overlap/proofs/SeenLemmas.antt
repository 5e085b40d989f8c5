-- What overlaps see of phases and rings.
use Rattle.std.proofs.Common.{◌≡◌, Bool, true, false, not, ◌&&◌, ◌||◌, if◌then◌else◌, refl}
use Rattle.tsb_objects.specs.tsb_types.declared.interval.Interval.TheVariants as intervals
use Rattle.tsb_objects.specs.tsb_types.declared.interval.PedestrianInterval.TheVariants as pedestrians
use Rattle.tsb_objects.specs.tsb_types.Intervals.{is_green, in_service, is_dont_walk}

-- an interval by three sets
pub serves : (g y r : Bool) → in_service (if g then intervals.Green else (if y then intervals.Yellow else (if r then intervals.RedClear else intervals.Red))) ≡ ((g || y) || r)
serves true y r = refl
serves false true r = refl
serves false false true = refl
serves false false false = refl

pub greens : (g y r : Bool) → is_green (if g then intervals.Green else (if y then intervals.Yellow else (if r then intervals.RedClear else intervals.Red))) ≡ g
greens true y r = refl
greens false true r = refl
greens false false true = refl
greens false false false = refl

-- a pedestrian part by two sets
pub crosses : (w c : Bool) → not (is_dont_walk (if w then pedestrians.Walk else (if c then pedestrians.PedestrianClear else pedestrians.DontWalk))) ≡ (w || c)
crosses true c = refl
crosses false true = refl
crosses false false = refl

pub and-assoc : (a b c d : Bool) → (((a && b) && c) && d) ≡ (a && (b && (c && d)))
and-assoc true true c d = refl
and-assoc true false c d = refl
and-assoc false b c d = refl
