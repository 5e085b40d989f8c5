-- The calls in force after an input, as the status objects of NTCIP 1202 and the log of a controller have them. That a
-- vehicle call is one of a phase that is not Green, and a pedestrian call one of a phase that is not in Walk, is the
-- profile's own: so a call goes as it is served, a recall's as well. A soft recall is none, and an omitted phase has
-- its calls.
--
-- `given` is what the calls are found from, of the state, and `m` the memories in it.
use Rattle.std.specs.Prelude.{ℕ, Bool, not, ◌&&◌, ◌||◌}
use Rattle.tsb_objects.specs.tsb_types.Intervals.{is_walk}
use Rattle.tsb_objects.specs.tsb_plan.Plan.{Plan, is_enabled}
use Rattle.tsb_calls.specs.Memories.{Memories, Given, was_green}
use Rattle.tsb_calls.specs.Callable.{has_pedestrian_call, has_passing_call, is_recalled}

-- by vehicle memory, by an output of a non-locking phase, or by minimum or maximum recall
abbrev pub vehicle_call : Plan → Given → Memories → ℕ → Bool
vehicle_call plan given m p =
    (is_enabled plan p && not (was_green given p)) &&
    (m.vehicle p || (has_passing_call plan given p || is_recalled plan given p))

-- by pedestrian memory or recall, of an enabled phase with a walk
abbrev pub pedestrian_call : Plan → Given → Memories → ℕ → Bool
pedestrian_call plan given m p = has_pedestrian_call plan given m p && not (is_walk (given.pedestrian_part p))
