-- Events, and the words in which crates say which there are. Codes are those of the Indiana Traffic Signal Hi
-- Resolution Data Logger Enumerations.
use Rattle.std.specs.Prelude.{ℕ, Bool, not, ◌&&◌, ◌||◌, List, map, filter}
use Rattle.tsb_types.specs.Lists.{run_from}
use Rattle.tsb_types.specs.declared.limits.TheConstants.{VEHICLE_DETECTORS}
use Rattle.tsb_types.specs.declared.event.Event.{Event}

-- an event
abbrev pub event : ℕ → ℕ → ℕ → Event
event tick code parameter = record { tick = tick; code = code; parameter = parameter }

-- the numbers 1 to 16 that pass a test, the least first
abbrev pub numbers_with : (ℕ → Bool) → List ℕ
numbers_with test = filter test (run_from 1 16)

-- an event of this code for each number that passes a test
abbrev pub told : ℕ → ℕ → (ℕ → Bool) → List Event
told tick code test = map (λ n. event tick code n) (numbers_with test)

-- the numbers of vehicle detectors that pass a test, the least first
abbrev pub detectors_with : (ℕ → Bool) → List ℕ
detectors_with test = filter test (run_from 1 VEHICLE_DETECTORS)

-- an event of this code for each vehicle detector that passes a test
abbrev pub told_detectors : ℕ → ℕ → (ℕ → Bool) → List Event
told_detectors tick code test = map (λ d. event tick code d) (detectors_with test)

-- what begins: now it is, and it was not
abbrev pub begins : (ℕ → Bool) → (ℕ → Bool) → ℕ → Bool
begins was is_now n = is_now n && not (was n)

-- what ends: it was, and now it is not
abbrev pub ends : (ℕ → Bool) → (ℕ → Bool) → ℕ → Bool
ends was is_now n = begins is_now was n

-- it is one or the other
abbrev pub either : (ℕ → Bool) → (ℕ → Bool) → ℕ → Bool
either one other n = one n || other n
