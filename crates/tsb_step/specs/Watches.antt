-- The values that can be watched, and the tick at which one changed last. An input that is no tick counts at the tick
-- number in force (profile).
use Rattle.std.specs.Prelude.{ℕ, Bool, List, Option}
use Rattle.tsb_types.specs.declared.interval.Interval.{Interval}
use Rattle.tsb_types.specs.declared.interval.PedestrianInterval.{PedestrianInterval}
use Rattle.tsb_types.specs.declared.stage.Stage.{Stage}
use Rattle.tsb_types.specs.declared.watch.Watch.{Watch}
use Rattle.tsb_types.specs.declared.watch.Watch.TheVariants as watches
use Rattle.tsb_detect.specs.declared.alarm.Alarm.{Alarm}
use Rattle.tsb_machine.specs.Watches as told
use Rattle.tsb_step.specs.State.{State, Tripped, interval, pedestrian_part}
use Rattle.tsb_step.specs.Signs.{stage}
use Rattle.tsb_step.specs.Past.{controller}

-- a value that can be watched: of a phase its interval, its pedestrian part and its vehicle memory; of a vehicle
-- detector its output and its alarm; the preempt in service with its stage; the trip
pub data Watched : Type 0 where
  OfInterval : Interval → Watched
  OfPedestrian : PedestrianInterval → Watched
  OfCall : Bool → Watched
  OfOutput : Bool → Watched
  OfAlarm : Option Alarm → Watched
  OfStage : Option (ℕ × Stage) → Watched
  OfTrip : Option Tripped → Watched

-- the value in a state
abbrev pub watched : Watch → State → Watched
watched (watches.Interval p) s = OfInterval (interval s p)
watched (watches.Ped p) s = OfPedestrian (pedestrian_part s p)
watched (watches.Call p) s = OfCall (s.memories.vehicle p)
watched (watches.Output d) s = OfOutput (s.detectors d).output
watched (watches.Alarm d) s = OfAlarm (s.detectors d).alarm
watched watches.Stage s = OfStage (stage s)
watched watches.Trip s = OfTrip s.trip

-- of the states of a run, the newest first, the tick number of the newest in which the value is another than in the one
-- before; none, where it never changed
abbrev pub TellsLastChange : Watch → List State → Option ℕ → Type 0
TellsLastChange w states t = told.TellsLastChange controller (watched w) states t
