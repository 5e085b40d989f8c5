use Rattle.std.proofs.Common.{◌≡◌, ℕ, List, Option, ap, ap₂, subst, ◌∙◌}
use Rattle.tsb_types.specs.declared.interval.Interval.{Interval}
use Rattle.tsb_types.specs.declared.interval.PedestrianInterval.{PedestrianInterval}
use Rattle.tsb_types.specs.declared.watch.Watch.{Watch}
use Rattle.tsb_types.specs.declared.watch.Watch.TheVariants as watches
use Rattle.tsb_detect.specs.declared.alarm.Alarm.{Alarm}
use Rattle.tsb_detect.specs.declared.detectors.Detectors.{Detectors}
use Rattle.tsb_detect.specs.Cells.{detector_in}
use Rattle.tsb_detect.specs.Layer as detectors
use Rattle.tsb_detect.specs.Promises.{TellsAlarm}
use Rattle.tsb_phase.specs.declared.phases.Phases.{Phases}
use Rattle.tsb_phase.specs.Cells.{phase_in}
use Rattle.tsb_phase.specs.Layer as phases
use Rattle.tsb_phase.specs.Promises.{TellsInterval, TellsPedestrian}
use Rattle.tsb_step.specs.Cells.{clock_at}
use Rattle.tsb_step.specs.MonitorCells.{trip_in}
use Rattle.tsb_step.specs.Watches as step
use Rattle.tsb_step.specs.Watches.{watched}
use Rattle.tsb_controller.specs.Whole.{All, all_in}
use Rattle.tsb_bench.specs.declared.watched.WatchedLayer.TheVariants as layers
use Rattle.tsb_bench.specs.Watched.{Holds}
use Rattle.tsb_bench.proofs.watched.WatchedLayer.value.Goals as goal

-- the clock by which the layers of these rows are read
abbrev clock_of : ℕ → All → ℕ
clock_of now a = clock_at now (trip_in a.monitor)

interval-told : (l : Phases) (q : ℕ) (i : Interval) → TellsInterval (phases.cells_of l) q i → (w : Watch) (now : ℕ) (a : All) → Holds w a (layers.Interval l q) →
    step.OfInterval i ≡ watched w (all_in now a)
interval-told l q i tells (watches.Interval p) now a held =
    ap step.OfInterval (tells (clock_of now a) ∙ ap₂ (λ (row : List ℕ) (k : ℕ). (phase_in (clock_of now a) row k).interval) held.1 held.0)
interval-told l q i tells (watches.Ped p) now a held = absurd held
interval-told l q i tells (watches.Call p) now a held = absurd held
interval-told l q i tells (watches.Output d) now a held = absurd held
interval-told l q i tells (watches.Alarm d) now a held = absurd held
interval-told l q i tells watches.Stage now a held = absurd held
interval-told l q i tells watches.Trip now a held = absurd held

pub returns-in-Interval : goal.returns-in-Interval
returns-in-Interval c w now a held by =
    interval-told c.in-Interval.phases c.in-Interval.phase c.interval.result c.interval.ensures w now a (subst (Holds w a) c.in-Interval.is held)

pedestrian-told : (l : Phases) (q : ℕ) (i : PedestrianInterval) → TellsPedestrian (phases.cells_of l) q i → (w : Watch) (now : ℕ) (a : All) → Holds w a (layers.Ped l q) →
    step.OfPedestrian i ≡ watched w (all_in now a)
pedestrian-told l q i tells (watches.Interval p) now a held = absurd held
pedestrian-told l q i tells (watches.Ped p) now a held =
    ap step.OfPedestrian (tells (clock_of now a) ∙ ap₂ (λ (row : List ℕ) (k : ℕ). (phase_in (clock_of now a) row k).pedestrian) held.1 held.0)
pedestrian-told l q i tells (watches.Call p) now a held = absurd held
pedestrian-told l q i tells (watches.Output d) now a held = absurd held
pedestrian-told l q i tells (watches.Alarm d) now a held = absurd held
pedestrian-told l q i tells watches.Stage now a held = absurd held
pedestrian-told l q i tells watches.Trip now a held = absurd held

pub returns-in-Ped : goal.returns-in-Ped
returns-in-Ped c w now a held by =
    pedestrian-told c.in-Ped.phases c.in-Ped.phase c.ped.result c.ped.ensures w now a (subst (Holds w a) c.in-Ped.is held)

alarm-told : (l : Detectors) (e : ℕ) (o : Option Alarm) → TellsAlarm (detectors.cells_of l) e o → (w : Watch) (now : ℕ) (a : All) → Holds w a (layers.Alarm l e) →
    step.OfAlarm o ≡ watched w (all_in now a)
alarm-told l e o tells (watches.Interval p) now a held = absurd held
alarm-told l e o tells (watches.Ped p) now a held = absurd held
alarm-told l e o tells (watches.Call p) now a held = absurd held
alarm-told l e o tells (watches.Output d) now a held = absurd held
alarm-told l e o tells (watches.Alarm d) now a held =
    ap step.OfAlarm (tells (clock_of now a) ∙ ap₂ (λ (row : List ℕ) (k : ℕ). (detector_in (clock_of now a) row k).alarm) held.1 held.0)
alarm-told l e o tells watches.Stage now a held = absurd held
alarm-told l e o tells watches.Trip now a held = absurd held

pub returns-in-Alarm : goal.returns-in-Alarm
returns-in-Alarm c w now a held by =
    alarm-told c.in-Alarm.detectors c.in-Alarm.detector c.alarm.result c.alarm.ensures w now a (subst (Holds w a) c.in-Alarm.is held)
