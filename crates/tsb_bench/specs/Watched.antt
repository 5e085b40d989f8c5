-- What the search for a watched value's last change says of the one layer that it winds back.
use Rattle.std.specs.Prelude.{◌≡◌, false, option_map}
use Rattle.tsb_cells.specs.Bank as bank
use Rattle.tsb_types.specs.declared.watch.Watch.{Watch}
use Rattle.tsb_types.specs.declared.watch.Watch.TheVariants as watches
use Rattle.tsb_detect.specs.Layer as detectors
use Rattle.tsb_calls.specs.Layer as calls
use Rattle.tsb_phase.specs.Layer as phases
use Rattle.tsb_preempt.specs.Layer as preempts
use Rattle.tsb_step.specs.Watches as step
use Rattle.tsb_controller.specs.Whole.{All}
use Rattle.tsb_bench.specs.declared.watched.WatchedLayer.{WatchedLayer}
use Rattle.tsb_bench.specs.declared.watched.WatchedLayer.TheVariants as layers
use Rattle.tsb_bench.specs.declared.watched.Value.{Value}
use Rattle.tsb_bench.specs.declared.watched.Value.TheVariants as values

-- it is the layer of what is watched, closed, with its cells as in these rows
abbrev pub Holds : Watch → All → WatchedLayer → Type 0
Holds (watches.Interval p) a (layers.Interval l q) = (q ≡ p) × (phases.cells_of l ≡ a.layers.phases) × (phases.is_open l ≡ false)
Holds (watches.Ped p) a (layers.Ped l q) = (q ≡ p) × (phases.cells_of l ≡ a.layers.phases) × (phases.is_open l ≡ false)
Holds (watches.Call p) a (layers.Call l q) = (q ≡ p) × (calls.cells_of l ≡ a.layers.calls) × (calls.is_open l ≡ false)
Holds (watches.Output d) a (layers.Output l e) = (e ≡ d) × (detectors.cells_of l ≡ a.layers.detectors) × (detectors.is_open l ≡ false)
Holds (watches.Alarm d) a (layers.Alarm l e) = (e ≡ d) × (detectors.cells_of l ≡ a.layers.detectors) × (detectors.is_open l ≡ false)
Holds watches.Stage a (layers.Stage l) = (preempts.cells_of l ≡ a.layers.preempts) × (preempts.is_open l ≡ false)
Holds watches.Trip a (layers.Trip m) = (bank.cells_of m.bank ≡ a.monitor) × (bank.is_open m.bank ≡ false)
Holds w a x = ⊥

-- a value as the definitions have it
abbrev pub told : Value → step.Watched
told (values.Interval i) = step.OfInterval i
told (values.Ped i) = step.OfPedestrian i
told (values.Call on) = step.OfCall on
told (values.Output on) = step.OfOutput on
told (values.Alarm a) = step.OfAlarm a
told (values.Stage s) = step.OfStage s
told (values.Trip t) = step.OfTrip (option_map (λ x. record { cause = x.0; tick = x.1 }) t)
