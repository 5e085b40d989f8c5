-- A live run ends as its dialog does.
use Rattle.std.proofs.Common.{◌≡◌, ℕ, Bool, List, Ok, Err}
use Rattle.std.specs.declared.option.Option.{Option}
use Rattle.std.specs.declared.result.Result.{Result}
use Rattle.tsb_dialog.specs.declared.error.DialogError.{DialogError}
use Rattle.tsb_dialog.specs.declared.error.DialogError.TheVariants.{Read, Write, TooLarge}
use Rattle.tsb_dialog.specs.Blame as dialog_blame
use Rattle.tsb_dialog.specs.Ended.{Ended, EndedSo}
use Rattle.tsb_dialog.specs.Says.{Saying}
use Rattle.tsb_step.specs.tsb_plan.Plan.{Plan}
use Rattle.tsb_text.specs.Blame.{Blames}
use Rattle.tsb_text.specs.declared.faults.OnFault.{OnFault}
use Rattle.tsb_live_text.specs.Live.{Live}
use Rattle.tsb_text.specs.Stops.{Stopped, stop_in}
use Rattle.tsb_live_text.specs.LiveEnded.{EndedAs, HasStopped, LiveEnded, ended_with}
use Rattle.tsb_text.specs.declared.stop.Stop.{Stop}

-- what is known of what answers is known of the line that ended the run
abbrev Tells : {A : Type 0} → (A → Live → Type 0) → A → Option Stopped → Type 0
Tells stands new stopped = (s : Live) → stands new s → stopped ≡ s.stopped

so-stopped : {A : Type 0} (result : Result (Unit {0}) DialogError) (most limit : ℕ) (stands : A → Live → Type 0) (says : Saying Live) (from : Live) (new : A) (stopped : Option Stopped) (left : Option (List ℕ)) (read written : List ℕ)
    → Tells stands new stopped → EndedSo most limit stands says from result new left read written → EndedSo most limit HasStopped says from result stopped left read written
so-stopped (Ok u) most limit stands says from new stopped left read written tells so = (so.0, tells so.0 so.1, so.2)
so-stopped (Err Write) most limit stands says from new stopped left read written tells so = so
so-stopped (Err Read) most limit stands says from new stopped left read written tells so = (so.0, so.1, so.2, tells so.1 so.3, so.4)
so-stopped (Err TooLarge) most limit stands says from new stopped left read written tells so = (so.0, so.1, so.2, tells so.1 so.3, so.4)

pub ended-stopped : {A : Type 0} (result : Result (Unit {0}) DialogError) (most limit : ℕ) (stands : A → Live → Type 0) (says : Saying Live) (from : Live) (new : A) (stopped : Option Stopped) (input left before after : Option (List ℕ))
    → Tells stands new stopped → Ended most limit stands says from result new input left before after → Ended most limit HasStopped says from result stopped input left before after
ended-stopped result most limit stands says from new stopped input left before after tells e = record {
  read = e.read;
  taken = e.taken;
  written = e.written;
  grown = e.grown;
  so = so-stopped result most limit stands says from new stopped left e.read e.written tells e.so;
  large = e.large;
  limited = e.limited;
  reads = e.reads;
}

-- a run ends as its dialog does
pub live-ended : (result : Result (Unit {0}) DialogError) (stop : Option Stop) (on_fault : OnFault) (acts : Bool) (plan : Plan) (input left before after : Option (List ℕ))
    → EndedAs result (stop_in stop) on_fault acts plan input left before after → LiveEnded (ended_with result stop) on_fault acts plan input left before after
live-ended (Ok u) stop on_fault acts plan input left before after e = e
live-ended (Err Read) stop on_fault acts plan input left before after e = (stop_in stop, e)
live-ended (Err Write) stop on_fault acts plan input left before after e = (stop_in stop, e)
live-ended (Err TooLarge) stop on_fault acts plan input left before after e = (stop_in stop, e)

-- the device that the dialog blames is the one to blame
pub live-blames : (result : Result (Unit {0}) DialogError) (stop : Option Stop) (read_failed write_failed flushed : Bool) → dialog_blame.Blames result read_failed write_failed flushed
    → Blames (ended_with result stop) read_failed write_failed flushed
live-blames (Ok u) stop read_failed write_failed flushed so = so
live-blames (Err Read) stop read_failed write_failed flushed so = so
live-blames (Err Write) stop read_failed write_failed flushed so = so
live-blames (Err TooLarge) stop read_failed write_failed flushed so = so
