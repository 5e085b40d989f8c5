-- How a live run ends: what it has written for the bytes that it has read.
use Rattle.std.specs.Prelude.{◌≡◌, ℕ, Bool, List, Option, Result, Ok, Err}
use Rattle.tsb_dialog.specs.declared.dialog.TheConstants.{KEPT}
use Rattle.tsb_dialog.specs.declared.error.DialogError.{DialogError}
use Rattle.tsb_dialog.specs.declared.error.DialogError.TheVariants as ends
use Rattle.tsb_dialog.specs.Ended.{Ended}
use Rattle.tsb_step.specs.tsb_plan.Plan.{Plan}
use Rattle.tsb_text.specs.declared.error.SessionError.{SessionError}
use Rattle.tsb_text.specs.declared.error.SessionError.TheVariants.{Memory, Read, Write, TooLarge}
use Rattle.tsb_text.specs.Replies.{fault_of}
use Rattle.tsb_text.specs.declared.faults.OnFault.{OnFault}
use Rattle.tsb_live_text.specs.declared.run.TheConstants.{BYTES}
use Rattle.tsb_text.specs.declared.stop.Stop.{Stop}
use Rattle.tsb_text.specs.Stops.{Stopped, stop_in}
use Rattle.tsb_live_text.specs.Live.{Live, Says, begun}

-- it is known of the run which line ended it, if one did
abbrev pub HasStopped : Option Stopped → Live → Type 0
HasStopped stopped s = stopped ≡ s.stopped

-- a dialog whose lines are answered live, which began at power-up, ended so; this line ended it, if one did
abbrev pub EndedAs : Result (Unit {0}) DialogError → Option Stopped → OnFault → Bool → Plan → Option (List ℕ) → Option (List ℕ) → Option (List ℕ) → Option (List ℕ) → Type 0
EndedAs result stopped on_fault acts plan input left old new = Ended KEPT BYTES HasStopped Says (begun on_fault acts plan) result stopped input left old new

-- after a fault it is not known which line ended the run
abbrev pub EndedBy : DialogError → OnFault → Bool → Plan → Option (List ℕ) → Option (List ℕ) → Option (List ℕ) → Option (List ℕ) → Type 0
EndedBy fault on_fault acts plan input left old new = (stopped : Option Stopped) × EndedAs (Err fault) stopped on_fault acts plan input left old new

-- how a run ends whose dialog ended so, with the line that ended it, if one did
abbrev pub ended_with : Result (Unit {0}) DialogError → Option Stop → Result (Option Stop) SessionError
ended_with (Ok u) stop = Ok stop
ended_with (Err e) stop = Err (fault_of e)

-- a live run ended as its dialog did. With no memory to begin with nothing was read and nothing was written.
abbrev pub LiveEnded : Result (Option Stop) SessionError → OnFault → Bool → Plan → Option (List ℕ) → Option (List ℕ) → Option (List ℕ) → Option (List ℕ) → Type 0
LiveEnded (Ok stop) on_fault acts plan input left old new = EndedAs (Ok tt) (stop_in stop) on_fault acts plan input left old new
LiveEnded (Err Memory) on_fault acts plan input left old new = (left ≡ input) × (new ≡ old)
LiveEnded (Err Read) on_fault acts plan input left old new = EndedBy ends.Read on_fault acts plan input left old new
LiveEnded (Err Write) on_fault acts plan input left old new = EndedBy ends.Write on_fault acts plan input left old new
LiveEnded (Err TooLarge) on_fault acts plan input left old new = EndedBy ends.TooLarge on_fault acts plan input left old new
