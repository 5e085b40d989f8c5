-- What is told of a line, and how far a record has come with it.
use Rattle.std.specs.Prelude.{◌≡◌, ℕ, List, Option}
use Rattle.tsb_step.specs.declared.inputs.Input.{Input}
use Rattle.tsb_step.specs.declared.log_form.LogForm.{LogForm}
use Rattle.tsb_command_text.specs.Readings.{reading}
use Rattle.tsb_dialog.specs.declared.answers.Flow.{Flow}
use Rattle.tsb_dialog.specs.Says.{Saying}
use Rattle.tsb_text.specs.Answers.{Setup}
use Rattle.tsb_text.specs.declared.faults.OnFault.{OnFault}
use Rattle.tsb_text.specs.declared.faults.LineFault.{LineFault}
use Rattle.tsb_text.specs.recording.Faults.{fault_text}
use Rattle.tsb_text.specs.recording.Leaves.{Does, End, quits}
use Rattle.tsb_text.specs.Stops.{flow_after, stopped_at}

-- what was given, whether the record is strict, its form, and what it has come to
pub record Course : Type 0 where
  pub given : Setup
  pub on_fault : OnFault
  pub form : LogForm
  pub end : End

-- this is told of line `number`, and the record comes to this, where these inputs remain before it
abbrev pub TellsLine : OnFault → Setup → List Input → ℕ → List ℕ → List ℕ → Flow → End → Type 0
TellsLine on_fault given is number line text flow end =
    (fault : Option LineFault) × Does given is (reading line) fault end.inputs × (text ≡ fault_text number line fault)
    × (end.stop ≡ stopped_at on_fault number line fault) × (flow ≡ flow_after (quits (reading line)) (stopped_at on_fault number line fault))

-- this is told of a line with this number
abbrev pub says : Saying Course
says now number line text flow new =
    TellsLine now.on_fault now.given now.end.inputs number line text flow new.end × (new.given ≡ now.given)
    × (new.on_fault ≡ now.on_fault) × (new.form ≡ now.form)
