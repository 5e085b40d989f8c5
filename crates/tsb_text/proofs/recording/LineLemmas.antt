-- What is said to a line.
use Rattle.std.proofs.Common.{◌≡◌, ◌∙◌, ◌++◌, ℕ, Bool, List, refl, sym, subst}
use Rattle.std.specs.declared.option.Option.{Option}
use Rattle.tsb_step.specs.declared.inputs.Input.{Input}
use Rattle.tsb_command_text.specs.declared.command.Reading.{Reading}
use Rattle.tsb_command_text.specs.Readings.{reading}
use Rattle.tsb_dialog.specs.declared.answers.Flow.{Flow}
use Rattle.tsb_dialog.specs.Said.{Wrote}
use Rattle.tsb_text.specs.Stops.{Stopped}
use Rattle.tsb_text.specs.declared.faults.LineFault.{LineFault}
use Rattle.tsb_text.specs.recording.Faults.{fault_text}
use Rattle.tsb_text.specs.recording.Leaves.{Does, quits}
use Rattle.tsb_text.specs.Stops.{flow_after, stopped_at}
use Rattle.tsb_text.specs.recording.Lines.{Course, says}

-- what a record has come to after a line
abbrev pub after_line : Course → List Input → Option Stopped → Course
after_line now left stop = record { given = now.given; on_fault = now.on_fault; form = now.form; end = record { inputs = left; stop = stop } }

-- a line that was carried out is told of
pub says-line : (now : Course) (n : ℕ) (line : List ℕ) (r : Reading) (fault : Option LineFault) (left : List Input) → r ≡ reading line → Does now.given now.end.inputs r fault left
    → says now n line (fault_text n line fault) (flow_after (quits r) (stopped_at now.on_fault n line fault)) (after_line now left (stopped_at now.on_fault n line fault))
says-line now n line r fault left reads does =
    let flow : Flow = flow_after (quits r) (stopped_at now.on_fault n line fault) in
    let same : flow ≡ flow_after (quits (reading line)) (stopped_at now.on_fault n line fault) = subst (λ (x : Reading). flow_after (quits r) (stopped_at now.on_fault n line fault) ≡ flow_after (quits x) (stopped_at now.on_fault n line fault)) reads refl in
    ((fault, subst (λ (x : Reading). Does now.given now.end.inputs x fault left) reads does, refl, refl, same), refl, refl, refl)

-- and so in the words of what found it
pub says-found : (now : Course) (n : ℕ) (line : List ℕ) (r : Reading) (fault : Option LineFault) (left : List Input) (is_quit : Bool) (stop : Option Stopped) (flow : Flow) → r ≡ reading line → is_quit ≡ quits r
    → stop ≡ stopped_at now.on_fault n line fault → flow ≡ flow_after is_quit stop → Does now.given now.end.inputs r fault left → says now n line (fault_text n line fault) flow (after_line now left stop)
says-found now n line r fault left is_quit stop flow reads quit_is stop_is flow_is does =
    let whole : flow ≡ flow_after (quits r) (stopped_at now.on_fault n line fault) = flow_is ∙ (λ j. flow_after (quit_is j) (stop_is j)) in
    subst (λ (s : Option Stopped). says now n line (fault_text n line fault) flow (after_line now left s)) (sym stop_is)
    (subst (λ (f : Flow). says now n line (fault_text n line fault) f (after_line now left (stopped_at now.on_fault n line fault))) (sym whole) (says-line now n line r fault left reads does))

-- where a fault came within it, a first part of it was told
pub told-front : (now left : Course) (n : ℕ) (line text : List ℕ) (flow : Flow) (old new : Option (List ℕ)) (waited waits : List ℕ) → Wrote old new waited waits (λ said. (rest : List ℕ) × (text ≡ said ++ rest)) → says now n line text flow left
    → Wrote old new waited waits (λ said. (rest : List ℕ) × (flow : Flow) × (left : Course) × says now n line (said ++ rest) flow left)
told-front now left n line text flow old new waited waits w told =
    record { text = w.text; said = w.said; so = (w.so.0, flow, left, subst (λ (v : List ℕ). says now n line v flow left) w.so.1 told) }
