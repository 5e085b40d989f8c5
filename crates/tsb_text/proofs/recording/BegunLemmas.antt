-- What was told before a fault begins what is to be told: whatever lines come, they come to something.
use Rattle.std.proofs.Common.{suc, ℕ, List, [], ◌∷◌, ◌++◌, refl, sym, subst, append_assoc, Some, None, option_map}
use Rattle.std.specs.declared.option.Option.{Option}
use Rattle.tsb_types.specs.declared.refusal.Refusal.{Refusal}
use Rattle.tsb_step.specs.declared.inputs.Input.{Input}
use Rattle.tsb_command_text.specs.declared.command.Reading.{Reading}
use Rattle.tsb_command_text.specs.declared.command.Reading.TheVariants.{Skip, Bad, Lines, Do}
use Rattle.tsb_command_text.specs.Readings.{reading}
use Rattle.tsb_lines.specs.Lines.{lines_of}
use Rattle.tsb_dialog.specs.declared.answers.Flow.{Flow}
use Rattle.tsb_dialog.specs.declared.answers.Flow.TheVariants.{On, Over}
use Rattle.tsb_text.specs.Answers.{Setup}
use Rattle.tsb_text.specs.Obeys.{Obeys, nothing_besides}
use Rattle.tsb_text.specs.Tasks.{task_of}
use Rattle.tsb_text.specs.Stops.{Stopped}
use Rattle.tsb_text.specs.declared.faults.LineFault.{LineFault}
use Rattle.tsb_text.specs.declared.faults.LineFault.TheVariants as faults
use Rattle.tsb_text.specs.declared.faults.OnFault.{OnFault}
use Rattle.tsb_text.specs.recording.Ended.{Carries, IsBegun}
use Rattle.tsb_text.specs.recording.Faults.{fault_text}
use Rattle.tsb_text.specs.recording.Leaves.{Come, Does, End, Ends, Follows, quits}
use Rattle.tsb_text.specs.Stops.{flow_after, stopped_at}
use Rattle.tsb_text.proofs.ObeyLemmas.{some-obeyed}

-- ## Lines come to something

some-does : (given : Setup) (is : List Input) (r : Reading) → (fault : Option LineFault) × (new : List Input) × Does given is r fault new
some-does given is Skip = (None, is, (refl, refl))
some-does given is Bad = (Some faults.BadCommand, is, (refl, refl))
some-does given is (Lines is_wide) = (None, is, (refl, refl))
some-does given is (Do c) =
    let o : (refusal : Option Refusal) × (new : List Input) × (text : List ℕ) × Obeys given nothing_besides is (task_of c) text refusal new = some-obeyed given is (task_of c) in
    (option_map faults.Refused o.0, o.1, (o.0, (o.2, o.3), refl))

-- what follows a line comes to something too
some-follows : (on_fault : OnFault) (given : Setup) (f : Flow) (number : ℕ) (new : List Input) (lines : List (List ℕ)) (stop : Option Stopped)
    → (end : End) × (told : List ℕ) × Come on_fault given end number new lines told
    → (end : End) × (rest : List ℕ) × Follows f (Come on_fault given end number new lines rest) (Ends end new stop rest)
some-follows on_fault given On number new lines stop k = k
some-follows on_fault given Over number new lines stop k = (record { inputs = new; stop = stop }, [], (refl, refl))

some-come : (on_fault : OnFault) (given : Setup) (lines : List (List ℕ)) (number : ℕ) (is : List Input) → (end : End) × (told : List ℕ) × Come on_fault given end number is lines told
some-come on_fault given [] number is = (record { inputs = is; stop = None }, [], (refl, refl))
some-come on_fault given (line ∷ lines) number is =
    let d : (fault : Option LineFault) × (new : List Input) × Does given is (reading line) fault new = some-does given is (reading line) in
    let f : Flow = flow_after (quits (reading line)) (stopped_at on_fault number line d.0) in
    let k : (end : End) × (rest : List ℕ) × Follows f (Come on_fault given end (suc number) d.1 lines rest) (Ends end d.1 (stopped_at on_fault number line d.0) rest) =
    some-follows on_fault given f (suc number) d.1 lines (stopped_at on_fault number line d.0) (some-come on_fault given lines (suc number) d.1) in
    (k.0, fault_text number line d.0 ++ k.1, (d.0, d.1, k.1, d.2, refl, k.2))

-- ## What was told begins it

-- what bytes come to that carry on is begun
pub carries-begun : (on_fault : OnFault) (given : Setup) (number : ℕ) (is : List Input) (bytes : List ℕ) (next : ℕ) (now : List Input) (held said : List ℕ) → Carries on_fault given number is bytes next now held said
    → IsBegun on_fault given number is bytes said
carries-begun on_fault given number is bytes next now held said k = record {
  rest = λ more. let some : (end : End) × (told : List ℕ) × Come on_fault given end next now (lines_of (held ++ more)) told = some-come on_fault given (lines_of (held ++ more)) next now in
      (some.0, some.1, k.on some.0 more some.1 some.2);
}

-- more bytes after those that are begun
pub begun-more : (on_fault : OnFault) (given : Setup) (number : ℕ) (is : List Input) (bytes more said : List ℕ) → IsBegun on_fault given number is bytes said → IsBegun on_fault given number is (bytes ++ more) said
begun-more on_fault given number is bytes more said b = record {
  rest = λ after. let some : (end : End) × (rest : List ℕ) × Come on_fault given end number is (lines_of (bytes ++ (more ++ after))) (said ++ rest) = b.rest (more ++ after) in
      (some.0, some.1, subst (λ (v : List ℕ). Come on_fault given some.0 number is (lines_of v) (said ++ some.1)) (sym (append_assoc bytes more after)) some.2);
}

-- the first part of what begins it
pub begun-front : (on_fault : OnFault) (given : Setup) (number : ℕ) (is : List Input) (bytes said rest : List ℕ) → IsBegun on_fault given number is bytes (said ++ rest) → IsBegun on_fault given number is bytes said
begun-front on_fault given number is bytes said rest b = record {
  rest = λ more. let some : (end : End) × (after : List ℕ) × Come on_fault given end number is (lines_of (bytes ++ more)) ((said ++ rest) ++ after) = b.rest more in
      (some.0, rest ++ some.1, subst (λ (v : List ℕ). Come on_fault given some.0 number is (lines_of (bytes ++ more)) v) (append_assoc said rest some.1) some.2);
}
