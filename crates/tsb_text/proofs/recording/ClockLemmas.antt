-- The clock of a record is a first line that sets it.
use Rattle.std.proofs.Common.{suc, ◌≡◌, ℕ, List, [], ◌∷◌, ◌++◌, Some, None, refl, subst, sym}
use Rattle.std.specs.declared.option.Option.{Option}
use Rattle.tsb_bench.specs.tsb_machine.declared.commands.Answer.TheVariants.{Took}
use Rattle.tsb_step.specs.declared.inputs.Input.{Input}
use Rattle.tsb_step.specs.Step.{verdict}
use Rattle.tsb_command_text.specs.declared.command.Command.TheVariants.{Clock}
use Rattle.tsb_command_text.specs.declared.command.Reading.{Reading}
use Rattle.tsb_command_text.specs.declared.command.Reading.TheVariants.{Do}
use Rattle.tsb_command_text.specs.Readings.{reading}
use Rattle.tsb_text.specs.Answers.{Setup}
use Rattle.tsb_text.specs.Stops.{flow_after, stopped_at}
use Rattle.tsb_text.specs.declared.faults.LineFault.{LineFault}
use Rattle.tsb_text.specs.declared.faults.OnFault.{OnFault}
use Rattle.tsb_text.specs.declared.faults.OnFault.TheVariants.{GoOn, Stop}
use Rattle.tsb_text.specs.recording.Faults.{fault_text}
use Rattle.tsb_text.specs.recording.Leaves.{BeginsWith, Come, Does, End, Ends, Follows, quits}

-- a line that sets the clock, before any other
sets : (given : Setup) (m : ℕ) (first : List Input) → BeginsWith given (Some m) first → Does given [] (Do (Clock m)) None first
unfolding verdict
sets given m first begins = (None, (_, record { answer = Took; right = refl; stop = None; left = begins; line = refl; refused = refl }), refl)

-- what a line comes to that reads so, with those after it
abbrev ComesAs : OnFault → Setup → End → ℕ → List ℕ → List (List ℕ) → List ℕ → Reading → Type 0
ComesAs on_fault given end n line lines told r =
    (fault : Option LineFault) × (new : List Input) × (rest : List ℕ) × Does given [] r fault new × (told ≡ fault_text n line fault ++ rest)
    × Follows (flow_after (quits r) (stopped_at on_fault n line fault)) (Come on_fault given end (suc n) new lines rest) (Ends end new (stopped_at on_fault n line fault) rest)

then : (on_fault : OnFault) (given : Setup) (m : ℕ) (first : List Input) (end : End) (n : ℕ) (line : List ℕ) (lines : List (List ℕ)) (told : List ℕ)
    → BeginsWith given (Some m) first → Come on_fault given end (suc n) first lines told → ComesAs on_fault given end n line lines told (Do (Clock m))
then GoOn given m first end n line lines told begins come = (None, first, told, sets given m first begins, refl, come)
then Stop given m first end n line lines told begins come = (None, first, told, sets given m first begins, refl, come)

pub clocks_are_first_lines : (on_fault : OnFault) (given : Setup) (m : ℕ) (first : List Input) (end : End) (n : ℕ) (line : List ℕ) (lines : List (List ℕ)) (told : List ℕ)
    → reading line ≡ Do (Clock m) → BeginsWith given (Some m) first → Come on_fault given end (suc n) first lines told → Come on_fault given end n [] (line ∷ lines) told
clocks_are_first_lines on_fault given m first end n line lines told reads begins come =
    subst (ComesAs on_fault given end n line lines told) (sym reads) (then on_fault given m first end n line lines told begins come)
