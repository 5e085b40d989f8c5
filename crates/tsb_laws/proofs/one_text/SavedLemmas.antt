-- Commands that are taken are answered by a session.
use Rattle.std.proofs.Common.{ℕ, zero, suc, false, List, [], ◌∷◌, ◌++◌, None, refl, inl}
use Rattle.tsb_command_text.specs.declared.command.Command.{Command}
use Rattle.tsb_command_text.specs.declared.command.Command.TheVariants.{Step, Begin, Set, Verify, Commit, Abort, Pattern, Preempt, Omit, Fault, Reset, Clock}
use Rattle.tsb_dialog.specs.Said.{with_feed}
use Rattle.tsb_log_text.specs.declared.log.LogRow.{LogRow}
use Rattle.tsb_live_text.specs.saved.Taken.{TakeAll, Takes, TakesInput, TakesTicks, saved_commands}
use Rattle.tsb_live_text.proofs.saved.TakenLemmas.{ends-alike}
use Rattle.tsb_step.specs.declared.inputs.Input.{Input}
use Rattle.tsb_step.specs.declared.inputs.Input.TheVariants as inputs
use Rattle.tsb_step.specs.Runs.{AreTaken, replay}
use Rattle.tsb_step.specs.tsb_machine.declared.commands.Answer.TheVariants.{Took}
use Rattle.tsb_step.specs.tsb_machine.declared.commands.MachineCommand.TheVariants.{Apply}
use Rattle.tsb_step.specs.tsb_plan.Plan.{Plan}
use Rattle.tsb_text.specs.kept.Kept.{kept_of}
use Rattle.tsb_text.specs.Answers.{Answers, Asked, Setup, Steps, display_line, next_tick, told}
use Rattle.tsb_laws.specs.SavedRuns.{AnswersAll, saved_setup}

-- a session on a log, in which the schedule does not act
abbrev quiet_on : Plan → List LogRow → Setup
quiet_on plan log = record { plan = plan; log = log; acts = false; is_wide = false }

-- ticks that are taken are answered by their display lines
ticks-answered : (plan : Plan) (log : List LogRow) (n : ℕ) (is left : List Input) → TakesTicks plan log n is left → (text : List ℕ) × Steps (quiet_on plan log) is n text left
ticks-answered plan log zero is left t = ([], (refl, t))
ticks-answered plan log (suc n) is left t =
    let tick : Input = next_tick (quiet_on plan log) is in
    let rest : (text : List ℕ) × Steps (quiet_on plan log) (tick ∷ is) n text left = ticks-answered plan log n (tick ∷ is) left t.1 in (
      with_feed (display_line (replay plan (tick ∷ is))) ++ rest.0,
      inl (rest.0, None, tick ∷ is, record { right = t.0; leads = (refl, refl); line = refl }, rest.1),
    )

-- an input that is taken
input-answered : (plan : Plan) (log : List LogRow) (i : Input) (is left : List Input) → TakesInput plan i is left → (text : List ℕ) × Asked (quiet_on plan log) is (Apply i) text left
input-answered plan log i is left t =
    (with_feed (told false (Apply i) Took (replay plan (i ∷ is))) ++ [], record { answer = Took; right = t.0; stop = None; left = (refl, t.1); line = refl })

command-answered : (plan : Plan) (log : List LogRow) (c : Command) (is left : List Input) → Takes plan log c is left → (text : List ℕ) × Answers (quiet_on plan log) is c text left
command-answered plan log (Step n) is left t = ticks-answered plan log n is left t
command-answered plan log (Begin station) is left t = input-answered plan log (inputs.Begin station) is left t
command-answered plan log (Set station id v) is left t = input-answered plan log (inputs.Set station id v) is left t
command-answered plan log (Verify station) is left t = input-answered plan log (inputs.Verify station) is left t
command-answered plan log (Commit station) is left t = input-answered plan log (inputs.Commit station) is left t
command-answered plan log (Abort station) is left t = input-answered plan log (inputs.Abort station) is left t
command-answered plan log (Pattern n) is left t = input-answered plan log (inputs.Pattern n) is left t
command-answered plan log (Preempt n on) is left t = input-answered plan log (inputs.Switch n on) is left t
command-answered plan log (Omit list) is left t = input-answered plan log (inputs.Omit list) is left t
command-answered plan log (Fault lamp) is left t = input-answered plan log (inputs.Fault lamp) is left t
command-answered plan log Reset is left t = input-answered plan log inputs.Reset is left t
command-answered plan log (Clock time) is left t = input-answered plan log (inputs.Clock time) is left t
command-answered plan log c is left t = absurd t

all-answered : (plan : Plan) (log : List LogRow) (cs : List Command) (is left : List Input) → TakeAll plan log cs is left → (text : List ℕ) × AnswersAll (quiet_on plan log) is cs text left
all-answered plan log [] is left t = ([], (refl, t))
all-answered plan log (c ∷ cs) is left t =
    let first : (text : List ℕ) × Answers (quiet_on plan log) is c text t.0 = command-answered plan log c is t.0 t.1 in
    let rest : (text : List ℕ) × AnswersAll (quiet_on plan log) t.0 cs text left = all-answered plan log cs t.0 left t.2 in
    (first.0 ++ rest.0, (first.0, rest.0, t.0, first.1, rest.1, refl))

pub saved-session : (plan : Plan) (is : List Input) → AreTaken plan is → (text : List ℕ) × AnswersAll (saved_setup plan is) [] (saved_commands plan is) text is
saved-session plan is taken = all-answered plan (kept_of plan is).rows (saved_commands plan is) [] is (ends-alike plan is taken).0
