-- That what is saved of a live run is a session which ends alike, as a statement.
--
-- It is proved, as the contract of a function that does nothing (src/one_text.rt).
use Rattle.std.specs.Prelude.{◌≡◌, ℕ, false, List, [], ◌∷◌, ◌++◌}
use Rattle.tsb_command_text.specs.declared.command.Command.{Command}
use Rattle.tsb_text.specs.kept.Kept.{kept_of}
use Rattle.tsb_live_text.specs.saved.Taken.{saved_commands}
use Rattle.tsb_step.specs.declared.inputs.Input.{Input}
use Rattle.tsb_step.specs.tsb_plan.Plan.{Plan}
use Rattle.tsb_step.specs.Runs.{AreTaken}
use Rattle.tsb_text.specs.Answers.{Answers, Setup}

-- a session answers these commands in turn so, and these inputs remain then
abbrev pub AnswersAll : Setup → List Input → List Command → List ℕ → List Input → Type 0
AnswersAll given is [] text left = (text ≡ []) × (left ≡ is)
AnswersAll given is (c ∷ cs) text left = (first rest : List ℕ) × (mid : List Input) × Answers given is c first mid × AnswersAll given mid cs rest left × (text ≡ first ++ rest)

-- the plan, and the log that is saved of these inputs
abbrev pub saved_setup : Plan → List Input → Setup
saved_setup plan is = record { plan = plan; log = (kept_of plan is).rows; acts = false; is_wide = false }

-- A session on the saved log may answer the saved commands so that the same inputs remain.
abbrev pub SavedRunsAreSessions : Type 0
SavedRunsAreSessions = (plan : Plan) (is : List Input) → AreTaken plan is → (text : List ℕ) × AnswersAll (saved_setup plan is) [] (saved_commands plan is) text is
