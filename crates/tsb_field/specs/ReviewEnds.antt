-- How `review` ends, and what it has then written on its output and of faults.
--
-- Of each stream there is what is seen before and after: `old` and `new`, `told` and `tells`.
use Rattle.std.specs.Prelude.{◌≡◌, ◌⊎◌, ℕ, true, List, ◌++◌, Option, Ok, Err}
use Rattle.tsb_lines.specs.Writes.{AppendsFront}
use Rattle.tsb_plan_notes.specs.Notes.{notes_of}
use Rattle.tsb_program.specs.Failures.{Fails}
use Rattle.tsb_program.specs.declared.failure.Failure.TheVariants.{Memory, Write}
use Rattle.tsb_program.specs.Lines.{plan_line}
use Rattle.tsb_program.specs.Read.{IsFront}
use Rattle.tsb_program.specs.Told.{FailsToReadFile, plan_lines}
use Rattle.tsb_program.specs.tsb_lines.Seen.{GoesOut, Seen}
use Rattle.tsb_review_text.specs.Lines.{breaches_text, review_text}
use Rattle.tsb_text.specs.tsb_plan.Plan.{Plan}
use Rattle.tsb_text.specs.tsb_rules.declared.rules.Rule.{Rule}
use Rattle.tsb_text.specs.tsb_plan_text.PlanErrors.{Tells, broken}
use Rattle.tsb_text.specs.tsb_plan_text.PlanText.{drafted, reading}
use Rattle.tsb_text.specs.tsb_plan_text.declared.error.PlanError.{PlanError}
use Rattle.tsb_text.specs.tsb_plan_text.declared.error.PlanError.TheVariants as plans

-- the fault is not that a rule is broken
abbrev pub IsNoRule : PlanError → Type 0
IsNoRule fault = (rule : Rule) → fault ≡ plans.Rule rule → ⊥

-- what is answered to the text of a plan, of which this is noted: with 0 the notes and the review of the plan; with 1 the
-- lines of its fault and the notes, and where that is a rule, behind them each place at which the plan breaks a rule
abbrev pub Answers : List ℕ → List ℕ → ℕ → List ℕ → Type 0
Answers text notes status answer =
    ((status ≡ 0) × (plan : Plan) × (reading text ≡ Ok plan) × (answer ≡ notes ++ review_text plan))
    ⊎ (((status ≡ 1) × (fault : PlanError) × Tells fault (reading text) × (fault ≡ plans.Memory → ⊥) × IsNoRule fault × (answer ≡ plan_lines fault text ++ notes))
    ⊎ ((status ≡ 1) × (rule : Rule) × (reading text ≡ Err (broken rule)) × (plan : Plan) × (drafted text ≡ Ok plan)
    × (answer ≡ (plan_line (plans.Rule rule) ++ notes) ++ breaches_text plan)))

-- an answer was written whole, no write has failed, nothing else was told, and the program ends with the status wanted; or
-- a write has failed, which is told, with no more than the first bytes of the answer written
abbrev pub Answered : ℕ → ℕ → List ℕ → (old new told tells : Seen) → Type 0
Answered status wanted answer old new told tells =
    ((status ≡ wanted) × GoesOut old new answer × (new.failed ≡ old.failed) × (tells ≡ told))
    ⊎ ((new.failed ≡ true) × AppendsFront old.bytes new.bytes answer × Fails Write status told tells)

-- memory failed, which is told, and nothing was written
abbrev pub HasNoMemory : ℕ → (old new told tells : Seen) → Type 0
HasNoMemory status old new told tells = (new ≡ old) × Fails Memory status told tells

-- the fault of a plan with this text was answered with what is noted of the text, where there is memory for them
abbrev pub FaultAnswered : List ℕ → PlanError → List ℕ → ℕ → (old new told tells : Seen) → Type 0
FaultAnswered text fault notes status old new told tells =
    Answered status 1 (plan_lines fault text ++ notes) old new told tells ⊎ HasNoMemory status old new told tells

-- a rule that a plan breaks was answered, with what is noted of its text and each place at which it breaks a rule, where
-- there is memory for them
abbrev pub PlacesAnswered : Plan → Rule → List ℕ → ℕ → (old new told tells : Seen) → Type 0
PlacesAnswered plan rule notes status old new told tells =
    Answered status 1 ((plan_line (plans.Rule rule) ++ notes) ++ breaches_text plan) old new told tells ⊎ HasNoMemory status old new told tells

-- the same of a text that gives the plan
abbrev pub RuleAnswered : List ℕ → Rule → List ℕ → ℕ → (old new told tells : Seen) → Type 0
RuleAnswered text rule notes status old new told tells =
    ((plan : Plan) × (drafted text ≡ Ok plan) × PlacesAnswered plan rule notes status old new told tells) ⊎ HasNoMemory status old new told tells

-- what was done for the text of a plan, of which this is noted
abbrev pub TextAnswered : List ℕ → List ℕ → ℕ → (old new told tells : Seen) → Type 0
TextAnswered text notes status old new told tells =
    ((wanted : ℕ) × (answer : List ℕ) × Answers text notes wanted answer × Answered status wanted answer old new told tells)
    ⊎ HasNoMemory status old new told tells

-- what was done for the text of a plan
abbrev pub TextReviewed : List ℕ → ℕ → (old new told tells : Seen) → Type 0
TextReviewed text status old new told tells = TextAnswered text (notes_of text) status old new told tells

-- how a review of the plan in the file of this name ended: its text was answered; or the file or memory failed, which is told, and nothing
-- was written
abbrev pub Reviewed : ℕ → List ℕ → Option (List ℕ) → (old new told tells : Seen) → Type 0
Reviewed status name file old new told tells =
    ((text : List ℕ) × IsFront file 1048577 text × TextReviewed text status old new told tells)
    ⊎ ((new ≡ old) × FailsToReadFile name status told tells)
