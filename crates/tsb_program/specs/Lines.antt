-- What a program writes at its end: an answer, or a line of what ended its run, each with its end.
use Rattle.std.specs.Prelude.{◌≡◌, ◌⊎◌, ℕ, List, [], ◌∷◌, ◌++◌, codes, true}
use Rattle.tsb_plan_text.specs.declared.error.PlanError.{PlanError}
use Rattle.tsb_plan_text.specs.FaultLines.{plan_fault}
use Rattle.tsb_log_text.specs.FaultLines.{log_fault}
use Rattle.tsb_text.specs.declared.error.SessionError.{SessionError}
use Rattle.tsb_text.specs.declared.error.SessionError.TheVariants as ends
use Rattle.tsb_text.specs.EndLines.{session_fault}
use Rattle.tsb_program.specs.Clues.{log_clue_line}
use Rattle.tsb_program.specs.Failures.{Fails}
use Rattle.tsb_program.specs.declared.read.RefusedLog.{RefusedLog}
use Rattle.tsb_program.specs.declared.failure.Failure.TheVariants.{Memory, Read, Write}
use Rattle.tsb_lines.specs.Seen.{GoesOut, Seen, Tells}
use Rattle.tsb_lines.specs.Writes.{AppendsFront}

-- the line of what ended a session
abbrev pub end_line : SessionError → List ℕ
end_line fault = session_fault fault ++ 10 ∷ []

-- what ended a session is told, with 3: a failure, or commands without end
abbrev pub TellsEnd : SessionError → ℕ → Seen → Seen → Type 0
TellsEnd ends.Memory status told tells = Fails Memory status told tells
TellsEnd ends.Read status told tells = Fails Read status told tells
TellsEnd ends.Write status told tells = Fails Write status told tells
TellsEnd ends.TooLarge status told tells = (status ≡ 3) × Tells told tells (codes "commands: too large\n")

-- the line of a plan's fault
abbrev pub plan_line : PlanError → List ℕ
plan_line fault = plan_fault fault ++ 10 ∷ []

-- the lines of an input log that is refused, without the end of the last: that of its fault, and what is said of its text
abbrev pub refused_log : RefusedLog → List ℕ
refused_log refused = log_fault refused.why ++ log_clue_line refused.clue

-- the same with its end
abbrev pub log_line : RefusedLog → List ℕ
log_line refused = refused_log refused ++ 10 ∷ []

-- a refusal is told by its own line, with 1, where there is memory for the line
abbrev pub TellsRefusal : {A : Type 0} → (A → List ℕ) → A → ℕ → Seen → Seen → Type 0
TellsRefusal line_of why status told tells = ((status ≡ 1) × Tells told tells (line_of why ++ 10 ∷ [])) ⊎ Fails Memory status told tells

-- an answer was written whole, nothing was written of faults, and the program ends with the status wanted; or the writer
-- failed, which is told, with no more than the first bytes of the answer written
abbrev pub Wrote : ℕ → ℕ → List ℕ → (old new told tells : Seen) → Type 0
Wrote status wanted text old new told tells =
    ((status ≡ wanted) × GoesOut old new text × (tells ≡ told))
    ⊎ ((new.failed ≡ true) × AppendsFront old.bytes new.bytes text × Fails Write status told tells)

-- what lists all faults of a plan that is refused, with its end
abbrev pub review_line : List ℕ
review_line = codes "all faults, each with its place: tsb_field review PLAN\n"

-- why a plan is refused was written whole, with 1, and then what lists all faults; or the writer failed, and that alone has
-- a line, with no more than the first bytes of the answer written
abbrev pub WroteRefusal : ℕ → List ℕ → (old new told tells : Seen) → Type 0
WroteRefusal status text old new told tells =
    ((status ≡ 1) × GoesOut old new text × Tells told tells review_line)
    ⊎ ((new.failed ≡ true) × AppendsFront old.bytes new.bytes text × Fails Write status told tells)
