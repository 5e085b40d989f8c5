-- What answers lines, of which it is known what may be said to each line in each state.
use Rattle.std.specs.Prelude.{ℕ, List, ◌++◌, Option, Result, Ok, Err}
use Rattle.tsb_lines.specs.declared.writes.WriteError.{WriteError}
use Rattle.tsb_dialog.specs.declared.answers.Flow.{Flow}
use Rattle.tsb_dialog.specs.Said.{Wrote}

-- what may be said to a line with this number in a state, whether a dialog then goes on, and the state after it
abbrev pub Saying : Type 0 → Type 1
Saying S = S → ℕ → List ℕ → List ℕ → Flow → S → Type 0

-- all of an answer was said, and what answers has come to the state that it leaves; or a fault came within it
abbrev pub Answered : {A S : Type 0} → (A → S → Type 0) → (List ℕ → Flow → S → Type 0) → Result Flow WriteError → A
    → Option (List ℕ) → Option (List ℕ) → List ℕ → List ℕ → Type 0
Answered {S = S} stands says (Ok flow) new before after waited waits = (left : S) × stands new left × Wrote before after waited waits (λ text. says text flow left)
Answered {S = S} stands says (Err e) new before after waited waits =
    Wrote before after waited waits (λ text. (rest : List ℕ) × (flow : Flow) × (left : S) × says (text ++ rest) flow left)
