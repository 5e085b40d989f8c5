-- The text of a session: what is answered to the lines that were read, in turn, up to a line `quit` or the end.
use Rattle.std.specs.Prelude.{◌≡◌, ℕ, List, [], ◌∷◌, ◌++◌, codes}
use Rattle.tsb_bench.specs.tsb_step.declared.inputs.Input.{Input}
use Rattle.tsb_command_text.specs.declared.command.Command.{Command}
use Rattle.tsb_command_text.specs.declared.command.Command.TheVariants.{Quit}
use Rattle.tsb_command_text.specs.declared.command.Reading.{Reading}
use Rattle.tsb_command_text.specs.declared.command.Reading.TheVariants.{Skip, Bad, Lines, Do}
use Rattle.tsb_command_text.specs.Readings.{reading}
use Rattle.tsb_lines.specs.Lines.{lines_of}
use Rattle.tsb_text.specs.Answers.{Setup, Answers}
use Rattle.tsb_text.specs.Replies.{laid}
use Rattle.tsb_dialog.specs.Said.{with_feed}

-- what is said after the answer to a command, where Rest says what may be: nothing after `quit`
abbrev pub GoesOn : Command → (List ℕ → Type 0) → List ℕ → Type 0
GoesOn Quit Rest text = text ≡ []
GoesOn c Rest text = Rest text

-- what is answered to a line, where Rest says what may be to the lines after it
abbrev pub Says : Setup → Reading → List Input → List ℕ → (Setup → List Input → List ℕ → Type 0) → Type 0
Says given Skip inputs text Rest = Rest given inputs text
Says given Bad inputs text Rest = (rest : List ℕ) × (text ≡ with_feed (codes "bad command") ++ rest) × Rest given inputs rest
Says given (Lines is_wide) inputs text Rest = (rest : List ℕ) × (text ≡ with_feed (codes "ok") ++ rest) × Rest (laid is_wide given) inputs rest
Says given (Do c) inputs text Rest =
    (answer rest : List ℕ) × (new : List Input) × Answers given inputs c answer new × (text ≡ answer ++ rest) × GoesOn c (Rest given new) rest

-- a text that a session may write to these lines, where these inputs remain
abbrev pub IsAnswered : Setup → List Input → List (List ℕ) → List ℕ → Type 0
IsAnswered given inputs [] text = text ≡ []
IsAnswered given inputs (l ∷ ls) text = Says given (reading l) inputs text (λ now new rest. IsAnswered now new ls rest)

-- a text that a session may write to these bytes, where these inputs remain
abbrev pub IsText : Setup → List Input → List ℕ → List ℕ → Type 0
IsText given inputs bytes text = IsAnswered given inputs (lines_of bytes) text
