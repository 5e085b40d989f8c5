-- A line tells no more of a status than what statuses that are alike have in common.
use Rattle.std.specs.Prelude.{◌≡◌, ℕ, List}
use Rattle.tsb_step.specs.Status.{Status}
use Rattle.tsb_status.specs.Alike.{Alike}
use Rattle.tsb_status_text.specs.StatusText.{status_text}

-- a line is the text of each status that is alike
abbrev pub TellsAllAlike : Status → List ℕ → Type 0
TellsAllAlike x line = (s : Status) → Alike x s → line ≡ status_text s
