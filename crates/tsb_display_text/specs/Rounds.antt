-- Rounds (profile): the ten ticks whose numbers differ in their last digit alone. A line in its place becomes the next one
-- of its round by its last digit, its preempt and its local counter.
use Rattle.std.specs.Prelude.{◌≡◌, ℕ, ◌-◌, ◌%◌, List, Option}
use Rattle.tsb_heads.specs.Heads.{Heads}
use Rattle.tsb_display_text.specs.Line.{wide_line_of}

-- it is the wide line of these heads at some tick of the round that begins with this one
unfoldable pub IsOfRound : List ℕ → ℕ → Heads → Type 0
IsOfRound line round heads =
    (now : ℕ) × (preempt : Option ℕ) × (local : Option ℕ) × (now - now % 10 ≡ round) × (line ≡ wide_line_of now heads preempt local)
