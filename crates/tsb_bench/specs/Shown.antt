-- What is kept of the heads: what was found in the rows, as long as no cell changes.
use Rattle.std.specs.Prelude.{ℕ, List, [], ◌∷◌, Option, Some, None}
use Rattle.tsb_heads.specs.declared.display.Display.{Display}
use Rattle.tsb_heads.specs.Promises.{IsSame}
use Rattle.tsb_heads.specs.Reading.{heads_of}
use Rattle.tsb_step.specs.Signs.{display}
use Rattle.tsb_controller.specs.Whole.{All, all_in}

-- what was found in these rows, if anything was, is what the heads show in them, at whatever tick number
abbrev pub IsShown : All → Option Display → Type 0
IsShown a None = Unit {0}
IsShown a (Some shown) = (now : ℕ) → IsSame (heads_of shown) (display (all_in now a))

-- what is still known of the heads once an input has changed these cells: all, where they are none
abbrev pub still_shown : List (ℕ × ℕ) → Option Display → Option Display
still_shown [] shown = shown
still_shown (e ∷ es) shown = None
