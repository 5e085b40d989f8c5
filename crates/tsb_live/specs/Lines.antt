-- The line that the program writes of bad words.
use Rattle.std.specs.Prelude.{ℕ, List, codes}

-- how the program is used
abbrev pub usage : List ℕ
usage = codes "usage: tsb_live [--strict] PLAN\n"
