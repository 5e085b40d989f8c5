-- The command of `tsb` as `clap` reads it, and what is made of what `clap` answers.
use Rattle.std.specs.Prelude.{Bool, true, false, Option, Some, None, List, codes, bytes_eq}
use Rattle.clap.specs.Simple.{App, new_app, with_rule, with_subcommand}
use Rattle.clap.specs.Walk.{Row, Text, first_of}
use Rattle.tsb_words.specs.Commands.{file_rule}
use Rattle.tsb_words.specs.BenchWords.{Wish, check, run, built_in}

-- `check PLAN`
abbrev pub check_command : App
check_command = with_rule (new_app (codes "check")) (file_rule (codes "PLAN"))

-- `run PLAN LOG`
abbrev pub run_command : App
run_command = with_rule (with_rule (new_app (codes "run")) (file_rule (codes "PLAN"))) (file_rule (codes "LOG"))

-- the program: it needs no subcommand
abbrev pub program : App
program = with_subcommand (with_subcommand (new_app (codes "tsb")) check_command.top) run_command.top

-- what a subcommand asks for: `check` or not, and the files that were given
abbrev pub asked_for : Bool → Option Text → Option Text → Option Wish
asked_for true (Some plan) log = Some (check plan)
asked_for false (Some plan) (Some log) = Some (run plan log)
asked_for is_check plan log = None

-- what the subcommand that was met asks for, with what was given to it
abbrev pub asked_by : Option (Text × List Row) → Option Wish
asked_by None = Some built_in
asked_by (Some met) = asked_for (bytes_eq met.0 (codes "check")) (first_of (codes "PLAN") met.1) (first_of (codes "LOG") met.1)
