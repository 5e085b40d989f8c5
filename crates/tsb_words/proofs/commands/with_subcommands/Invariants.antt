use Rattle.std.proofs.Common.{◌≡◌, take}
use Rattle.clap.specs.Simple.{app_of}
use Rattle.tsb_words.specs.Commands.{app_over}
use Rattle.tsb_words.proofs.commands.with_subcommands.Given as goal

-- the command has the subcommands so far
abbrev pub invariant-loop-subcommand : goal.invariant-loop-subcommand
invariant-loop-subcommand l = app_of l.command ≡ app_over (app_of l.fn.top) (take l.subcommand-index l.subcommands)
