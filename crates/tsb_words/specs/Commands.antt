-- The commands of the programs, as tables, and as `clap` reads them.
use Rattle.std.specs.Prelude.{◌≡◌, Bool, true, false, List, Some, fold, map}
use Rattle.clap.specs.Simple.{App, Shape, app_of, new_app, new_rule, with_rule, with_subcommand}
use Rattle.clap.specs.Walk.{Rule, Text}
use Rattle.clap.specs.declared.builder.action.ArgAction.TheVariants.{Append, SetTrue}
use Rattle.clap.specs.declared.builder.command.Command.{Command}
use Rattle.clap.specs.declared.builder.command.Command.TheViews.{out-Command}
use Rattle.tsb_words.specs.declared.commands.Argument.{Argument}
use Rattle.tsb_words.specs.declared.commands.Argument.TheVariants.{File, Optional, Required, Flag, Repeated}
use Rattle.tsb_words.specs.declared.commands.Leaf.{Leaf}
use Rattle.tsb_words.specs.declared.commands.Program.{Program}

-- a file that has to be named
abbrev pub file_rule : Text → Rule
file_rule name = record (new_rule name) { required = true }

-- an option with one value, that may come once
abbrev pub option_rule : Text → Rule
option_rule name = record (new_rule name) { long = Some name }

-- one that has to come
abbrev pub required_rule : Text → Rule
required_rule name = record (option_rule name) { required = true }

-- one that may come several times
abbrev pub repeated_rule : Text → Rule
repeated_rule name = record (option_rule name) { action = Some Append }

-- a flag, that may come once
abbrev pub flag_rule : Text → Rule
flag_rule name = record (option_rule name) { action = Some SetTrue }

-- the rule of an argument
abbrev pub rule_of_argument : Argument → Rule
rule_of_argument (File name) = file_rule name.now
rule_of_argument (Optional name) = option_rule name.now
rule_of_argument (Required name) = required_rule name.now
rule_of_argument (Flag name) = flag_rule name.now
rule_of_argument (Repeated name) = repeated_rule name.now

-- a command of this name with these arguments
abbrev pub app_with : Text → List Argument → App
app_with name arguments = fold with_rule (new_app name) (map rule_of_argument arguments)

-- a command with no subcommand
abbrev pub leaf_app : Leaf → App
leaf_app leaf = app_with leaf.name.now leaf.arguments.now

-- the same, as a subcommand
abbrev pub leaf_shape : Leaf → Shape
leaf_shape leaf = (leaf_app leaf).top

-- a command of these arguments with these subcommands
abbrev pub app_over : App → List Leaf → App
app_over top subcommands = fold with_subcommand top (map leaf_shape subcommands)

-- the command of a program
abbrev pub app_of_program : Program → App
app_of_program program = app_over (leaf_app program.top) program.subcommands.now

-- an argument of the command belongs to its subcommands as well
abbrev pub has_globals : Command → Bool
has_globals command = (out-Command command).has_globals

-- the command is this app, and no argument of it belongs to subcommands as well
abbrev pub IsOwn : App → Command → Type 0
IsOwn app command = (app_of command ≡ app) × (has_globals command ≡ false)

-- the command is this one
abbrev pub IsLeaf : Leaf → Command → Type 0
IsLeaf leaf command = IsOwn (leaf_app leaf) command
