use Rattle.std.proofs.Common.{take}
use Rattle.tsb_words.specs.Commands.{IsOwn, app_with}
use Rattle.tsb_words.proofs.commands.leaf_of.Given as goal

-- the command has the arguments so far
abbrev pub invariant-loop-argument : goal.invariant-loop-argument
invariant-loop-argument l = IsOwn (app_with l.leaf.name.now (take l.argument-index l.leaf.arguments.now)) l.command
