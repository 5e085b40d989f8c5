use Rattle.std.proofs.Common.{take}
use Rattle.tsb_laws.proofs.play.TypedLemmas.{AreTypedCommands}
use Rattle.tsb_laws.proofs.play.inputs_are_typed.Given as goal

-- the inputs of the commands so far
abbrev pub invariant-loop-command : goal.invariant-loop-command
invariant-loop-command l = record { typed : AreTypedCommands (take l.command-index l.commands) }
