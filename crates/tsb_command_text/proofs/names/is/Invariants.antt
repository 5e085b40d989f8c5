use Rattle.std.proofs.Common.{◌≡◌, bytes_eq, drop}
use Rattle.tsb_command_text.proofs.names.is.Given as goal

-- the bytes so far are equal
abbrev pub invariant-loop-k : goal.invariant-loop-k
invariant-loop-k g l = bytes_eq (drop l.k l.word) (drop l.k l.name) ≡ bytes_eq l.word l.name
