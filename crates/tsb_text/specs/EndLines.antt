-- The line of what ends a session, without its end.
use Rattle.std.specs.Prelude.{ℕ, List, codes}
use Rattle.tsb_text.specs.declared.error.SessionError.{SessionError}
use Rattle.tsb_text.specs.declared.error.SessionError.TheVariants.{Memory, Read, Write, TooLarge}

-- memory, a device, or commands without end
abbrev pub session_fault : SessionError → List ℕ
session_fault Memory = codes "memory"
session_fault Read = codes "read fault"
session_fault Write = codes "write fault"
session_fault TooLarge = codes "commands: too large"
