-- The numbers that the program ends with.
use Rattle.std.specs.Prelude.{ℕ}
use Rattle.tsb_program.specs.declared.status.ExitStatus.{ExitStatus}
use Rattle.tsb_program.specs.declared.status.ExitStatus.TheVariants.{Done, Refused, BadWords, Failed, Stopped}

-- 0 where all was done, 1 where what was read was refused, 2 for bad words, 3 where a read, a write or memory failed, 4
-- where a line that is no command, or that is refused, ended a strict run
abbrev pub number : ExitStatus → ℕ
number Done = 0
number Refused = 1
number BadWords = 2
number Failed = 3
number Stopped = 4
