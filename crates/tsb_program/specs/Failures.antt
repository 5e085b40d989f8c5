-- What fails a program, and how it ends then.
use Rattle.std.specs.Prelude.{◌≡◌, ℕ, List, [], ◌∷◌, ◌++◌, codes}
use Rattle.tsb_program.specs.declared.failure.Failure.{Failure}
use Rattle.tsb_program.specs.declared.failure.Failure.TheVariants.{Memory, Read, Input, Write}
use Rattle.tsb_program.specs.declared.files.FileError.{FileError}
use Rattle.tsb_program.specs.declared.files.FileError.TheVariants as files
use Rattle.tsb_lines.specs.Seen.{Seen, Tells}

-- the line of a failure, without its end: of memory, of a read or of a write; of standard input a second one says
-- which read it was
abbrev pub failure_text : Failure → List ℕ
failure_text Memory = codes "memory"
failure_text Read = codes "read fault"
failure_text Input = codes "read fault\nstandard input"
failure_text Write = codes "write fault"

-- the same with its end
abbrev pub failure_line : Failure → List ℕ
failure_line failure = failure_text failure ++ 10 ∷ []

-- the program ends with 3, and this failure is told
abbrev pub Fails : Failure → ℕ → Seen → Seen → Type 0
Fails failure status told tells = (status ≡ 3) × Tells told tells (failure_line failure)

-- the failure of a file that was not read
abbrev pub failure_of : FileError → Failure
failure_of files.Memory = Memory
failure_of (files.Read cause) = Read
