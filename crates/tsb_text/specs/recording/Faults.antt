-- What is told of a line that is no command, or that is refused.
use Rattle.std.specs.Prelude.{ℕ, List, [], Option, Some, None, codes}
use Rattle.tsb_text.specs.Faults as told
use Rattle.tsb_text.specs.declared.faults.LineFault.{LineFault}

-- what is told of a line: its number, its own text, and what is wrong with it
abbrev pub fault_line : ℕ → List ℕ → LineFault → List ℕ
fault_line number line fault = told.fault_line (codes "command ") number line fault

-- what is told of a line, where something is wrong with it
abbrev pub fault_text : ℕ → List ℕ → Option LineFault → List ℕ
fault_text number line None = []
fault_text number line (Some fault) = fault_line number line fault
