-- What is told of a line that is no command, or that is refused.
use Rattle.std.specs.Prelude.{ℕ, ◌&&◌, nat_le, if◌then◌else◌, List, [], ◌∷◌, ◌++◌, codes, map, take}
use Rattle.std.specs.Fmt.{decimal}
use Rattle.tsb_text.specs.Answers.{refused_line}
use Rattle.tsb_text.specs.declared.faults.LineFault.{LineFault}
use Rattle.tsb_text.specs.declared.faults.LineFault.TheVariants.{BadCommand, Refused}

-- a byte as it is told: printable ASCII as it is, and any other as `?`
abbrev pub shown_byte : ℕ → ℕ
shown_byte byte = if nat_le 32 byte && nat_le byte 126 then byte else 63

-- a line as it is told: its first 200 bytes
abbrev pub shown : List ℕ → List ℕ
shown line = map shown_byte (take 200 line)

-- what is wrong with a line, in the words of a session's answer
abbrev pub fault_words : LineFault → List ℕ
fault_words BadCommand = codes "bad command"
fault_words (Refused e) = refused_line e

-- what is told of a line by its number, behind these words: its own text, and what is wrong with it
abbrev pub fault_line : List ℕ → ℕ → List ℕ → LineFault → List ℕ
fault_line start number line fault = start ++ (decimal number ++ (codes ": " ++ (shown line ++ (codes ": " ++ (fault_words fault ++ 10 ∷ [])))))
