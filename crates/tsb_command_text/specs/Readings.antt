-- What a line asks of a session.
use Rattle.std.specs.Prelude.{ℕ, nat_lt, Bool, true, false, List, [], ◌∷◌, if◌then◌else◌, length, Option, Some, None, codes, bytes_eq}
use Rattle.tsb_lines.specs.Lines.{is_skipped}
use Rattle.tsb_lines.specs.Words.{words_of}
use Rattle.tsb_command_text.specs.Commands.{command_in}
use Rattle.tsb_command_text.specs.declared.command.Command.{Command}
use Rattle.tsb_command_text.specs.declared.command.Reading.{Reading}
use Rattle.tsb_command_text.specs.declared.command.Reading.TheVariants.{Skip, Bad, Lines, Do}

-- how two words lay out display lines, if they do
unfoldable pub lines_of_two : List ℕ → List ℕ → Option Bool
lines_of_two w x =
    if bytes_eq w (codes "lines") then
    (if bytes_eq x (codes "wide") then Some true else if bytes_eq x (codes "narrow") then Some false else None) else None

-- how these words do
abbrev pub lines_in : List (List ℕ) → Option Bool
lines_in (w ∷ x ∷ []) = lines_of_two w x
lines_in ws = None

-- what is no command is bad
abbrev pub reading_in : Option Bool → Option Command → Reading
reading_in (Some is_wide) c = Lines is_wide
reading_in None None = Bad
reading_in None (Some c) = Do c

-- a line of over 200 bytes is bad, also where it is blank or a comment
abbrev pub reading : List ℕ → Reading
reading line = if nat_lt 200 (length line) then Bad else if is_skipped line then Skip else reading_in (lines_in (words_of line)) (command_in (words_of line))
