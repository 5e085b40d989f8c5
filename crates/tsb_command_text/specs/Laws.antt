-- What holds of lines of a live session, in words that do not retrace how they are read. Each law here is the contract
-- of a function in src/laws.rt.
use Rattle.std.specs.Prelude.{◌≡◌, ◌↔◌, ℕ, ◌<◌, ◌≤◌, List, ◌∷◌, ◌++◌, length, codes, Some, None, Bool}
use Rattle.tsb_lines.specs.Lines.{kept, without_return}
use Rattle.tsb_lines.specs.Words.{words_of}
use Rattle.tsb_command_text.specs.Readings.{reading}
use Rattle.tsb_command_text.specs.declared.command.Command.{Command}
use Rattle.tsb_command_text.specs.declared.command.Command.TheVariants.{Step}
use Rattle.tsb_command_text.specs.declared.command.Reading.TheVariants as session
use Rattle.tsb_log_text.specs.tsb_types.declared.row.Row.{Row}
use Rattle.tsb_log_text.specs.Forms.{row_in}
use Rattle.tsb_log_text.specs.Rows.{tick_of}
use Rattle.tsb_log_text.specs.declared.form.RowForm.{RowForm}
use Rattle.tsb_command_text.specs.LiveCommands.{live_command_in}
use Rattle.tsb_command_text.specs.LiveReadings.{live_reading}
use Rattle.tsb_command_text.specs.declared.live_command.LiveCommand.{LiveCommand}
use Rattle.tsb_command_text.specs.declared.live_command.LiveCommand.TheVariants.{Session, Changes, Lines}
use Rattle.tsb_command_text.specs.declared.live_command.LiveReading.TheVariants.{Skip, Bad, Tick, Ask}

-- a line of at most 200 bytes is a row exactly where it is a row of a log, in one of its forms, once a tick of 7 digits and
-- a space come before it, and both have the same inputs
abbrev pub AreRowsOfLogs : Type 0
AreRowsOfLogs = (digits line : List ℕ) (tick : ℕ) (r : Row) → length digits ≡ 7 → tick_of digits ≡ Some tick → length line ≤ 200 →
    ((live_reading line ≡ Tick r) ↔ ((form : RowForm) × (row_in form (digits ++ 32 ∷ line) ≡ Some (record { tick = tick; row = r }))))

-- a command of `tsb run` is read exactly where it is read there
abbrev pub AskTheSame : Type 0
AskTheSame = (line : List ℕ) (c : Command) → ((live_reading line ≡ Ask (Session c)) ↔ (reading line ≡ session.Do c))

-- a line is skipped exactly where `tsb run` skips it
abbrev pub SkipTheSame : Type 0
SkipTheSame = (line : List ℕ) → ((live_reading line ≡ Skip) ↔ (reading line ≡ session.Skip))

-- a row is no line that `tsb run` reads, and its words are no command
abbrev pub AreNoCommands : Type 0
AreNoCommands = (line : List ℕ) (r : Row) → live_reading line ≡ Tick r → (reading line ≡ session.Bad) × (live_command_in (words_of line) ≡ None)

-- wide or narrow lines are asked for exactly where they are there
abbrev pub LayOutTheSame : Type 0
LayOutTheSame = (line : List ℕ) (is_wide : Bool) → ((live_reading line ≡ Ask (Lines is_wide)) ↔ (reading line ≡ session.Lines is_wide))

-- a command that is asked live alone is none of `tsb run`
abbrev pub AreNew : Type 0
AreNew = (line : List ℕ) (c : LiveCommand) → live_reading line ≡ Ask c → ((s : Command) → c ≡ Session s → ⊥) → ((is_wide : Bool) → c ≡ Lines is_wide → ⊥) → reading line ≡ session.Bad

-- `changes` takes a number exactly where `step` does. Its word is 3 bytes longer, so lines of up to 200 bytes have 192
-- for what follows it.
abbrev pub TakeTheSameNumber : Type 0
TakeTheSameNumber = (rest : List ℕ) (n : ℕ) → length rest ≤ 192 →
    ((live_reading (codes "changes " ++ rest) ≡ Ask (Changes n)) ↔ (reading (codes "step " ++ rest) ≡ session.Do (Step n)))

-- a line of over 200 bytes is bad, here and there
abbrev pub AreBadWhereLong : Type 0
AreBadWhereLong = (line : List ℕ) → 200 < length line → (live_reading line ≡ Bad) × (reading line ≡ session.Bad)

-- of a longer line the first 202 bytes ask the same: of one that a line feed ends, and so a carriage return before it,
-- and of the last one
abbrev pub AskByTheirFirstBytes : Type 0
AskByTheirFirstBytes = (line : List ℕ) →
    (live_reading (without_return (kept 202 line)) ≡ live_reading (without_return line)) × (live_reading (kept 202 line) ≡ live_reading line)
