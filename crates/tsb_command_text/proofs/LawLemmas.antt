-- The laws of src/laws.rt.
use Rattle.std.proofs.Common.{◌≡◌, ◌∙◌, ℕ, ◌+◌, ◌≤◌, List, [], ◌∷◌, ◌++◌, length, refl, sym, ap, subst, arith, inl, inr, ◌⊎◌, Option, Some, None, codes, length-append}
use Rattle.std.specs.Option.{option_map, option_or}
use Rattle.std.proofs.lemmas.Bool.{le-ltb}
use Rattle.tsb_lines.specs.Words.{words_of, number_of}
use Rattle.tsb_lines.proofs.LawLemmas.{at-space}
use Rattle.tsb_command_text.specs.Commands.{command_in, command_of_one, command_of_two, command_of_three, command_of_five}
use Rattle.tsb_command_text.specs.Readings.{lines_in, lines_of_two, reading, reading_in}
use Rattle.tsb_command_text.specs.declared.command.Command.TheVariants.{Step}
use Rattle.tsb_command_text.specs.declared.command.Reading.{Reading}
use Rattle.tsb_command_text.specs.declared.command.Reading.TheVariants as session
use Rattle.tsb_log_text.specs.tsb_types.declared.row.Row.{Row}
use Rattle.tsb_log_text.specs.Forms.{inputs_in, row_in, row_or_other}
use Rattle.tsb_log_text.specs.RowLists.{lists_of, row_of_lists}
use Rattle.tsb_log_text.specs.Rows.{inputs_of, row_of, row_with}
use Rattle.tsb_log_text.specs.declared.form.RowForm.{RowForm}
use Rattle.tsb_log_text.specs.declared.form.RowForm.TheVariants.{Digits, Lists}
use Rattle.tsb_log_text.specs.declared.log.LogRow.{LogRow}
use Rattle.tsb_command_text.specs.LiveCommands.{live_command_in, own_of_one, own_of_three, own_of_two}
use Rattle.tsb_command_text.specs.LiveReadings.{live_reading, row_or}
use Rattle.tsb_command_text.specs.Laws.{AreRowsOfLogs, AskTheSame, LayOutTheSame, SkipTheSame, AreNoCommands, AreNew, TakeTheSameNumber, AreBadWhereLong, AskByTheirFirstBytes}
use Rattle.tsb_command_text.specs.declared.live_command.LiveCommand.TheVariants.{Changes}
use Rattle.tsb_command_text.specs.declared.live_command.LiveReading.{LiveReading}
use Rattle.tsb_command_text.specs.declared.live_command.LiveReading.TheVariants.{Ask}
use Rattle.tsb_command_text.proofs.RowLemmas.{IsNone, by-digits, by-lists, log-lists, log-row, no-row-begins}
use Rattle.tsb_command_text.proofs.ReadingLemmas.{asks-same, lays-out-same, skips-same, row-read, row-asks, new-read, live-reading-long, session-reading-long, kept-asks, kept-asks-last}

abbrev inputs : Option LogRow → Option Row
inputs None = None
inputs (Some r) = Some r.row

with-inputs : (t : ℕ) (o : Option Row) (r : Row) → row_with (Some t) o ≡ Some (record { tick = t; row = r }) → o ≡ Some r
with-inputs t None r e = absurd (subst IsNone e tt)
with-inputs t (Some q) r e = ap inputs e

-- the row of a line, as one of the two forms spells it
abbrev Spelled : List ℕ → Row → Type 0
Spelled line r = (inputs_of line ≡ Some r) ⊎ (lists_of line ≡ Some r)

spelled : (line : List ℕ) (r : Row) → inputs_in line ≡ Some r → Spelled line r
spelled line r e = at (inputs_of line) refl
  where
    at : (o : Option Row) → inputs_of line ≡ o → Spelled line r
    at (Some q) is = inl (is ∙ (sym (ap (λ (o : Option Row). row_or_other o (lists_of line)) is) ∙ e))
    at None is = inr (sym (ap (λ (o : Option Row). row_or_other o (lists_of line)) is) ∙ e)

pub rows-of-logs : AreRowsOfLogs
rows-of-logs digits line tick r seven told short =
    let row : LogRow = record { tick = tick; row = r } in
    let by-row : row_of (digits ++ 32 ∷ line) ≡ row_with (Some tick) (inputs_of line) = log-row digits line seven ∙ ap (λ (t : Option ℕ). row_with t (inputs_of line)) told in
    let by-list : row_of_lists (digits ++ 32 ∷ line) ≡ row_with (Some tick) (lists_of line) = log-lists digits line seven ∙ ap (λ (t : Option ℕ). row_with t (lists_of line)) told in
    let there : Spelled line r → (form : RowForm) × (row_in form (digits ++ 32 ∷ line) ≡ Some row) = λ s. elim s [
      | inl e ↦ (Digits, by-row ∙ ap (row_with (Some tick)) e)
      | inr e ↦ (Lists, by-list ∙ ap (row_with (Some tick)) e)
    ] in
    (λ e. there (spelled line r (row-read line r e).2), λ f. row-asks line r short (here by-row by-list f.0 f.1))
  where
    here : row_of (digits ++ 32 ∷ line) ≡ row_with (Some tick) (inputs_of line) → row_of_lists (digits ++ 32 ∷ line) ≡ row_with (Some tick) (lists_of line)
        → (form : RowForm) → row_in form (digits ++ 32 ∷ line) ≡ Some (record { tick = tick; row = r }) → inputs_in line ≡ Some r
    here by-row by-list Digits e = by-digits line r (with-inputs tick (inputs_of line) r (sym by-row ∙ e))
    here by-row by-list Lists e = by-lists line r (with-inputs tick (lists_of line) r (sym by-list ∙ e))

pub same-commands : AskTheSame
same-commands = asks-same

pub same-layouts : LayOutTheSame
same-layouts = lays-out-same

pub same-skips : SkipTheSame
same-skips = skips-same

pub no-commands : AreNoCommands
no-commands line r e = let read = row-read line r e in (read.0, read.1)

pub new-commands : AreNew
new-commands = new-read

pub long-lines : AreBadWhereLong
long-lines line long = (live-reading-long line long, session-reading-long line long)

pub first-bytes : AskByTheirFirstBytes
first-bytes line = (kept-asks line, kept-asks-last line)

-- ## Numbers of changes and step

abbrev changes_asked : LiveReading → Option ℕ
changes_asked (Ask (Changes n)) = Some n
changes_asked x = None

abbrev steps_read : Reading → Option ℕ
steps_read (session.Do (Step n)) = Some n
steps_read x = None

abbrev value : ℕ → Option ℕ → ℕ
value n None = n
value n (Some m) = m

asks-changes : (x : LiveReading) (n : ℕ) → changes_asked x ≡ Some n → x ≡ Ask (Changes n)
asks-changes (Ask (Changes m)) n e = ap (λ (o : Option ℕ). Ask (Changes (value n o))) e
asks-changes x n e = absurd (subst IsNone e tt)

does-steps : (x : Reading) (n : ℕ) → steps_read x ≡ Some n → x ≡ session.Do (Step n)
does-steps (session.Do (Step m)) n e = ap (λ (o : Option ℕ). session.Do (Step (value n o))) e
does-steps x n e = absurd (subst IsNone e tt)

words-same : (ws : List (List ℕ)) → changes_asked (row_or None (live_command_in (codes "changes" ∷ ws))) ≡ steps_read (reading_in (lines_in (codes "step" ∷ ws)) (command_in (codes "step" ∷ ws)))
unfolding own_of_one own_of_two own_of_three lines_of_two command_of_one command_of_two command_of_three command_of_five
words-same [] = refl
words-same (x ∷ []) = number (number_of x)
  where
    number : (o : Option ℕ) → changes_asked (row_or None (option_or (option_map Changes o) None)) ≡ steps_read (reading_in None (option_map Step o))
    number None = refl
    number (Some n) = refl
words-same (x ∷ y ∷ []) = refl
words-same (x ∷ y ∷ z ∷ []) = refl
words-same (x ∷ y ∷ z ∷ v ∷ []) = refl
words-same (x ∷ y ∷ z ∷ v ∷ u ∷ ws) = refl

changes-words : (rest : List ℕ) → words_of (codes "changes " ++ rest) ≡ codes "changes" ∷ words_of rest
changes-words rest = at-space (codes "changes") rest (omega arith, (omega arith, (omega arith, (omega arith, (omega arith, (omega arith, omega arith))))))

step-words : (rest : List ℕ) → words_of (codes "step " ++ rest) ≡ codes "step" ∷ words_of rest
step-words rest = at-space (codes "step") rest (omega arith, (omega arith, (omega arith, omega arith)))

changes-asks : (rest : List ℕ) → length rest ≤ 192 → live_reading (codes "changes " ++ rest) ≡ row_or None (live_command_in (codes "changes" ∷ words_of rest))
unfolding live_reading
changes-asks rest fits =
    let all : length (codes "changes " ++ rest) ≡ length (codes "changes ") + length rest = length-append (codes "changes ") rest in
    rw (le-ltb 200 (length (codes "changes " ++ rest)) (omega (arith, all, fits)), no-row-begins 99 (codes "hanges " ++ rest) refl refl refl refl refl, changes-words rest) refl

step-reads : (rest : List ℕ) → length rest ≤ 192 → reading (codes "step " ++ rest) ≡ reading_in (lines_in (codes "step" ∷ words_of rest)) (command_in (codes "step" ∷ words_of rest))
step-reads rest fits =
    let all : length (codes "step " ++ rest) ≡ length (codes "step ") + length rest = length-append (codes "step ") rest in
    rw (le-ltb 200 (length (codes "step " ++ rest)) (omega (arith, all, fits)), step-words rest) refl

pub same-numbers : TakeTheSameNumber
same-numbers rest n fits =
    let same : changes_asked (live_reading (codes "changes " ++ rest)) ≡ steps_read (reading (codes "step " ++ rest)) =
    ap changes_asked (changes-asks rest fits) ∙ words-same (words_of rest) ∙ sym (ap steps_read (step-reads rest fits)) in (
      λ e. does-steps (reading (codes "step " ++ rest)) n (sym same ∙ ap changes_asked e),
      λ e. asks-changes (live_reading (codes "changes " ++ rest)) n (same ∙ ap steps_read e),
    )
