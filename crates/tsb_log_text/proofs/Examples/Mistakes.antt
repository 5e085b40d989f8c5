-- Mistakes in how logs are read, each with an example that tells it from the definition.
use Rattle.std.specs.Prelude.{◌≡◌, ℕ, ◌+◌, ◌*◌, ◌==◌, nat_le, nat_lt, Bool, true, false, List, [], ◌∷◌, ◌++◌, codes, decimal, if◌then◌else◌, Option, Some, None, Result, Ok, Err, refl}
use Rattle.tsb_lines.specs.Lines.{is_skipped}
use Rattle.tsb_types.specs.Lists.{run_from}
use Rattle.tsb_types.specs.Sets.{names, number_of_bits, set_of_detectors, set_of_list, all_off}
use Rattle.tsb_types.specs.declared.row.Row.{Row}
use Rattle.tsb_log_text.specs.Forms.{form_of}
use Rattle.tsb_log_text.specs.ListText.{item_text, kind_text, runs_from}
use Rattle.tsb_log_text.specs.Logs.{with_rows, row_then, rows_from, row_at}
use Rattle.tsb_log_text.specs.RowLists.{lists_of, row_of_lists}
use Rattle.tsb_log_text.specs.Rows.{inputs_of, list_in_digits, row_of}
use Rattle.tsb_log_text.specs.declared.form.RowForm.TheVariants.{Digits}
use Rattle.tsb_log_text.specs.declared.log.LogRow.{LogRow}
use Rattle.tsb_log_text.specs.declared.error.LogError.{LogError}
use Rattle.tsb_log_text.specs.declared.error.LogError.TheVariants.{Malformed, TickOrder}

-- detector 2 goes on at tick 5
abbrev pub on_line : List ℕ
on_line = codes "0000005 0100000000000000 00000000 0000"

abbrev pub on : Row
on = record { vehicles = set_of_detectors 2; pedestrians = set_of_list 0; preempts = set_of_list 0 }

abbrev pub on_row : LogRow
on_row = record { tick = 5; row = on }

-- and off at tick 9
abbrev pub off_line : List ℕ
off_line = codes "0000009 0000000000000000 00000000 0000"

abbrev pub off_row : LogRow
off_row = record { tick = 9; row = all_off }

-- a comment does not count as a row
rises : rows_from Digits 1 0 (codes "# a comment" ∷ on_line ∷ off_line ∷ []) ≡ Ok (on_row ∷ off_row ∷ [])
unfolding rows_from row_of inputs_of
rises = refl

-- ## A row may have the tick of the row before it

abbrev pub row_then_or_at : ℕ → ℕ → Option LogRow → (ℕ → Result (List LogRow) LogError) → Result (List LogRow) LogError
row_then_or_at n last None rest = Err (Malformed n)
row_then_or_at n last (Some r) rest = if nat_le last r.tick then with_rows (r ∷ []) (rest r.tick) else Err (TickOrder n)

abbrev pub rows_or_at : ℕ → ℕ → List (List ℕ) → Result (List LogRow) LogError
rows_or_at n last [] = Ok []
rows_or_at n last (line ∷ lines) =
    if is_skipped line then rows_or_at (n + 1) last lines
    else row_then_or_at n last (row_of line) (λ tick. rows_or_at (n + 1) tick lines)

stays : rows_from Digits 1 0 (on_line ∷ on_line ∷ []) ≡ Err (TickOrder 2)
unfolding rows_from row_of inputs_of
stays = refl

would_be_a_log : rows_or_at 1 0 (on_line ∷ on_line ∷ []) ≡ Ok (on_row ∷ on_row ∷ [])
unfolding row_of inputs_of
would_be_a_log = refl

-- ## Lines that are skipped are not counted, so a fault is told of another line

abbrev pub rows_uncounted : ℕ → ℕ → List (List ℕ) → Result (List LogRow) LogError
rows_uncounted n last [] = Ok []
rows_uncounted n last (line ∷ lines) =
    if is_skipped line then rows_uncounted n last lines
    else row_then n last (row_of line) (λ tick. rows_uncounted (n + 1) tick lines)

is_line_2 : rows_from Digits 1 0 (codes "# a comment" ∷ codes "5" ∷ []) ≡ Err (Malformed 2)
unfolding rows_from row_of inputs_of
is_line_2 = refl

would_be_line_1 : rows_uncounted 1 0 (codes "# a comment" ∷ codes "5" ∷ []) ≡ Err (Malformed 1)
unfolding row_of inputs_of
would_be_line_1 = refl

-- ## A row is in force from the tick after its own

abbrev pub row_from_next : Row → List LogRow → ℕ → Row
row_from_next before [] tick = before
row_from_next before (r ∷ rs) tick = if nat_lt r.tick tick then row_from_next r.row rs tick else before

is_on : row_at (on_row ∷ off_row ∷ []) 5 ≡ on
is_on = refl

is_off_before : row_at (on_row ∷ off_row ∷ []) 4 ≡ all_off
is_off_before = refl

would_be_off : row_from_next all_off (on_row ∷ off_row ∷ []) 5 ≡ all_off
would_be_off = refl

-- ## The first of all rows is in force before its tick as well

abbrev pub row_from_first : List LogRow → ℕ → Row
row_from_first [] tick = all_off
row_from_first (r ∷ rs) tick = row_at (record r { tick = 0 } ∷ rs) tick

would_be_on : row_from_first (on_row ∷ off_row ∷ []) 4 ≡ on
would_be_on = refl

-- ## The last digit is that of input 1

abbrev pub list_from_last : ℕ → List ℕ → Option ℕ
list_from_last before [] = Some before
list_from_last before (d ∷ ds) =
    if d == 48 then list_from_last (2 * before) ds else (if d == 49 then list_from_last (2 * before + 1) ds else None)

is_input_2 : list_in_digits (codes "0100") ≡ Some 2
is_input_2 = refl

names_2 : names 2 2 ≡ true
names_2 = refl

would_be_input_3 : list_from_last 0 (codes "0100") ≡ Some 4
would_be_input_3 = refl

would_not_name_2 : names 4 2 ≡ false
would_not_name_2 = refl

-- ## A row may have either form

-- detector 2 goes on at tick 5, by lists
by_lists : row_of_lists (codes "0000005 V2") ≡ Some on_row
unfolding row_of_lists lists_of number_of_bits run_from
by_lists = refl

-- and all inputs off at tick 9
abbrev pub off_by_lists : List ℕ
off_by_lists = codes "0000009"

abbrev pub row_of_either : Option LogRow → Option LogRow → Option LogRow
row_of_either None other = other
row_of_either (Some row) other = Some row

abbrev pub rows_of_either : ℕ → ℕ → List (List ℕ) → Result (List LogRow) LogError
rows_of_either n last [] = Ok []
rows_of_either n last (line ∷ lines) =
    if is_skipped line then rows_of_either (n + 1) last lines
    else row_then n last (row_of_either (row_of line) (row_of_lists line)) (λ tick. rows_of_either (n + 1) tick lines)

stays_in_form : rows_from (form_of (on_line ∷ off_by_lists ∷ [])) 1 0 (on_line ∷ off_by_lists ∷ []) ≡ Err (Malformed 2)
unfolding rows_from row_of inputs_of row_of_lists lists_of
stays_in_form = refl

would_mix : rows_of_either 1 0 (on_line ∷ off_by_lists ∷ []) ≡ Ok (on_row ∷ off_row ∷ [])
unfolding row_of inputs_of row_of_lists
would_mix = refl

-- ## A run of two is written as its first number alone

abbrev pub short_item : ℕ × ℕ → List ℕ
short_item r = if r.1 == r.0 + 1 then decimal r.0 else item_text r

abbrev pub short_later : List (ℕ × ℕ) → List ℕ
short_later [] = []
short_later (r ∷ rs) = codes "," ++ short_item r ++ short_later rs

abbrev pub short_behind : List ℕ → List (ℕ × ℕ) → List ℕ
short_behind before [] = []
short_behind before (r ∷ rs) = before ++ short_item r ++ short_later rs

abbrev pub short_runs : List ℕ → ℕ → (ℕ → Bool) → List ℕ
short_runs before most on = short_behind before (runs_from 1 most on)

has_2 : kind_text (codes " P") 16 (names 3) ≡ codes " P" ++ (decimal 1 ++ codes "-" ++ decimal 2) ++ []
has_2 = refl

would_lose_2 : short_runs (codes " P") 16 (names 3) ≡ codes " P" ++ decimal 1 ++ []
would_lose_2 = refl
