-- Mistakes that the laws refuse, and what is kept of worked inputs, computed.
use Rattle.std.proofs.Common.{◌≡◌, ℕ, [], ◌∷◌, ◌++◌, Some, refl}
use Rattle.std.proofs.lemmas.Bool.{true≢false}
use Rattle.tsb_types.specs.Sets.{all_off, set_of_detectors, set_of_list}
use Rattle.tsb_types.specs.declared.row.Row.{Row}
use Rattle.tsb_log_text.specs.declared.log.LogRow.{LogRow}
use Rattle.tsb_log_text.specs.Logs.{row_at}
use Rattle.tsb_step.specs.declared.inputs.Input.TheVariants.{Pattern, Tick}
use Rattle.tsb_text.specs.kept.Changed.{change_in}
use Rattle.tsb_log_text.specs.RowInputs.{value_of}
use Rattle.tsb_log_text.specs.declared.row_input.RowInput.TheVariants.{Vehicle}
use Rattle.tsb_text.specs.kept.Kept.{Keeping, gone_back, keeping, nothing_kept, with_other, with_row}
use Rattle.tsb_text.specs.kept.Laws.{Differ, given_again}

-- detector 2 is on
abbrev on : Row
on = record { vehicles = set_of_detectors 2; pedestrians = set_of_list 0; preempts = set_of_list 0 }

abbrev row : ℕ → Row → LogRow
row tick inputs = record { tick = tick; row = inputs }

-- it comes on at tick 2, and is off at tick 3
abbrev kept : Keeping
kept = with_row 3 all_off (with_row 2 on (with_row 1 all_off nothing_kept))

has_two_rows : kept.rows ≡ row 2 on ∷ row 3 all_off ∷ []
has_two_rows = refl

is_off_at_1 : row_at kept.rows 1 ≡ all_off
is_off_at_1 = refl

is_on_at_2 : row_at kept.rows 2 ≡ on
is_on_at_2 = refl

changed_at_3 : change_in (value_of (Vehicle 2)) all_off kept.rows ≡ Some 3
changed_at_3 = refl

-- back at tick 2 it is on
back : gone_back 2 kept ≡ keeping (row 2 on ∷ []) []
back = refl

-- ## A row has the number of the tick before it

abbrev rows_one_early : Keeping
rows_one_early = with_row 2 all_off (with_row 1 on (with_row 0 all_off nothing_kept))

would_be_on_at_1 : row_at rows_one_early.rows 1 ≡ on
would_be_on_at_1 = refl

-- ## Each tick has a row

abbrev rows_of_all : ℕ → Row → Keeping → Keeping
rows_of_all tick inputs before = keeping (before.rows ++ row tick inputs ∷ []) before.others

has_one_row : (with_row 2 on (with_row 1 on nothing_kept)).rows ≡ row 1 on ∷ []
has_one_row = refl

would_have_two : Differ all_off (rows_of_all 2 on (rows_of_all 1 on nothing_kept)).rows → ⊥
would_have_two h = true≢false h.1.0

-- ## Another input comes after the tick that follows it

abbrev other_one_late : Keeping
other_one_late = with_row 1 on (with_other 1 (Pattern 3) nothing_kept)

comes_first : given_again (with_row 1 on (with_other 0 (Pattern 3) nothing_kept)) 1 ≡ Tick on ∷ Pattern 3 ∷ []
comes_first = refl

would_come_second : given_again other_one_late 1 ≡ Pattern 3 ∷ Tick on ∷ []
would_come_second = refl
