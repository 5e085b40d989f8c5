-- Laws of states: the table of overlaps that cells can say is read as they were.
use Rattle.std.proofs.Common.{zero, suc, ◌≡◌, ℕ, ◌+◌, ◌<◌, ◌≤◌, ◌==◌, ◌%◌, Bool, false, List, [], ◌∷◌, ◌++◌, length, slice_index, map, Option, Some, None, refl, sym, ap, ◌∙◌, subst, arith, inl, inr}
use Rattle.std.proofs.Math.Path.{fun_ext}
use Rattle.std.proofs.lemmas.Bool.{cases_Bool}
use Rattle.std.proofs.lemmas.Bool.Decides.{nat_tests, eqb_tells}
use Rattle.tsb_cells.specs.Timer.{timer_at, timer_cell}
use Rattle.tsb_cells.proofs.TableLemmas.{front-read, column-read, length-column, list-read}
use Rattle.tsb_cells.proofs.TimerLemmas.{timer_at-timer_cell, timer_cell-le, IsWithin-timer_at}
use Rattle.tsb_objects.specs.tsb_types.declared.limits.TheConstants.{OVERLAPS}
use Rattle.tsb_objects.specs.tsb_types.Lists.{run_from}
use Rattle.tsb_objects.specs.tsb_types.Sets.{list_in, list_of}
use Rattle.tsb_objects.proofs.tsb_types.SetLemmas.{list_of-below, names-above}
use Rattle.tsb_objects.specs.tsb_plan.Parts.{unless_zero}
use Rattle.tsb_overlap.specs.declared.TheConstants.{CELLS}
use Rattle.tsb_overlap.specs.declared.parts.OverlapInterval.TheVariants.{Green, TrailGreen, Flashing, Yellow, RedClear}
use Rattle.tsb_overlap.specs.Overlap.{Overlap}
use Rattle.tsb_overlap.specs.Cells.{listed, overlap_in, omitted_in, is_overlap, is_interval, list_of_interval, phase_cell, overlaps_cells, IsOverlapBy, IsBy}
use Rattle.tsb_overlap.specs.Laws.{IsPhaseOrNone, IsOverlapIn, IsStateBy, IsReadAs}
use Rattle.tsb_overlap.specs.Parts.{is_list}
use Rattle.tsb_overlap.proofs.ListLemmas.{interval-put, in-one-put}
use Rattle.tsb_overlap.proofs.CellLemmas.{same-overlap, overlap_in-part, at-rest, IsAmong, among-overlaps}
use Rattle.tsb_overlap.proofs.ToldLemmas.{list-green, list-trail_green, list-flashing, list-yellow, list-red_clear}

phase-read : (p : Option ℕ) → IsPhaseOrNone p → unless_zero (phase_cell p) ≡ p
phase-read None is = refl
phase-read (Some p) is = rw (not-zero p is.0) refl
  where
    not-zero : (n : ℕ) → 1 ≤ n → (n == 0) ≡ false
    not-zero n from = grind (arith, nat_tests, from)

phase-small : (p : Option ℕ) → IsPhaseOrNone p → phase_cell p ≤ 16
phase-small None is = omega arith
phase-small (Some p) is = is.1

number-or-none : (n : ℕ) → n ≤ 16 → IsPhaseOrNone (unless_zero n)
number-or-none n small = elim (eqb_tells n 0) [ inl none ↦ rw none.0 tt | inr some ↦ rw some.0 (omega (arith, some.1), small) ]

-- a list of the first 16 numbers names no other
names-outside : (row : List ℕ) (k o : ℕ) → is_overlap o ≡ false → listed row k o ≡ false
names-outside row k zero out = refl
names-outside row k (suc n) out = names-above 16 (suc n) (list_in row k) (small (slice_index row k)) (grind (arith, nat_tests, out))
  where
    small : (cell : ℕ) → cell % 65536 < 65536
    small cell = omega arith

module _ (now : ℕ) (f : ℕ → Overlap) (omitted : ℕ → Bool) where
  abbrev lists : List ℕ
  lists =
      list_of_interval f Green ∷ list_of_interval f TrailGreen ∷ list_of_interval f Flashing ∷ list_of_interval f Yellow
      ∷ list_of_interval f RedClear ∷ list_of OVERLAPS omitted ∷ []

  abbrev timers : List ℕ
  timers = lists ++ map (λ o. timer_cell now (f o).timer) (run_from 1 OVERLAPS)

  abbrev cells : List ℕ
  cells = overlaps_cells now f omitted

  length-timers : length timers ≡ 6 + OVERLAPS
  length-timers = length-column OVERLAPS lists (λ o. timer_cell now (f o).timer)

  length-cells : length cells ≡ CELLS
  length-cells = length-column OVERLAPS timers (λ o. phase_cell (f o).phase) ∙ ap (λ (n : ℕ). n + OVERLAPS) length-timers

  cell-at : (k : ℕ) → k < 6 → slice_index cells k ≡ slice_index lists k
  cell-at k below = front-read timers _ k (omega (arith, below, length-timers)) ∙ front-read lists _ k below

  small : (k : ℕ) → k < 6 → slice_index lists k < 65536
  small zero below = list_of-below 16 (λ o. is_interval Green (f o).interval)
  small (suc zero) below = list_of-below 16 (λ o. is_interval TrailGreen (f o).interval)
  small (suc (suc zero)) below = list_of-below 16 (λ o. is_interval Flashing (f o).interval)
  small (suc (suc (suc zero))) below = list_of-below 16 (λ o. is_interval Yellow (f o).interval)
  small (suc (suc (suc (suc zero)))) below = list_of-below 16 (λ o. is_interval RedClear (f o).interval)
  small (suc (suc (suc (suc (suc zero))))) below = list_of-below 16 omitted
  small (suc (suc (suc (suc (suc (suc k)))))) below = absurd (omega arith)

  omitted-at : (o : ℕ) → 1 ≤ o → o ≤ OVERLAPS → omitted_in cells o ≡ omitted o
  omitted-at o from to = list-read cells 5 omitted o (cell-at 5 (omega arith)) from to

  module _ (o : ℕ) (from : 1 ≤ o) (to : o ≤ OVERLAPS) where
    named : (k : ℕ) → k < 5 → listed cells k o ≡ is_list k (f o).interval
    named zero below = list-read cells 0 (λ q. is_interval Green (f q).interval) o (cell-at 0 (omega arith)) from to ∙ list-green (f o).interval
    named (suc zero) below =
        list-read cells 1 (λ q. is_interval TrailGreen (f q).interval) o (cell-at 1 (omega arith)) from to ∙ list-trail_green (f o).interval
    named (suc (suc zero)) below =
        list-read cells 2 (λ q. is_interval Flashing (f q).interval) o (cell-at 2 (omega arith)) from to ∙ list-flashing (f o).interval
    named (suc (suc (suc zero))) below =
        list-read cells 3 (λ q. is_interval Yellow (f q).interval) o (cell-at 3 (omega arith)) from to ∙ list-yellow (f o).interval
    named (suc (suc (suc (suc zero)))) below =
        list-read cells 4 (λ q. is_interval RedClear (f q).interval) o (cell-at 4 (omega arith)) from to ∙ list-red_clear (f o).interval
    named (suc (suc (suc (suc (suc k))))) below = absurd (omega arith)

    timer-at : slice_index cells (5 + o) ≡ timer_cell now (f o).timer
    timer-at =
        front-read timers _ (5 + o) (omega (arith, to, length-timers))
        ∙ column-read OVERLAPS 6 lists (λ q. timer_cell now (f q).timer) o refl (omega arith) from to

    phase-at : slice_index cells (5 + OVERLAPS + o) ≡ phase_cell (f o).phase
    phase-at = column-read OVERLAPS (6 + OVERLAPS) timers (λ q. phase_cell (f q).phase) o length-timers (omega arith) from to

    module _ (is : IsOverlapIn now (f o)) where
      overlap-read : overlap_in now cells o ≡ f o
      overlap-read =
          overlap_in-part now cells o from to
          ∙ same-overlap _ _ (interval-put cells o (f o).interval named)
          (ap (λ (cell : ℕ). timer_at now cell) timer-at ∙ timer_at-timer_cell now (f o).timer is.timer)
          (ap unless_zero phase-at ∙ phase-read (f o).phase is.phase)

      overlap-by : IsOverlapBy now cells o
      overlap-by = record {
        apart = in-one-put cells o (f o).interval named;
        timer = omega (arith, timer-at, timer_cell-le now (f o).timer);
        phase = omega (arith, phase-at, phase-small (f o).phase is.phase);
      }

  pub states-read : IsStateBy now f omitted → IsReadAs now f omitted
  states-read s = record { overlaps = fun_ext (λ o. at o); omits = fun_ext (λ o. omitted-read o) }
    where
      at : (o : ℕ) → overlap_in now cells o ≡ f o
      at o = elim (cases_Bool (is_overlap o)) [
        | inl on ↦ (let i : IsAmong o = among-overlaps o on in overlap-read o i.from i.to (s.each o i.from i.to))
        | inr out ↦ at-rest now cells o out ∙ sym (s.others o out)
      ]

      omitted-read : (o : ℕ) → omitted_in cells o ≡ omitted o
      omitted-read o = elim (cases_Bool (is_overlap o)) [
        | inl on ↦ (let i : IsAmong o = among-overlaps o on in omitted-at o i.from i.to)
        | inr out ↦ names-outside cells 5 o out ∙ sym (s.few o out)
      ]

  pub states-by : IsStateBy now f omitted → IsBy now cells
  states-by s = record {
    full = length-cells;
    lists = λ k below. omega (arith, cell-at k below, small k below);
    each = λ o from to. overlap-by o from to (s.each o from to);
  }

-- what the overlaps can hold says such overlaps
pub rows-are_states : (now : ℕ) (row : List ℕ) → IsBy now row → IsStateBy now (overlap_in now row) (omitted_in row)
rows-are_states now row by = record {
  each = λ o from to.
      subst (λ (x : Overlap). IsOverlapIn now x) (sym (overlap_in-part now row o from to))
      (record { timer = IsWithin-timer_at now (slice_index row (5 + o)); phase = number-or-none _ (by.each o from to).phase });
  others = λ o out. at-rest now row o out;
  few = λ o out. names-outside row 5 o out;
}
