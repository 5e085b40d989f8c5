-- A row that the phases can hold at a tick is the table of what it says.
use Rattle.std.proofs.Common.{◌≡◌, ℕ, ◌+◌, ◌-◌, ◌/◌, ◌%◌, ◌<◌, ◌≤◌, ◌==◌, Bool, true, false, if◌then◌else◌, List, [], ◌∷◌, length, take, slice_index, refl, sym, ◌∙◌, inl, inr, arith, Some, None}
use Rattle.std.proofs.lemmas.Bool.{cases_Bool, eqb-true}
use Rattle.std.proofs.lemmas.Bool.Decides.{nat_tests}
use Rattle.tsb_cells.specs.Timer.{timer_cell}
use Rattle.tsb_cells.proofs.TimerLemmas.{timer_cell-timer_at}
use Rattle.tsb_cells.proofs.RowLemmas.{take-whole}
use Rattle.tsb_objects.specs.tsb_types.declared.interval.Interval.TheVariants.{Red, Green, Yellow, RedClear}
use Rattle.tsb_objects.specs.tsb_types.declared.interval.PedestrianInterval.TheVariants.{DontWalk, Walk, PedestrianClear}
use Rattle.tsb_objects.specs.tsb_types.Intervals.{is_walk, is_clearance}
use Rattle.tsb_objects.specs.tsb_types.Sets.{names, list_of}
use Rattle.tsb_objects.proofs.tsb_types.ClipLemmas.{is_phase_from}
use Rattle.tsb_objects.proofs.tsb_types.SetLemmas.{list_of-names_within, same-list_of}
use Rattle.tsb_phase.specs.declared.TheConstants.{CELLS}
use Rattle.tsb_phase.specs.declared.ending.Ending.TheVariants.{MaxOut, GapOut}
use Rattle.tsb_phase.specs.DynamicMaximum.{is_same}
use Rattle.tsb_phase.specs.Cells.{has_way, is_clearing, pair, number_in, number_cell, phase_in, row_in, phases_cells, IsBy}
use Rattle.tsb_phase.specs.Laws.{RowsAreTold}
use Rattle.tsb_cells.proofs.TableLemmas.{more, column}

-- ## What the lists tell

way-by : (r c : Bool) → has_way (if r then (if c then Yellow else Green) else (if c then RedClear else Red)) ≡ r
way-by true true = refl
way-by true false = refl
way-by false true = refl
way-by false false = refl

clearing-by : (r c : Bool) → is_clearing (if r then (if c then Yellow else Green) else (if c then RedClear else Red)) ≡ c
clearing-by true true = refl
clearing-by true false = refl
clearing-by false true = refl
clearing-by false false = refl

pub walk-by : (w c : Bool) → is_walk (if w then Walk else (if c then PedestrianClear else DontWalk)) ≡ w
walk-by true c = refl
walk-by false true = refl
walk-by false false = refl

clear-by : (w c : Bool) → (w ≡ true → c ≡ false) → is_clearance (if w then Walk else (if c then PedestrianClear else DontWalk)) ≡ c
clear-by true c apart = sym (apart refl)
clear-by false true apart = refl
clear-by false false apart = refl

max-by : (m g : Bool) → is_same MaxOut (if m then Some MaxOut else (if g then Some GapOut else None)) ≡ m
max-by true g = refl
max-by false true = refl
max-by false false = refl

gap-by : (m g : Bool) → (m ≡ true → g ≡ false) → is_same GapOut (if m then Some MaxOut else (if g then Some GapOut else None)) ≡ g
gap-by true g apart = sym (apart refl)
gap-by false true apart = refl
gap-by false false apart = refl

-- ## The whole row

number-told : (n : ℕ) → number_cell (number_in n) ≡ n
number-told n = elim (cases_Bool (n == 0)) [
  | inl none ↦ (let e : n ≡ 0 = eqb-true n 0 none in rw none (sym e))
  | inr some ↦ (let e : n - 1 + 1 ≡ n = grind (arith, nat_tests, some) in rw some e)
]

-- two lists in a cell are what they name
pair-told : (cell : ℕ) (low high : ℕ → Bool) → cell < 4294967296 → ((p : ℕ) → 1 ≤ p → p ≤ 16 → low p ≡ names (cell % 65536) p) →
    ((p : ℕ) → 1 ≤ p → p ≤ 16 → high p ≡ names (cell / 65536) p) → pair (list_of 16 low) (list_of 16 high) ≡ cell
pair-told cell low high small lows highs =
    let one : list_of 16 low ≡ cell % 65536 = same-list_of 16 low (names (cell % 65536)) lows ∙ list_of-names_within 16 (cell % 65536) (omega arith) in
    let other : list_of 16 high ≡ cell / 65536 = same-list_of 16 high (names (cell / 65536)) highs ∙ list_of-names_within 16 (cell / 65536) (omega (arith, small)) in
    omega (arith, one, other)

four : (row : List ℕ) → 4 ≤ length row → (slice_index row 0 ∷ slice_index row 1 ∷ slice_index row 2 ∷ slice_index row 3 ∷ []) ≡ take 4 row
four (a ∷ (b ∷ (c ∷ (d ∷ rest)))) full = refl
four row full = absurd (omega arith)

module _ (now : ℕ) (row : List ℕ) (by : IsBy now row) where
  full : length row ≡ CELLS
  full = by.full

  lists : (pair (list_of 16 (λ p. has_way (phase_in now row p).interval)) (list_of 16 (λ p. is_clearing (phase_in now row p).interval)) ∷
      pair (list_of 16 (λ p. is_walk (phase_in now row p).pedestrian)) (list_of 16 (λ p. is_clearance (phase_in now row p).pedestrian)) ∷
      pair (list_of 16 (λ p. (phase_in now row p).gapped)) (list_of 16 (λ p. (phase_in now row p).forced)) ∷
      pair (list_of 16 (λ p. is_same MaxOut (phase_in now row p).last_ending)) (list_of 16 (λ p. is_same GapOut (phase_in now row p).last_ending)) ∷ []) ≡ take 4 row
  unfolding phase_in row_in
  lists =
      rw (
        pair-told (slice_index row 0) (λ p. has_way (phase_in now row p).interval) (λ p. is_clearing (phase_in now row p).interval) (by.lists 0 (omega arith))
            (λ p from to. rw (is_phase_from p from to) (way-by _ _)) (λ p from to. rw (is_phase_from p from to) (clearing-by _ _)),
        pair-told (slice_index row 1) (λ p. is_walk (phase_in now row p).pedestrian) (λ p. is_clearance (phase_in now row p).pedestrian) (by.lists 1 (omega arith))
            (λ p from to. rw (is_phase_from p from to) (walk-by _ _)) (λ p from to. rw (is_phase_from p from to) (clear-by _ _ (by.each p from to).walk_clearance)),
        pair-told (slice_index row 2) (λ p. (phase_in now row p).gapped) (λ p. (phase_in now row p).forced) (by.lists 2 (omega arith))
            (λ p from to. rw (is_phase_from p from to) refl) (λ p from to. rw (is_phase_from p from to) refl),
        pair-told (slice_index row 3) (λ p. is_same MaxOut (phase_in now row p).last_ending) (λ p. is_same GapOut (phase_in now row p).last_ending) (by.lists 3 (omega arith))
            (λ p from to. rw (is_phase_from p from to) (max-by _ _)) (λ p from to. rw (is_phase_from p from to) (gap-by _ _ (by.each p from to).endings)),
      ) (four row (omega (arith, full)))

  phases-told : phases_cells now (phase_in now row) ≡ row
  unfolding phase_in row_in
  phases-told =
      more 16 row 100 (λ p. number_cell (phase_in now row p).running_maximum) _
      (more 16 row 84 (λ p. timer_cell now (phase_in now row p).red_revert) _
      (more 16 row 68 (λ p. timer_cell now (phase_in now row p).reduction) _
      (more 16 row 52 (λ p. timer_cell now (phase_in now row p).conflict) _
      (more 16 row 36 (λ p. timer_cell now (phase_in now row p).passage) _
      (more 16 row 20 (λ p. timer_cell now (phase_in now row p).pedestrian_timer) _
      (more 16 row 4 (λ p. timer_cell now (phase_in now row p).timer) _ lists
      (column 16 row 4 _ (omega (arith, full)) (omega arith) (λ p from to. rw (is_phase_from p from to) (timer_cell-timer_at now _ (by.each p from to).timer))))
      (column 16 row 20 _ (omega (arith, full)) (omega arith) (λ p from to. rw (is_phase_from p from to) (timer_cell-timer_at now _ (by.each p from to).pedestrian_timer))))
      (column 16 row 36 _ (omega (arith, full)) (omega arith) (λ p from to. rw (is_phase_from p from to) (timer_cell-timer_at now _ (by.each p from to).passage))))
      (column 16 row 52 _ (omega (arith, full)) (omega arith) (λ p from to. rw (is_phase_from p from to) (timer_cell-timer_at now _ (by.each p from to).conflict))))
      (column 16 row 68 _ (omega (arith, full)) (omega arith) (λ p from to. rw (is_phase_from p from to) (timer_cell-timer_at now _ (by.each p from to).reduction))))
      (column 16 row 84 _ (omega (arith, full)) (omega arith) (λ p from to. rw (is_phase_from p from to) (timer_cell-timer_at now _ (by.each p from to).red_revert))))
      (column 16 row 100 _ (omega (arith, full)) (omega arith) (λ p from to. rw (is_phase_from p from to) (number-told _)))
      ∙ take-whole row CELLS full

pub rows-told : RowsAreTold
rows-told = phases-told
