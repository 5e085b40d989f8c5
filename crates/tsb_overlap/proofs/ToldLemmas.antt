-- Laws of the cells: a row that the overlaps can hold is the table of what it says.
use Rattle.std.proofs.Common.{◌≡◌, ℕ, ◌+◌, ◌<◌, ◌≤◌, List, [], ◌∷◌, length, take, slice_index, refl, sym, ap, ◌∙◌, arith, inl, inr}
use Rattle.std.proofs.lemmas.Bool.Decides.{eqb_tells}
use Rattle.tsb_cells.specs.Timer.{timer_cell}
use Rattle.tsb_cells.proofs.TimerLemmas.{timer_cell-timer_at}
use Rattle.tsb_cells.proofs.RowLemmas.{take-whole}
use Rattle.tsb_cells.proofs.TableLemmas.{column, more, list-told}
use Rattle.tsb_objects.specs.tsb_types.declared.limits.TheConstants.{OVERLAPS}
use Rattle.tsb_objects.specs.tsb_types.Sets.{list_of}
use Rattle.tsb_objects.specs.tsb_plan.Parts.{unless_zero}
use Rattle.tsb_overlap.specs.declared.TheConstants.{CELLS}
use Rattle.tsb_overlap.specs.declared.parts.OverlapInterval.{OverlapInterval}
use Rattle.tsb_overlap.specs.declared.parts.OverlapInterval.TheVariants.{Red, Green, TrailGreen, Flashing, Yellow, RedClear}
use Rattle.tsb_overlap.specs.Overlap.{Overlap}
use Rattle.tsb_overlap.specs.Cells.{listed, overlap_in, omitted_in, is_interval, list_of_interval, phase_cell, overlaps_cells, IsBy}
use Rattle.tsb_overlap.specs.Parts.{is_list}
use Rattle.tsb_overlap.proofs.ListLemmas.{interval-listed}
use Rattle.tsb_overlap.proofs.CellLemmas.{overlap_in-part}

-- the number of the list of an interval
pub list-green : (i : OverlapInterval) → is_interval Green i ≡ is_list 0 i
list-green Red = refl
list-green Green = refl
list-green TrailGreen = refl
list-green Flashing = refl
list-green Yellow = refl
list-green RedClear = refl

pub list-trail_green : (i : OverlapInterval) → is_interval TrailGreen i ≡ is_list 1 i
list-trail_green Red = refl
list-trail_green Green = refl
list-trail_green TrailGreen = refl
list-trail_green Flashing = refl
list-trail_green Yellow = refl
list-trail_green RedClear = refl

pub list-flashing : (i : OverlapInterval) → is_interval Flashing i ≡ is_list 2 i
list-flashing Red = refl
list-flashing Green = refl
list-flashing TrailGreen = refl
list-flashing Flashing = refl
list-flashing Yellow = refl
list-flashing RedClear = refl

pub list-yellow : (i : OverlapInterval) → is_interval Yellow i ≡ is_list 3 i
list-yellow Red = refl
list-yellow Green = refl
list-yellow TrailGreen = refl
list-yellow Flashing = refl
list-yellow Yellow = refl
list-yellow RedClear = refl

pub list-red_clear : (i : OverlapInterval) → is_interval RedClear i ≡ is_list 4 i
list-red_clear Red = refl
list-red_clear Green = refl
list-red_clear TrailGreen = refl
list-red_clear Flashing = refl
list-red_clear Yellow = refl
list-red_clear RedClear = refl

six : (row : List ℕ) → 6 ≤ length row →
    (slice_index row 0 ∷ slice_index row 1 ∷ slice_index row 2 ∷ slice_index row 3 ∷ slice_index row 4 ∷ slice_index row 5 ∷ []) ≡ take 6 row
six (a ∷ (b ∷ (c ∷ (d ∷ (e ∷ (f ∷ rest)))))) full = refl
six row full = absurd (omega arith)

six-of : (a a' b b' c c' d d' e e' f f' : ℕ) → a ≡ a' → b ≡ b' → c ≡ c' → d ≡ d' → e ≡ e' → f ≡ f' →
    (a ∷ b ∷ c ∷ d ∷ e ∷ f ∷ []) ≡ (a' ∷ b' ∷ c' ∷ d' ∷ e' ∷ f' ∷ [])
six-of a a' b b' c c' d d' e e' f f' p q r s t u = rw (p, q, r, s, t, u) refl

phase-told : (n : ℕ) → phase_cell (unless_zero n) ≡ n
phase-told n = elim (eqb_tells n 0) [ inl none ↦ rw none.0 (sym none.1) | inr some ↦ rw some.0 refl ]

module _ (now : ℕ) (row : List ℕ) (by : IsBy now row) where
  named : (o : ℕ) → 1 ≤ o → o ≤ OVERLAPS → (k : ℕ) → k < 5 → is_list k (overlap_in now row o).interval ≡ listed row k o
  named o from to k below =
      ap (λ (x : Overlap). is_list k x.interval) (overlap_in-part now row o from to) ∙ sym (interval-listed row o (by.each o from to).apart k below)

  told : (i : OverlapInterval) (k : ℕ) → k < 5 → ((j : OverlapInterval) → is_interval i j ≡ is_list k j) →
      list_of_interval (overlap_in now row) i ≡ slice_index row k
  told i k below same =
      list-told row k (λ o. is_interval i (overlap_in now row o).interval) (by.lists k (omega (arith, below)))
      (λ o from to. same (overlap_in now row o).interval ∙ named o from to k below)

  timer-told : (o : ℕ) → 1 ≤ o → o ≤ OVERLAPS → timer_cell now (overlap_in now row o).timer ≡ slice_index row (5 + o)
  timer-told o from to =
      ap (λ (x : Overlap). timer_cell now x.timer) (overlap_in-part now row o from to)
      ∙ timer_cell-timer_at now (slice_index row (5 + o)) (by.each o from to).timer

  number-told : (o : ℕ) → 1 ≤ o → o ≤ OVERLAPS → phase_cell (overlap_in now row o).phase ≡ slice_index row (5 + OVERLAPS + o)
  number-told o from to =
      ap (λ (x : Overlap). phase_cell x.phase) (overlap_in-part now row o from to) ∙ phase-told (slice_index row (5 + OVERLAPS + o))

  abbrev lists : List ℕ
  lists =
      list_of_interval (overlap_in now row) Green ∷ list_of_interval (overlap_in now row) TrailGreen ∷ list_of_interval (overlap_in now row) Flashing
      ∷ list_of_interval (overlap_in now row) Yellow ∷ list_of_interval (overlap_in now row) RedClear ∷ list_of OVERLAPS (omitted_in row) ∷ []

  lists-told : lists ≡ take 6 row
  lists-told =
      six-of _ _ _ _ _ _ _ _ _ _ _ _ (told Green 0 (omega arith) list-green) (told TrailGreen 1 (omega arith) list-trail_green)
      (told Flashing 2 (omega arith) list-flashing) (told Yellow 3 (omega arith) list-yellow) (told RedClear 4 (omega arith) list-red_clear)
      (list-told row 5 (omitted_in row) (by.lists 5 (omega arith)) (λ o from to. refl))
      ∙ six row (omega (arith, by.full))

  pub overlaps-told : overlaps_cells now (overlap_in now row) (omitted_in row) ≡ row
  overlaps-told =
      more OVERLAPS row (6 + OVERLAPS) (λ o. phase_cell (overlap_in now row o).phase) _
      (more OVERLAPS row 6 (λ o. timer_cell now (overlap_in now row o).timer) _ lists-told
      (column OVERLAPS row 6 _ (omega (arith, by.full)) (omega arith) timer-told))
      (column OVERLAPS row (6 + OVERLAPS) _ (omega (arith, by.full)) (omega arith) number-told)
      ∙ take-whole row CELLS by.full
