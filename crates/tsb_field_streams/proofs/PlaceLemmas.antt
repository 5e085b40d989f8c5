-- The place of a row in a queue.
use Rattle.std.proofs.Common.{◌≡◌, ℕ, zero, suc, ◌<◌, ◌≤◌, List, [], ◌∷◌, length, refl, sym, ap, ◌∙◌, arith, OnOk, OnErr}
use Rattle.std.specs.List.{AllWithin, insert}
use Rattle.std.specs.declared.result.Result.{Result}
use Rattle.std.specs.declared.result.Result.TheVariants.{Ok, Err}
use Rattle.tsb_event_text.specs.declared.rows.EventRow.{EventRow}
use Rattle.tsb_field_streams.specs.Order.{placed, time_of}
use Rattle.tsb_field_streams.proofs.OrderLemmas.{placed-before, placed-behind}

-- behind the rows that are no later, and before those that are later
pub placed-at : (row : EventRow) (rows : List EventRow) (i : ℕ) → i ≤ length rows → AllWithin (λ held. time_of held ≤ time_of row) rows 0 i
    → AllWithin (λ held. time_of row < time_of held) rows i (length rows) → insert rows i row ≡ placed row rows
placed-at row [] zero bound below above = refl
placed-at row [] (suc i) bound below above = refl
placed-at row (h ∷ rest) zero bound below above = sym (placed-before row h rest (above zero h (omega arith) (omega arith)))
placed-at row (h ∷ rest) (suc i) bound below above =
    ap (λ (v : List EventRow). h ∷ v)
    (placed-at row rest i (omega (arith, bound)) (λ k d from lt. below (suc k) d (omega arith) (omega (arith, lt))) (λ k d from lt. above (suc k) d (omega (arith, from)) (omega (arith, lt))))
    ∙ sym (placed-behind row h rest (below zero h (omega arith) (omega arith)))

-- where there is room, a row is inserted
pub inserted : {T E : Type 0} (r : Result T E) (rows new : List EventRow) (row : EventRow) (i len most capacity : ℕ) → len ≡ length rows → length rows < most → most ≤ capacity → OnOk r (new ≡ insert rows i row)
    → OnErr r (capacity ≤ len) → new ≡ insert rows i row
inserted (Ok u) rows new row i len most capacity is few room ok full = ok
inserted (Err e) rows new row i len most capacity is few room ok full = absurd (omega (arith, is, few, room, full))
