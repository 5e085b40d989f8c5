use Rattle.std.proofs.Common.{◌≡◌, ℕ, ◌+◌, ◌-◌, ◌≤◌, List, drop, get_or, slice_index, refl, ap, sym, ◌∙◌, subst, arith, get_or-take}
use Rattle.std.proofs.lemmas.List.{get_or-drop}
use Rattle.tsb_objects.proofs.tsb_types.ClipLemmas.{is_phase_from}
use Rattle.tsb_calls.specs.Cells.{memories_in}
use Rattle.tsb_calls.specs.Layer.{cells_of}
use Rattle.tsb_calls.proofs.calls.Calls.vehicles.Goals as goal

cell : (row : List ℕ) (p : ℕ) → 1 ≤ p → p ≤ 16 → (memories_in row).count p ≡ slice_index row (1 + p)
cell row p from within = rw (is_phase_from p from within) refl

pub returns-clause-each : goal.returns-clause-each
returns-clause-each c = λ p from within.
    let row : List ℕ = cells_of c.args.self.now in
    let place : 2 + (p - 1) ≡ 1 + p = omega (arith, from) in
    let lent : slice_index c.part.result.now (p - 1) ≡ slice_index row (1 + p) =
    ap (λ (xs : List ℕ). slice_index xs (p - 1)) c.part.ensures.cells
    ∙ get_or-take 16 (drop 2 row) (p - 1) 0 (omega (arith, from, within))
    ∙ get_or-drop 2 row (p - 1) 0 ∙ ap (λ (n : ℕ). get_or row n 0) place in
    record {
      same = lent ∙ sym (cell row p from within);
      small = subst (λ (n : ℕ). n ≤ 255) (sym lent) (c.requires.by.counts p from within);
    }
