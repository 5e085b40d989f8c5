-- The cells of the rings and what they say: a row is the table of what is read in it, and the table of a state is read
-- as it.
use Rattle.std.proofs.Common.{◌≡◌, ℕ, ◌==◌, ◌≤◌, List, [], ◌∷◌, length, Option, Some, None, IfSome, refl, sym, ap, arith, inl, inr, ◌∙◌}
use Rattle.std.proofs.lemmas.Bool.{cases_Bool, eqb-true}
use Rattle.tsb_types.specs.Lists.{or_number}
use Rattle.tsb_objects.specs.tsb_plan.Parts.{unless_zero}
use Rattle.tsb_ring.specs.declared.TheConstants.{CELLS}
use Rattle.tsb_ring.specs.Cells.{rings_in, rings_cells, IsBy, IsRingCell, commitment_in, last_in, pair}
use Rattle.tsb_ring.specs.Laws.{IsUpTo, IsInRange}
use Rattle.tsb_ring.specs.Layer.{either, state_with}
use Rattle.tsb_ring.specs.Rings.{Ring, Ring1, Ring2, State}
use Rattle.tsb_ring.proofs.WriteLemmas.{same_state, state-written, by-written}

-- ## Rows

number-told : (n : ℕ) → or_number (unless_zero n) 0 ≡ n
number-told n = elim (cases_Bool (n == 0)) [
  | inl none ↦ (let e : n ≡ 0 = eqb-true n 0 none in rw none (sym e))
  | inr some ↦ rw some refl
]

cell-told : (n : ℕ) → pair (unless_zero (last_in n)) (unless_zero (commitment_in n)) ≡ n
cell-told n = rw (number-told (last_in n), number-told (commitment_in n)) (omega arith)

told : (row : List ℕ) → length row ≡ CELLS → rings_cells (rings_in row) ≡ row
unfolding rings_in
told (a ∷ (b ∷ (c ∷ (d ∷ [])))) full = rw (cell-told a, cell-told b, number-told d) refl
told (a ∷ (b ∷ (c ∷ (d ∷ (e ∷ rest))))) full = absurd (omega arith)
told [] full = absurd (omega arith)
told (a ∷ []) full = absurd (omega arith)
told (a ∷ (b ∷ [])) full = absurd (omega arith)
told (a ∷ (b ∷ (c ∷ []))) full = absurd (omega arith)

pub rows-told : (row : List ℕ) → IsBy row → rings_cells (rings_in row) ≡ row
rows-told row by = told row by.full

-- ## States

number-read : (n : ℕ) (o : Option ℕ) → IfSome o (IsUpTo n) → unless_zero (or_number o 0) ≡ o
number-read n None h = refl
number-read n (Some k) h =
    elim (cases_Bool (k == 0)) [
      | inl none ↦ (let e : k ≡ 0 = eqb-true k 0 none in absurd (omega (arith, e, h.0)))
      | inr some ↦ rw some refl
    ]

number-most : (n : ℕ) (o : Option ℕ) → IfSome o (IsUpTo n) → or_number o 0 ≤ n
number-most n None h = omega arith
number-most n (Some k) h = h.1

whole : (s : State) → state_with (s.last Ring1) (s.last Ring2) (s.commitment Ring1) (s.commitment Ring2) s.side s.crossing ≡ s
whole s = same_state _ _ last commitment refl refl
  where
    last : (r : Ring) → either (s.last Ring1) (s.last Ring2) r ≡ s.last r
    last Ring1 = refl
    last Ring2 = refl

    commitment : (r : Ring) → either (s.commitment Ring1) (s.commitment Ring2) r ≡ s.commitment r
    commitment Ring1 = refl
    commitment Ring2 = refl

-- what the cell of a ring says of what was written into it
module _ (last commitment : Option ℕ) (of : IfSome last (IsUpTo 16)) (to : IfSome commitment (IsUpTo 16)) where
  last-is : last_in (pair last commitment) ≡ or_number last 0
  last-is = let most : or_number last 0 ≤ 16 = number-most 16 last of in omega (arith, most)

  commitment-is : commitment_in (pair last commitment) ≡ or_number commitment 0
  commitment-is = let most : or_number last 0 ≤ 16 = number-most 16 last of in omega (arith, most)

  pub last-read : unless_zero (last_in (pair last commitment)) ≡ last
  last-read = ap unless_zero last-is ∙ number-read 16 last of

  pub commitment-read : unless_zero (commitment_in (pair last commitment)) ≡ commitment
  commitment-read = ap unless_zero commitment-is ∙ number-read 16 commitment to

  pub ring-by : IsRingCell (pair last commitment)
  ring-by = record {
    last = (let most : or_number last 0 ≤ 16 = number-most 16 last of in omega (arith, most, last-is));
    commitment = (let most : or_number commitment 0 ≤ 16 = number-most 16 commitment to in omega (arith, most, commitment-is));
  }

pub states-read : (s : State) → IsInRange s → rings_in (rings_cells s) ≡ s
states-read s is =
    state-written (rings_cells s) _ _ _ _ (s.last Ring1) (s.last Ring2) (s.commitment Ring1) (s.commitment Ring2) s.side s.crossing refl
    (last-read _ _ (is.last Ring1) (is.commitment Ring1)) (last-read _ _ (is.last Ring2) (is.commitment Ring2))
    (commitment-read _ _ (is.last Ring1) (is.commitment Ring1)) (commitment-read _ _ (is.last Ring2) (is.commitment Ring2))
    refl (number-read 4 s.crossing is.crossing)
    ∙ whole s

pub states-by : (s : State) → IsInRange s → IsBy (rings_cells s)
states-by s is =
    by-written (rings_cells s) _ _ _ _ refl
    (ring-by _ _ (is.last Ring1) (is.commitment Ring1)) (ring-by _ _ (is.last Ring2) (is.commitment Ring2))
    is.side.0 is.side.1 (number-most 4 s.crossing is.crossing)
