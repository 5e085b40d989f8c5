-- What one write leaves of the lists and columns of a row.
use Rattle.std.proofs.Common.{◌≡◌, ◌≢◌, ℕ, ◌+◌, ◌*◌, ◌≤◌, ◌==◌, if◌then◌else◌, List, slice_index, sym, arith, inl, inr}
use Rattle.std.proofs.lemmas.Bool.Decides.{eqb_tells}
use Rattle.tsb_cells.specs.Lists.{Elsewhere}

-- each column of a number where that of kind k is written; the first column stands after the cell o
pub cell-put : (o : ℕ) (old new : List ℕ) (k j p value : ℕ) → slice_index new (o + 16 * k + p) ≡ value → Elsewhere (o + 16 * k + p) old new →
    slice_index new (o + 16 * j + p) ≡ (if k == j then value else slice_index old (o + 16 * j + p))
cell-put o old new k j p value here same =
    elim (eqb_tells k j) [
      | inl is ↦ rw (is.0, sym is.1) here
      | inr other ↦ rw other.0 (same (o + 16 * j + p) (λ e. other.1 (omega (arith, e))))
    ]

-- a column's cells are none of the lists, which are the cells up to o
pub cell-apart : (o k i p : ℕ) → k ≤ o → 1 ≤ p → o + i + p ≢ k
cell-apart o k i p below from e = omega (arith, below, from, e)

pub list-apart : (o k j p : ℕ) → j ≤ o → 1 ≤ p → j ≢ o + 16 * k + p
list-apart o k j p below from e = omega (arith, below, from, e)

-- cells of two numbers are two
pub cells-apart : (o k j p q : ℕ) → 1 ≤ p → p ≤ 16 → 1 ≤ q → q ≤ 16 → q ≢ p → o + 16 * j + q ≢ o + 16 * k + p
cells-apart o k j p q a b c d other e = other (omega (arith, a, b, c, d, e))
