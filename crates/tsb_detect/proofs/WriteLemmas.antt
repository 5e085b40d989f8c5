-- What one write leaves of the lists and columns of a row of detectors.
use Rattle.std.proofs.Common.{◌≡◌, ◌≢◌, ℕ, ◌+◌, ◌*◌, ◌%◌, ◌≤◌, ◌<◌, ◌==◌, Bool, if◌then◌else◌, List, slice_index, sym, ap₂, arith, inl, inr}
use Rattle.std.proofs.lemmas.Bool.Decides.{eqb_tells}
use Rattle.tsb_objects.specs.tsb_types.declared.limits.TheConstants.{VEHICLE_DETECTORS}
use Rattle.tsb_objects.specs.tsb_types.Sets.{names, wide_list_in}
use Rattle.tsb_cells.specs.Lists.{Elsewhere, ElsewhereThan}

-- a list whose two cells are as they were
pub list-same : (old new : List ℕ) (k d : ℕ) → slice_index new k ≡ slice_index old k → slice_index new (k + 1) ≡ slice_index old (k + 1) →
    names (wide_list_in new k) d ≡ names (wide_list_in old k) d
list-same old new k d low high = ap₂ (λ (x y : ℕ). names (x % 4294967296 + 4294967296 * (y % 4294967296)) d) low high

-- a list that is not written, where one cell is
pub list-kept : (old new : List ℕ) (at k d : ℕ) → k ≢ at → k + 1 ≢ at → Elsewhere at old new →
    names (wide_list_in new k) d ≡ names (wide_list_in old k) d
list-kept old new at k d low high same = list-same old new k d (same k low) (same (k + 1) high)

-- a list that is not written, where another one is
pub other-kept : (old new : List ℕ) (k j d : ℕ) → j ≢ k → ElsewhereThan (2 * k) old new →
    names (wide_list_in new (2 * j)) d ≡ names (wide_list_in old (2 * j)) d
other-kept old new k j d other same =
    list-same old new (2 * j) d
    (same (2 * j) (λ e. other (omega (arith, e))) (λ e. absurd (omega (arith, e))))
    (same (2 * j + 1) (λ e. absurd (omega (arith, e))) (λ e. other (omega (arith, e))))

-- each list where list k is written
pub list-put : (old new : List ℕ) (k j d : ℕ) (on : Bool) → names (wide_list_in new (2 * k)) d ≡ on → ElsewhereThan (2 * k) old new →
    names (wide_list_in new (2 * j)) d ≡ (if k == j then on else names (wide_list_in old (2 * j)) d)
list-put old new k j d on here same =
    elim (eqb_tells k j) [
      | inl is ↦ rw (is.0, sym is.1) here
      | inr other ↦ rw other.0 (other-kept old new k j d (λ e. other.1 (sym e)) same)
    ]

-- each list where list k is written, and says the same of the detector
pub list-still : (old new : List ℕ) (k j d : ℕ) → names (wide_list_in new (2 * k)) d ≡ names (wide_list_in old (2 * k)) d → ElsewhereThan (2 * k) old new →
    names (wide_list_in new (2 * j)) d ≡ names (wide_list_in old (2 * j)) d
list-still old new k j d here same =
    elim (eqb_tells k j) [ inl is ↦ rw (sym is.1) here | inr other ↦ other-kept old new k j d (λ e. other.1 (sym e)) same ]

-- each column of a detector where that of kind k is written
pub cell-put : (old new : List ℕ) (k j d value : ℕ) → slice_index new (11 + VEHICLE_DETECTORS * k + d) ≡ value →
    Elsewhere (11 + VEHICLE_DETECTORS * k + d) old new →
    slice_index new (11 + VEHICLE_DETECTORS * j + d) ≡ (if k == j then value else slice_index old (11 + VEHICLE_DETECTORS * j + d))
cell-put old new k j d value here same =
    elim (eqb_tells k j) [
      | inl is ↦ rw (is.0, sym is.1) here
      | inr other ↦ rw other.0 (same (11 + VEHICLE_DETECTORS * j + d) (λ e. other.1 (omega (arith, e))))
    ]

-- a column's cells are none of the lists, which are the cells up to 11
pub cell-apart : (k j d : ℕ) → k < 6 → 1 ≤ d → (11 + VEHICLE_DETECTORS * j + d ≢ 2 * k) × (11 + VEHICLE_DETECTORS * j + d ≢ 2 * k + 1)
cell-apart k j d below from = ((λ e. omega (arith, below, from, e)), (λ e. omega (arith, below, from, e)))

pub list-apart : (k at d : ℕ) → at ≤ 11 → 1 ≤ d → at ≢ 11 + VEHICLE_DETECTORS * k + d
list-apart k at d below from e = omega (arith, below, from, e)

-- cells of two detectors are two
pub cells-apart : (k j p q : ℕ) → 1 ≤ p → p ≤ VEHICLE_DETECTORS → 1 ≤ q → q ≤ VEHICLE_DETECTORS → q ≢ p →
    11 + VEHICLE_DETECTORS * j + q ≢ 11 + VEHICLE_DETECTORS * k + p
cells-apart k j p q a b c d other e = other (omega (arith, a, b, c, d, e))
