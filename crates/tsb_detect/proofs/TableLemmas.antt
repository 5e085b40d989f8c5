-- Tables of detectors: a list takes two cells of 32 bits, its lower 32 bits first.
use Rattle.std.proofs.Common.{◌≡◌, ℕ, ◌+◌, ◌-◌, ◌*◌, ◌/◌, ◌%◌, ◌<◌, ◌≤◌, Bool, List, [], ◌∷◌, slice_index, ap, ap₂, ◌∙◌, arith}
use Rattle.tsb_objects.specs.tsb_types.declared.limits.TheConstants.{VEHICLE_DETECTORS}
use Rattle.tsb_objects.specs.tsb_types.Sets.{names, list_of, wide_list_in}
use Rattle.tsb_objects.proofs.tsb_types.SetLemmas.{list_of-names_within, list_of-below, names-list_of, same-list_of}
use Rattle.tsb_detect.specs.Cells.{two_cells}

-- ## A row is the table of what it says

-- two cells of 32 bits make a list of all detectors
wide-below : (a b : ℕ) → a % 4294967296 + 4294967296 * (b % 4294967296) < 18446744073709551616
wide-below a b = omega arith

low-of : (a b : ℕ) → a < 4294967296 → b < 4294967296 → (a % 4294967296 + 4294967296 * (b % 4294967296)) % 4294967296 ≡ a
low-of a b p q = omega (arith, p, q)

high-of : (a b : ℕ) → a < 4294967296 → b < 4294967296 → (a % 4294967296 + 4294967296 * (b % 4294967296)) / 4294967296 ≡ b
high-of a b p q = omega (arith, p, q)

-- a list
pub list-told : (row : List ℕ) (k : ℕ) (test : ℕ → Bool) → slice_index row k < 4294967296 → slice_index row (k + 1) < 4294967296 →
    ((d : ℕ) → 1 ≤ d → d ≤ VEHICLE_DETECTORS → test d ≡ names (wide_list_in row k) d) →
    two_cells test ≡ (slice_index row k ∷ slice_index row (k + 1) ∷ [])
list-told row k test low high same =
    let list : list_of VEHICLE_DETECTORS test ≡ wide_list_in row k =
    same-list_of VEHICLE_DETECTORS test (names (wide_list_in row k)) same
    ∙ list_of-names_within VEHICLE_DETECTORS (wide_list_in row k) (wide-below (slice_index row k) (slice_index row (k + 1))) in
    ap (λ (word : ℕ). word % 4294967296 ∷ word / 4294967296 ∷ []) list
    ∙ ap₂ (λ (x y : ℕ). x ∷ y ∷ []) (low-of _ _ low high) (high-of _ _ low high)

-- ## What a table says

whole-of : (list : ℕ) → list < 18446744073709551616 →
    list % 4294967296 % 4294967296 + 4294967296 * (list / 4294967296 % 4294967296) ≡ list
whole-of list small = omega (arith, small)

-- a list
pub list-read : (row : List ℕ) (k : ℕ) (test : ℕ → Bool) (d : ℕ) → slice_index row k ≡ list_of VEHICLE_DETECTORS test % 4294967296 →
    slice_index row (k + 1) ≡ list_of VEHICLE_DETECTORS test / 4294967296 → 1 ≤ d → d ≤ VEHICLE_DETECTORS →
    names (wide_list_in row k) d ≡ test d
list-read row k test d low high from to =
    ap₂ (λ (x y : ℕ). names (x % 4294967296 + 4294967296 * (y % 4294967296)) d) low high
    ∙ ap (λ (list : ℕ). names list d) (whole-of (list_of VEHICLE_DETECTORS test) (list_of-below VEHICLE_DETECTORS test))
    ∙ names-list_of VEHICLE_DETECTORS d test from to

-- each of its two cells has 32 bits
pub low-small : (list : ℕ) → list % 4294967296 < 4294967296
low-small list = omega arith

pub high-small : (list : ℕ) → list < 18446744073709551616 → list / 4294967296 < 4294967296
high-small list small = omega (arith, small)
