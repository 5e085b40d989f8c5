-- The runs of a list, as they are written one after the other.
use Rattle.std.proofs.Common.{◌≡◌, ◌∙◌, ◌⊎◌, ℕ, ◌+◌, ◌-◌, ◌<◌, ◌≤◌, Bool, true, false, zero, suc, List, [], ◌∷◌, ◌++◌, append_assoc, refl, sym, ap, arith, eqb, inl, inr, codes, if◌then◌else◌}
use Rattle.std.proofs.lemmas.Bool.Decides.{eqb_tells}
use Rattle.tsb_lines.specs.ShortLines.{Adds, fitting}
use Rattle.tsb_lines.proofs.ShortLemmas.{onto-fitting, then}
use Rattle.tsb_log_text.specs.ListText.{item_text, items_behind, later_items, onto_runs, run_end, runs_from}
use Rattle.tsb_log_text.specs.declared.list_line.TheConstants.{LISTS_LINE}
use Rattle.tsb_log_text.proofs.ListLemmas.{run-more}

pub is-either : (b : Bool) → (b ≡ true) ⊎ (b ≡ false)
is-either true = inl refl
is-either false = inr refl

-- a later number
pub not-next : (n m : ℕ) → n + 1 < m → eqb m (n + 1) ≡ false
not-next n m lt = elim (eqb_tells m (n + 1)) [ inl z ↦ absurd (let e : m ≡ n + 1 = z.1 in omega (arith, e, lt)) | inr z ↦ z.0 ]

-- a number before runs that begin later
onto-later : (n m : ℕ) (rs : List (ℕ × ℕ)) → n + 1 < m → onto_runs n (onto_runs m rs) ≡ (n, n) ∷ onto_runs m rs
onto-later n m [] lt = rw (not-next n m lt) refl
onto-later n m (r ∷ rs) lt = elim (eqb_tells (r.0) (m + 1)) [ inl z ↦ rw (z.0, not-next n m lt) refl | inr z ↦ rw (z.0, not-next n m lt) refl ]

later-runs : (n m left : ℕ) (on : ℕ → Bool) → n + 1 < m → onto_runs n (runs_from m left on) ≡ (n, n) ∷ runs_from m left on
later-runs n m zero on lt = refl
later-runs n m (suc left) on lt = elim (is-either (on m)) [
  | inl z ↦ rw z (onto-later n m (runs_from (m + 1) left on) lt)
  | inr z ↦ rw z (later-runs n (m + 1) left on (omega (arith, lt)))
]

-- a number just before the first run
pub onto-next : (n k : ℕ) (rs : List (ℕ × ℕ)) → onto_runs n ((n + 1, k) ∷ rs) ≡ (n, k) ∷ rs
onto-next n k rs = elim (eqb_tells (n + 1) (n + 1)) [ inl z ↦ rw z.0 refl | inr z ↦ absurd (z.1 refl) ]

-- the first run of a list whose first number is on
abbrev Runs : ℕ → ℕ → (ℕ → Bool) → Type 0
Runs n left on = runs_from n (suc left) on ≡ (n, run_end n left on) ∷ runs_from (run_end n left on + 1) (n + left - run_end n left on) on

goes-on : (n left : ℕ) (on : ℕ → Bool) → on n ≡ true → on (n + 1) ≡ true → Runs (n + 1) left on → Runs n (suc left) on
goes-on n left on e z h =
    let k : ℕ = run_end (n + 1) left on in
    let count : n + 1 + left ≡ n + suc left = omega arith in
    let begin : runs_from n (suc (suc left)) on ≡ onto_runs n (runs_from (n + 1) (suc left) on) = rw e refl in
    begin ∙ ap (onto_runs n) h ∙ onto-next n k (runs_from (k + 1) (n + 1 + left - k) on)
    ∙ ap (λ (m : ℕ). (n, k) ∷ runs_from (k + 1) (m - k) on) count
    ∙ ap (λ (m : ℕ). (n, m) ∷ runs_from (m + 1) (n + suc left - m) on) (sym (run-more n left on z))

ends-here : (n left : ℕ) (on : ℕ → Bool) → on n ≡ true → on (n + 1) ≡ false → Runs n (suc left) on
ends-here n left on e z =
    let all : suc left ≡ n + suc left - n = omega arith in
    let skip : runs_from (n + 1 + 1) left on ≡ runs_from (n + 1) (suc left) on = rw z refl in
    let stop : n ≡ run_end n (suc left) on = rw z refl in
    let begin : runs_from n (suc (suc left)) on ≡ onto_runs n (runs_from (n + 1) (suc left) on) = rw e refl in
    begin ∙ ap (onto_runs n) (sym skip) ∙ later-runs n (n + 1 + 1) left on (omega arith)
    ∙ ap (λ (rs : List (ℕ × ℕ)). (n, n) ∷ rs) (skip ∙ ap (λ (k : ℕ). runs_from (n + 1) k on) all)
    ∙ ap (λ (m : ℕ). (n, m) ∷ runs_from (m + 1) (n + suc left - m) on) stop

runs-run : (n left : ℕ) (on : ℕ → Bool) → on n ≡ true → Runs n left on
runs-run n zero on e = let none : zero ≡ n + zero - n = omega arith in rw e (ap (λ (k : ℕ). (n, n) ∷ runs_from (n + 1) k on) none)
runs-run n (suc left) on e = elim (is-either (on (n + 1))) [
  | inl z ↦ goes-on n left on e z (runs-run (n + 1) left on z)
  | inr z ↦ ends-here n left on e z
]

-- a run is written, and the runs that follow are left
pub runs-step : (most n end : ℕ) (on : ℕ → Bool) → n ≤ most → on n ≡ true → end ≡ run_end n (most - n) on
    → runs_from n (most + 1 - n) on ≡ (n, end) ∷ runs_from (end + 1) (most + 1 - (end + 1)) on
runs-step most n end on within e is =
    let all : most + 1 - n ≡ suc (most - n) = omega (arith, within) in
    let left : n + (most - n) - end ≡ most + 1 - (end + 1) = omega (arith, within) in
    ap (λ (k : ℕ). runs_from n k on) all ∙ runs-run n (most - n) on e
    ∙ ap (λ (m : ℕ). (n, m) ∷ runs_from (m + 1) (n + (most - n) - m) on) (sym is)
    ∙ ap (λ (k : ℕ). (n, end) ∷ runs_from (end + 1) k on) left

off-step : (n left : ℕ) (on : ℕ → Bool) → on n ≡ false → runs_from n (suc left) on ≡ runs_from (n + 1) left on
off-step n left on e = rw e refl

-- a number that is off
pub skip-step : (most n : ℕ) (on : ℕ → Bool) → n ≤ most → on n ≡ false → runs_from n (most + 1 - n) on ≡ runs_from (n + 1) (most + 1 - (n + 1)) on
skip-step most n on within e =
    let all : most + 1 - n ≡ suc (most - n) = omega (arith, within) in
    let left : most - n ≡ most + 1 - (n + 1) = omega (arith, within) in
    ap (λ (k : ℕ). runs_from n k on) all ∙ off-step n (most - n) on e ∙ ap (λ (k : ℕ). runs_from (n + 1) k on) left

-- ## What is left to be written

-- the text of the runs that are left: after the letter, or after others
abbrev pub left_text : Bool → List ℕ → List (ℕ × ℕ) → List ℕ
left_text true letter rs = items_behind letter rs
left_text false letter rs = later_items rs

left-is : (b : Bool) (letter : List ℕ) (r : ℕ × ℕ) (rs : List (ℕ × ℕ)) → (if b then letter else codes ",") ++ item_text r ++ later_items rs ≡ left_text b letter (r ∷ rs)
left-is true letter r rs = refl
left-is false letter r rs = refl

-- an item is written after what comes before it
pub item-step : (b : Bool) (letter : List ℕ) (r : ℕ × ℕ) (rs : List (ℕ × ℕ)) (old mid new : List ℕ)
    → Adds LISTS_LINE old (if b then letter else codes ",") mid → Adds LISTS_LINE mid (item_text r) new
    → fitting LISTS_LINE (new ++ later_items rs) ≡ fitting LISTS_LINE (old ++ left_text b letter (r ∷ rs))
item-step b letter r rs old mid new first second =
    let before : List ℕ = if b then letter else codes "," in
    let item : List ℕ = item_text r in
    let both : Adds LISTS_LINE old (before ++ item) new = (then) first second in
    ap (λ (ts : List ℕ). fitting LISTS_LINE (ts ++ later_items rs)) both.line
    ∙ onto-fitting LISTS_LINE (old ++ (before ++ item)) (later_items rs)
    ∙ ap (fitting LISTS_LINE) (append_assoc old (before ++ item) (later_items rs))
    ∙ ap (λ (ts : List ℕ). fitting LISTS_LINE (old ++ ts)) (left-is b letter r rs)
