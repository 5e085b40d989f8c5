-- Which entries a difference has, and in what order.
use Rattle.std.proofs.Common.{◌≡◌, ℕ, ◌+◌, ◌<◌, ◌≤◌, ◌==◌, List, [], ◌∷◌, length, true, false, if◌then◌else◌, Some, refl, sym, ◌∙◌, ap, subst, arith, inl, inr, zero, suc}
use Rattle.std.specs.Prelude.{All, AllPairs, Contains}
use Rattle.std.proofs.lemmas.Bool.Decides.{eqb_tells}
use Rattle.std.proofs.lemmas.Option.{same_Some, none-some}
use Rattle.std.proofs.lemmas.List.Elements.{All-nil, All-cons, All-contains, All-weaker}
use Rattle.std.proofs.lemmas.List.Kept.{AllPairs-cons}
use Rattle.tsb_cells.specs.Diff.{diff_from, diff}
use Rattle.tsb_cells.specs.DiffLaws.{IsChange, TellsEachChange, Ascends}

-- an entry whose cell, numbered from `i`, changed
IsChangeFrom : ℕ → List ℕ → List ℕ → ℕ × ℕ → Type 0
IsChangeFrom i before now e = (j : ℕ) × (e.0 ≡ i + j) × IsChange before now j e.1

-- each entry is of a cell that changed
All-diff_from : (i : ℕ) (before now : List ℕ) → All (IsChangeFrom i before now) (diff_from i before now)
unfolding IsChangeFrom
All-diff_from i [] now = All-nil (IsChangeFrom i [] now)
All-diff_from i (x ∷ before) [] = All-nil (IsChangeFrom i (x ∷ before) [])
All-diff_from i (x ∷ before) (y ∷ now) =
    let rest : All (IsChangeFrom i (x ∷ before) (y ∷ now)) (diff_from (i + 1) before now) =
    All-weaker (IsChangeFrom (i + 1) before now) (IsChangeFrom i (x ∷ before) (y ∷ now))
    (λ e h. (suc h.0, omega (arith, h.1), record { was = h.2.was; changed = h.2.changed }))
    (diff_from (i + 1) before now) (All-diff_from (i + 1) before now) in
    elim (eqb_tells x y) [
      | inl same ↦ rw same.0 rest
      | inr other ↦ rw other.0 (All-cons (IsChangeFrom i (x ∷ before) (y ∷ now)) (i, x) (diff_from (i + 1) before now)
          (0, omega arith, record { was = refl; changed = λ h. other.1 (sym (same_Some y x h)) }) rest)
    ]

Contains-cons : (e f : ℕ × ℕ) (es : List (ℕ × ℕ)) → Contains es e → Contains (f ∷ es) e
Contains-cons e f es h = (suc h.0, omega (arith, h.1), h.2)

-- each cell that changed has its entry
Contains-diff_from : (i j v : ℕ) (before now : List ℕ) → length before ≡ length now → IsChange before now j v →
    Contains (diff_from i before now) (i + j, v)
Contains-diff_from i j v [] now l h = absurd (none-some v h.was)
Contains-diff_from i j v (x ∷ before) [] l h = absurd (omega arith)
Contains-diff_from i zero v (x ∷ before) (y ∷ now) l h =
    let held : x ≡ v = same_Some x v h.was in
    let index : i ≡ i + 0 = omega arith in
    elim (eqb_tells x y) [
      | inl same ↦ absurd (h.changed (ap (λ (n : ℕ). Some n) (sym same.1 ∙ held)))
      | inr other ↦ rw other.0 (0, omega arith, ap (λ (n : ℕ). (n, x)) index ∙ ap (λ (n : ℕ). (i + 0, n)) held)
    ]
Contains-diff_from i (suc j) v (x ∷ before) (y ∷ now) l h =
    let index : i + 1 + j ≡ i + suc j = omega arith in
    let rest : Contains (diff_from (i + 1) before now) (i + suc j, v) =
    subst (λ (n : ℕ). Contains (diff_from (i + 1) before now) (n, v)) index
    (Contains-diff_from (i + 1) j v before now (omega arith) (record { was = h.was; changed = h.changed })) in
    elim (x == y) as (λ t. Contains (if t then diff_from (i + 1) before now else ((i, x) ∷ diff_from (i + 1) before now)) (i + suc j, v)) [
      | true ↦ rest
      | false ↦ Contains-cons (i + suc j, v) (i, x) (diff_from (i + 1) before now) rest
    ]

is_change : (i v : ℕ) (before now : List ℕ) → IsChangeFrom 0 before now (i, v) → IsChange before now i v
unfolding IsChangeFrom
is_change i v before now h =
    let index : h.0 ≡ i = omega (arith, h.1) in
    subst (λ (n : ℕ). IsChange before now n v) index h.2

pub tells_each_change : TellsEachChange
tells_each_change before now l i v = (
  λ h. is_change i v before now (All-contains (IsChangeFrom 0 before now) (diff before now) (i, v) (All-diff_from 0 before now) h),
  λ h. let index : 0 + i ≡ i = omega arith in
      subst (λ (n : ℕ). Contains (diff before now) (n, v)) index (Contains-diff_from 0 i v before now l h),
)

-- entries of cells from `i` on
All-from : (i : ℕ) (before now : List ℕ) → All (λ (e : ℕ × ℕ). i ≤ e.0) (diff_from i before now)
unfolding IsChangeFrom
All-from i before now =
    All-weaker (IsChangeFrom i before now) (λ (e : ℕ × ℕ). i ≤ e.0) (λ e h. omega (arith, h.1)) (diff_from i before now) (All-diff_from i before now)

pub ascends_from : (i : ℕ) (before now : List ℕ) → AllPairs (λ (e f : ℕ × ℕ). e.0 < f.0) (diff_from i before now)
ascends_from i [] now = λ j k d l m. absurd (omega (arith, m))
ascends_from i (x ∷ before) [] = λ j k d l m. absurd (omega (arith, m))
ascends_from i (x ∷ before) (y ∷ now) =
    let later : All (λ (f : ℕ × ℕ). i < f.0) (diff_from (i + 1) before now) =
    All-weaker (λ (f : ℕ × ℕ). i + 1 ≤ f.0) (λ (f : ℕ × ℕ). i < f.0) (λ f h. omega (arith, h)) (diff_from (i + 1) before now) (All-from (i + 1) before now) in
    let rest : AllPairs (λ (e f : ℕ × ℕ). e.0 < f.0) (diff_from (i + 1) before now) = ascends_from (i + 1) before now in
    elim (x == y) as (λ t. AllPairs (λ (e f : ℕ × ℕ). e.0 < f.0) (if t then diff_from (i + 1) before now else ((i, x) ∷ diff_from (i + 1) before now))) [
      | true ↦ rest
      | false ↦ AllPairs-cons (λ (e f : ℕ × ℕ). e.0 < f.0) (i, x) (diff_from (i + 1) before now) later rest
    ]

pub ascends : Ascends
ascends before now = ascends_from 0 before now
