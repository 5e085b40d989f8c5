-- The difference of two rows, step by step: what it is within, that rows that agree have none, and that it
-- gives back what the row was.
use Rattle.std.proofs.Common.{◌≡◌, ℕ, ◌+◌, ◌<◌, ◌≤◌, ◌==◌, List, [], ◌∷◌, ◌++◌, length, true, false, if◌then◌else◌, set, refl, sym, ◌∙◌, ap, arith, append_assoc, inl, inr, eq-eqb, length-set}
use Rattle.std.proofs.lemmas.Bool.Decides.{eqb_tells}
use Rattle.std.proofs.lemmas.Grind.{common_steps}
use Rattle.std.proofs.lemmas.List.{set_at, length_push}
use Rattle.std.proofs.lemmas.List.Elements.{All-nil, All-cons}
use Rattle.tsb_cells.specs.Diff.{diff_from, diff, apply_diff, AreWithin, shifted}

-- a difference has at most one entry for each cell
pub length-diff_from : (i : ℕ) (before now : List ℕ) → length (diff_from i before now) ≤ length before
length-diff_from i [] now = omega arith
length-diff_from i (x ∷ before) [] = omega arith
length-diff_from i (x ∷ before) (y ∷ now) =
    elim (x == y) as (λ t. length (if t then diff_from (i + 1) before now else ((i, x) ∷ diff_from (i + 1) before now)) ≤ length (x ∷ before)) [
      | true ↦ omega (arith, length-diff_from (i + 1) before now)
      | false ↦ omega (arith, length-diff_from (i + 1) before now)
    ]

pub length-diff : (before now : List ℕ) → length (diff before now) ≤ length before
length-diff before now = length-diff_from 0 before now

-- the cells that a difference names are those of the row
pub AreWithin-diff_from : (i n : ℕ) (before now : List ℕ) → i + length before ≤ n → AreWithin n (diff_from i before now)
AreWithin-diff_from i n [] now h = All-nil (λ (e : ℕ × ℕ). e.0 < n)
AreWithin-diff_from i n (x ∷ before) [] h = All-nil (λ (e : ℕ × ℕ). e.0 < n)
AreWithin-diff_from i n (x ∷ before) (y ∷ now) h =
    let rest : AreWithin n (diff_from (i + 1) before now) = AreWithin-diff_from (i + 1) n before now (omega arith) in
    elim (x == y) as (λ t. AreWithin n (if t then diff_from (i + 1) before now else ((i, x) ∷ diff_from (i + 1) before now))) [
      | true ↦ rest
      | false ↦ All-cons (λ (e : ℕ × ℕ). e.0 < n) (i, x) (diff_from (i + 1) before now) (omega arith) rest
    ]

pub AreWithin-diff : (n : ℕ) (before now : List ℕ) → length before ≤ n → AreWithin n (diff before now)
AreWithin-diff n before now h = AreWithin-diff_from 0 n before now (omega arith)

-- putting values into cells leaves as many cells
pub length-apply_diff : (cells : List ℕ) (es : List (ℕ × ℕ)) → length (apply_diff cells es) ≡ length cells
length-apply_diff cells [] = refl
length-apply_diff cells (e ∷ es) = length-apply_diff (set cells e.0 e.1) es ∙ simp length-set

-- for a function whose caller puts entries back
pub ruleset lengths = (length-apply_diff)

apply_step : (done before now : List ℕ) (x y : ℕ) →
    apply_diff (done ++ x ∷ now) (diff_from (length done + 1) before now) ≡ done ++ x ∷ before →
    apply_diff (done ++ y ∷ now) (diff_from (length done) (x ∷ before) (y ∷ now)) ≡ done ++ x ∷ before
apply_step done before now x y moved =
    elim (eqb_tells x y) [
      | inl same ↦ rw same.0 (rw (← same.1) moved)
      | inr other ↦ rw other.0 (let put : set (done ++ y ∷ now) (length done) x ≡ done ++ x ∷ now = set_at done y now x (length done) refl in ap (λ (row : List ℕ). apply_diff row (diff_from (length done + 1) before now)) put ∙ moved)
    ]

-- the difference, put into a row that begins with `done` and goes on as `now`, gives `before` there
pub apply_diff-diff_from : (done before now : List ℕ) → length before ≡ length now →
    apply_diff (done ++ now) (diff_from (length done) before now) ≡ done ++ before
apply_diff-diff_from done [] [] h = refl
apply_diff-diff_from done [] (y ∷ now) h = absurd (omega arith)
apply_diff-diff_from done (x ∷ before) [] h = absurd (omega arith)
apply_diff-diff_from done (x ∷ before) (y ∷ now) h =
    let longer : length (done ++ x ∷ []) ≡ length done + 1 = length_push done x in
    let rest : apply_diff ((done ++ x ∷ []) ++ now) (diff_from (length (done ++ x ∷ [])) before now) ≡ (done ++ x ∷ []) ++ before =
    apply_diff-diff_from (done ++ x ∷ []) before now (omega arith) in
    apply_step done before now x y (simp (append_assoc, longer) at rest)

-- what a row was, from what it is and the difference
pub apply_diff-diff : (before now : List ℕ) → length before ≡ length now → apply_diff now (diff before now) ≡ before
apply_diff-diff before now h = apply_diff-diff_from [] before now h

-- equal rows have no difference
pub diff_from-same : (i : ℕ) (row : List ℕ) → diff_from i row row ≡ []
diff_from-same i [] = refl
diff_from-same i (x ∷ row) = rw (eq-eqb x x refl) (diff_from-same (i + 1) row)

pub diff-same : (row : List ℕ) → diff row row ≡ []
diff-same row = diff_from-same 0 row

-- two lists that are each followed by a difference are as long with it
pub length-followed : (es first ds whole : List (ℕ × ℕ)) (offset : ℕ) → es ++ shifted offset ds ≡ first ++ shifted offset whole →
    length es + length ds ≡ length first + length whole
length-followed es first ds whole offset found = sym (both es ds) ∙ ap length found ∙ both first whole
  where
    both : (xs ys : List (ℕ × ℕ)) → length (xs ++ shifted offset ys) ≡ length xs + length ys
    both xs ys = grind (arith, common_steps)
