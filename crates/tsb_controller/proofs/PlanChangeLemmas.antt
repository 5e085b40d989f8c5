-- One cell at a time: the steps of loops over the cells of two plans.
use Rattle.std.proofs.Common.{zero, suc, ◌≡◌, ◌≢◌, ℕ, ◌+◌, ◌*◌, ◌<◌, ◌≤◌, min, List, [], ◌∷◌, ◌++◌, length, get_or, drop, sym, ap, arith, ◌∙◌, append_assoc, refl, inl, inr}
use Rattle.std.proofs.lemmas.Bool.{cases_lt}
use Rattle.std.proofs.lemmas.Bool.Decides.{eqb_tells}
use Rattle.std.proofs.lemmas.List.{drop_more, drop_all}
use Rattle.tsb_cells.specs.Diff.{diff_from}

-- the cell `k` differs, and comes first in what the rows from it on give
differs : (k : ℕ) (before after : List ℕ) → k < length before → k < length after → get_or before k 0 ≢ get_or after k 0 →
    diff_from k (drop k before) (drop k after) ≡ (k, get_or before k 0) ∷ diff_from (k + 1) (drop (k + 1) before) (drop (k + 1) after)
differs k before after within also apart =
    rw (drop_more before k 0 within, drop_more after k 0 also)
    (elim (eqb_tells (get_or before k 0) (get_or after k 0)) [ inl same ↦ absurd (apart same.1) | inr other ↦ rw other.0 refl ])

-- the cell `k` does not differ, and is passed over
agrees : (k : ℕ) (before after : List ℕ) → k < length before → k < length after → get_or before k 0 ≡ get_or after k 0 →
    diff_from k (drop k before) (drop k after) ≡ diff_from (k + 1) (drop (k + 1) before) (drop (k + 1) after)
agrees k before after within also same =
    rw (drop_more before k 0 within, drop_more after k 0 also)
    (elim (eqb_tells (get_or before k 0) (get_or after k 0)) [ inl it ↦ rw it.0 refl | inr other ↦ absurd (other.1 same) ])

-- the loop that adds differences goes on by a cell that differs, or by one that does not
pub difference-taken : (k : ℕ) (before after : List ℕ) (out grown whole : List (ℕ × ℕ)) (x y : ℕ) → k < length before → k < length after →
    x ≡ get_or before k 0 → y ≡ get_or after k 0 → x ≢ y → grown ≡ out ++ (k, x) ∷ [] →
    out ++ diff_from k (drop k before) (drop k after) ≡ whole → grown ++ diff_from (k + 1) (drop (k + 1) before) (drop (k + 1) after) ≡ whole
difference-taken k before after out grown whole x y within also old new apart grows found =
    let rest : List (ℕ × ℕ) = diff_from (k + 1) (drop (k + 1) before) (drop (k + 1) after) in
    let step : diff_from k (drop k before) (drop k after) ≡ (k, get_or before k 0) ∷ rest =
    differs k before after within also (λ e. apart (old ∙ e ∙ sym new)) in
    ap (λ (es : List (ℕ × ℕ)). es ++ rest) grows
    ∙ append_assoc out ((k, x) ∷ []) rest
    ∙ ap (λ (v : ℕ). out ++ (k, v) ∷ rest) old
    ∙ ap (λ (es : List (ℕ × ℕ)). out ++ es) (sym step) ∙ found

pub difference-left : (k : ℕ) (before after : List ℕ) (out whole : List (ℕ × ℕ)) (x y : ℕ) → k < length before → k < length after →
    x ≡ get_or before k 0 → y ≡ get_or after k 0 → x ≡ y →
    out ++ diff_from k (drop k before) (drop k after) ≡ whole → out ++ diff_from (k + 1) (drop (k + 1) before) (drop (k + 1) after) ≡ whole
difference-left k before after out whole x y within also old new same found =
    ap (λ (es : List (ℕ × ℕ)). out ++ es) (sym (agrees k before after within also (sym old ∙ same ∙ new))) ∙ found

-- cells that do not differ are passed over
pub passed-over : (n k : ℕ) (before after : List ℕ) → k + n ≤ length before → k + n ≤ length after →
    ((j : ℕ) → k ≤ j → j < k + n → get_or before j 0 ≡ get_or after j 0) →
    diff_from k (drop k before) (drop k after) ≡ diff_from (k + n) (drop (k + n) before) (drop (k + n) after)
passed-over zero k before after within also same =
    ap (λ (m : ℕ). diff_from m (drop m before) (drop m after)) (let e : k ≡ k + 0 = omega arith in e)
passed-over (suc n) k before after within also same =
    agrees k before after (omega (arith, within)) (omega (arith, also)) (same k (omega arith) (omega arith))
    ∙ passed-over n (k + 1) before after (omega (arith, within)) (omega (arith, also)) (λ j from below. same j (omega (arith, from)) (omega (arith, below)))
    ∙ ap (λ (m : ℕ). diff_from m (drop m before) (drop m after)) (let e : k + 1 + n ≡ k + suc n = omega arith in e)

-- after the last cell none is left
pub none-left : (k : ℕ) (before after : List ℕ) → length before ≤ k → diff_from k (drop k before) (drop k after) ≡ []
none-left k before after over = rw (drop_all k before over) refl

-- the end of block `b` of 64 cells is where the next begins, or the last cell is before both
pub to-next : (b e n : ℕ) (before after : List ℕ) → length before ≡ n → e ≡ min (b * 64 + 64) n →
    diff_from e (drop e before) (drop e after) ≡ diff_from ((b + 1) * 64) (drop ((b + 1) * 64) before) (drop ((b + 1) * 64) after)
to-next b e n before after full end =
    elim (cases_lt n (b * 64 + 64)) [
      | inl over ↦
          let whole : e ≡ n = omega (arith, end, over) in
          none-left e before after (omega (arith, whole, full)) ∙ sym (none-left ((b + 1) * 64) before after (omega (arith, over, full)))
      | inr within ↦ ap (λ (m : ℕ). diff_from m (drop m before) (drop m after)) (let same : e ≡ (b + 1) * 64 = omega (arith, end, within) in same)
    ]
