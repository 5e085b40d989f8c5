-- Differences of rows side by side: how they join, and how each row has its part.
use Rattle.std.proofs.Common.{◌≡◌, ℕ, ◌+◌, ◌-◌, ◌<◌, ◌≤◌, ◌==◌, ◌&&◌, List, [], ◌∷◌, ◌++◌, length, set, true, false, cond, leb, ltb, if◌then◌else◌, refl, sym, ◌∙◌, ap, subst, arith, suc, append-nil, length-set, ⊎_elim}
use Rattle.std.proofs.lemmas.List.{set-append_left, set-append_right}
use Rattle.std.proofs.lemmas.List.Elements.{All-nil, All-cons, All-head, All-tail}
use Rattle.std.proofs.lemmas.Bool.{cases_lt, cond_both, cond-true, cond-false}
use Rattle.std.proofs.lemmas.Bool.Decides.{nat_tests}
use Rattle.tsb_cells.specs.Diff.{diff_from, diff, apply_diff, AreWithin, shifted, part}
use Rattle.tsb_cells.specs.DiffLaws.{PartsAreOwn}
use Rattle.tsb_cells.proofs.DiffLemmas.{AreWithin-diff}

-- the cells numbered from a greater number
pub diff_from-add : (offset i : ℕ) (before now : List ℕ) → diff_from (offset + i) before now ≡ shifted offset (diff_from i before now)
diff_from-add offset i [] now = refl
diff_from-add offset i (x ∷ before) [] = refl
diff_from-add offset i (x ∷ before) (y ∷ now) =
    let index : offset + i + 1 ≡ offset + (i + 1) = omega arith in
    let rest : diff_from (offset + i + 1) before now ≡ shifted offset (diff_from (i + 1) before now) =
    ap (λ (n : ℕ). diff_from n before now) index ∙ diff_from-add offset (i + 1) before now in
    elim (x == y) as (λ t. (if t then diff_from (offset + i + 1) before now else ((offset + i, x) ∷ diff_from (offset + i + 1) before now))
    ≡ shifted offset (if t then diff_from (i + 1) before now else ((i, x) ∷ diff_from (i + 1) before now))) [
      | true ↦ rest
      | false ↦ ap (λ (es : List (ℕ × ℕ)). (offset + i, x) ∷ es) rest
    ]

-- the cells numbered from `offset`
pub diff_from-shifted : (offset : ℕ) (before now : List ℕ) → diff_from offset before now ≡ shifted offset (diff before now)
diff_from-shifted offset before now =
    let index : offset ≡ offset + 0 = omega arith in
    ap (λ (n : ℕ). diff_from n before now) index ∙ diff_from-add offset 0 before now

pub diff_from-append : (i : ℕ) (xs ys vs ws : List ℕ) → length xs ≡ length vs →
    diff_from i (xs ++ ys) (vs ++ ws) ≡ diff_from i xs vs ++ diff_from (i + length xs) ys ws
diff_from-append i [] ys [] ws l = ap (λ n. diff_from n ys ws) (let e : i ≡ i + 0 = omega arith in e)
diff_from-append i [] ys (v ∷ vs) ws l = absurd (omega arith)
diff_from-append i (x ∷ xs) ys [] ws l = absurd (omega arith)
diff_from-append i (x ∷ xs) ys (v ∷ vs) ws l =
    let index : i + 1 + length xs ≡ i + suc (length xs) = omega arith in
    let rest : diff_from (i + 1) (xs ++ ys) (vs ++ ws) ≡ diff_from (i + 1) xs vs ++ diff_from (i + suc (length xs)) ys ws =
    diff_from-append (i + 1) xs ys vs ws (omega arith) ∙ ap (λ n. diff_from (i + 1) xs vs ++ diff_from n ys ws) index in
    elim (x == v) as (λ t. (if t then diff_from (i + 1) (xs ++ ys) (vs ++ ws) else ((i, x) ∷ diff_from (i + 1) (xs ++ ys) (vs ++ ws)))
    ≡ (if t then diff_from (i + 1) xs vs else ((i, x) ∷ diff_from (i + 1) xs vs)) ++ diff_from (i + suc (length xs)) ys ws) [
      | true ↦ rest
      | false ↦ ap (λ (es : List (ℕ × ℕ)). (i, x) ∷ es) rest
    ]

-- rows side by side
pub diff-append : (xs ys vs ws : List ℕ) → length xs ≡ length vs → diff (xs ++ ys) (vs ++ ws) ≡ diff xs vs ++ shifted (length xs) (diff ys ws)
diff-append xs ys vs ws l =
    let index : 0 + length xs ≡ length xs = omega arith in
    diff_from-append 0 xs ys vs ws l ∙ ap (λ (n : ℕ). diff xs vs ++ diff_from n ys ws) index
    ∙ ap (λ (es : List (ℕ × ℕ)). diff xs vs ++ es) (diff_from-shifted (length xs) ys ws)

pub shifted-zero : (es : List (ℕ × ℕ)) → shifted 0 es ≡ es
shifted-zero [] = refl
shifted-zero (e ∷ es) =
    let same : 0 + e.0 ≡ e.0 = omega arith in
    ap (λ (n : ℕ). (n, e.1) ∷ shifted 0 es) same ∙ ap (λ (fs : List (ℕ × ℕ)). e ∷ fs) (shifted-zero es)

-- a part has only the cells of its row
pub AreWithin-part : (offset n : ℕ) (es : List (ℕ × ℕ)) → AreWithin n (part offset n es)
AreWithin-part offset n [] = All-nil (λ (e : ℕ × ℕ). e.0 < n)
AreWithin-part offset n (e ∷ es) =
    cond_both (leb offset e.0 && ltb e.0 (offset + n)) ((e.0 - offset, e.1) ∷ part offset n es) (part offset n es) (AreWithin n)
    (λ taken. All-cons (λ (f : ℕ × ℕ). f.0 < n) (e.0 - offset, e.1) (part offset n es) (grind (arith, nat_tests)) (AreWithin-part offset n es))
    (λ left. AreWithin-part offset n es)

-- an entry of the part comes first in it, and any other entry is passed over
part-taken : (offset n : ℕ) (e : ℕ × ℕ) (es : List (ℕ × ℕ)) → offset ≤ e.0 → e.0 < offset + n →
    part offset n (e ∷ es) ≡ (e.0 - offset, e.1) ∷ part offset n es
part-taken offset n e es a b =
    let test : (leb offset e.0 && ltb e.0 (offset + n)) ≡ true = grind (arith, nat_tests) in
    cond-true _ ((e.0 - offset, e.1) ∷ part offset n es) (part offset n es) test

pub part-below : (offset n : ℕ) (e : ℕ × ℕ) (es : List (ℕ × ℕ)) → e.0 < offset → part offset n (e ∷ es) ≡ part offset n es
part-below offset n e es a =
    let test : (leb offset e.0 && ltb e.0 (offset + n)) ≡ false = grind (arith, nat_tests) in
    cond-false _ ((e.0 - offset, e.1) ∷ part offset n es) (part offset n es) test

part-above : (offset n : ℕ) (e : ℕ × ℕ) (es : List (ℕ × ℕ)) → offset + n ≤ e.0 → part offset n (e ∷ es) ≡ part offset n es
part-above offset n e es a =
    let test : (leb offset e.0 && ltb e.0 (offset + n)) ≡ false = grind (arith, nat_tests) in
    cond-false _ ((e.0 - offset, e.1) ∷ part offset n es) (part offset n es) test

pub part-append : (offset n : ℕ) (es fs : List (ℕ × ℕ)) → part offset n (es ++ fs) ≡ part offset n es ++ part offset n fs
part-append offset n [] fs = refl
part-append offset n (e ∷ es) fs =
    let rest : part offset n (es ++ fs) ≡ part offset n es ++ part offset n fs = part-append offset n es fs in
    elim (leb offset e.0 && ltb e.0 (offset + n)) as (λ t. cond t ((e.0 - offset, e.1) ∷ part offset n (es ++ fs)) (part offset n (es ++ fs))
    ≡ cond t ((e.0 - offset, e.1) ∷ part offset n es) (part offset n es) ++ part offset n fs) [
      | true ↦ ap (λ (gs : List (ℕ × ℕ)). (e.0 - offset, e.1) ∷ gs) rest
      | false ↦ rest
    ]

-- all of the first row's own entries are of its part
pub part-own : (n : ℕ) (es : List (ℕ × ℕ)) → AreWithin n es → part 0 n es ≡ es
part-own n [] h = refl
part-own n (e ∷ es) h =
    let head : e.0 < n = All-head (λ (f : ℕ × ℕ). f.0 < n) e es h in
    let rest : part 0 n es ≡ es = part-own n es (All-tail (λ (f : ℕ × ℕ). f.0 < n) e es h) in
    let same : e.0 - 0 ≡ e.0 = omega arith in
    part-taken 0 n e es (omega arith) (omega arith) ∙ ap (λ (m : ℕ). (m, e.1) ∷ part 0 n es) same ∙ ap (λ (fs : List (ℕ × ℕ)). e ∷ fs) rest

-- none of them is of a part after it
pub part-before : (offset n : ℕ) (es : List (ℕ × ℕ)) → AreWithin offset es → part offset n es ≡ []
part-before offset n [] h = refl
part-before offset n (e ∷ es) h =
    part-below offset n e es (All-head (λ (f : ℕ × ℕ). f.0 < offset) e es h)
    ∙ part-before offset n es (All-tail (λ (f : ℕ × ℕ). f.0 < offset) e es h)

-- entries after a row are not of its part
pub part-behind : (n offset : ℕ) (es : List (ℕ × ℕ)) → n ≤ offset → part 0 n (shifted offset es) ≡ []
part-behind n offset [] h = refl
part-behind n offset (e ∷ es) h =
    part-above 0 n (offset + e.0, e.1) (shifted offset es) (omega arith) ∙ part-behind n offset es h

-- a part of shifted entries, and of those before they were shifted
pub part-shifted : (offset k n : ℕ) (es : List (ℕ × ℕ)) → part (offset + k) n (shifted offset es) ≡ part k n es
part-shifted offset k n [] = refl
part-shifted offset k n (e ∷ es) =
    let rest : part (offset + k) n (shifted offset es) ≡ part k n es = part-shifted offset k n es in
    let test : (leb (offset + k) (offset + e.0) && ltb (offset + e.0) (offset + k + n)) ≡ (leb k e.0 && ltb e.0 (k + n)) = grind (arith, nat_tests) in
    let cell : offset + e.0 - (offset + k) ≡ e.0 - k = omega arith in
    ap (λ (t : _). cond t ((offset + e.0 - (offset + k), e.1) ∷ part (offset + k) n (shifted offset es)) (part (offset + k) n (shifted offset es))) test
    ∙ ap (λ (m : ℕ). cond (leb k e.0 && ltb e.0 (k + n)) ((m, e.1) ∷ part (offset + k) n (shifted offset es)) (part (offset + k) n (shifted offset es))) cell
    ∙ ap (λ (fs : List (ℕ × ℕ)). cond (leb k e.0 && ltb e.0 (k + n)) ((e.0 - k, e.1) ∷ fs) fs) rest

-- the first row's part of a difference of rows side by side
pub part-diff_first : (xs ys vs ws : List ℕ) → length xs ≡ length vs → part 0 (length xs) (diff (xs ++ ys) (vs ++ ws)) ≡ diff xs vs
part-diff_first xs ys vs ws l =
    ap (part 0 (length xs)) (diff-append xs ys vs ws l)
    ∙ part-append 0 (length xs) (diff xs vs) (shifted (length xs) (diff ys ws))
    ∙ ap (λ (es : List (ℕ × ℕ)). part 0 (length xs) (diff xs vs) ++ es) (part-behind (length xs) (length xs) (diff ys ws) (omega arith))
    ∙ append-nil (part 0 (length xs) (diff xs vs))
    ∙ part-own (length xs) (diff xs vs) (AreWithin-diff (length xs) xs vs (omega arith))

-- each part after the first row is a part of the difference of the rows after it
pub part-diff_behind : (xs ys vs ws : List ℕ) (k n : ℕ) → length xs ≡ length vs →
    part (length xs + k) n (diff (xs ++ ys) (vs ++ ws)) ≡ part k n (diff ys ws)
part-diff_behind xs ys vs ws k n l =
    ap (part (length xs + k) n) (diff-append xs ys vs ws l)
    ∙ part-append (length xs + k) n (diff xs vs) (shifted (length xs) (diff ys ws))
    ∙ ap (λ (es : List (ℕ × ℕ)). es ++ part (length xs + k) n (shifted (length xs) (diff ys ws)))
    (part-before (length xs + k) n (diff xs vs) (AreWithin-diff (length xs + k) xs vs (omega arith)))
    ∙ part-shifted (length xs) k n (diff ys ws)

pub parts_are_own : (xs ys vs ws : List ℕ) → length xs ≡ length vs → length ys ≡ length ws → PartsAreOwn xs ys vs ws
parts_are_own xs ys vs ws l m =
    let offset : length xs ≡ length xs + 0 = omega arith in
    record {
      first_part = part-diff_first xs ys vs ws l;
      second_part =
          ap (λ (o : ℕ). part o (length ys) (diff (xs ++ ys) (vs ++ ws))) offset
          ∙ part-diff_behind xs ys vs ws 0 (length ys) l
          ∙ part-own (length ys) (diff ys ws) (AreWithin-diff (length ys) ys ws (omega arith));
    }

-- a part of a part
pub part-part : (offset m k n : ℕ) (es : List (ℕ × ℕ)) → k + n ≤ m → part k n (part offset m es) ≡ part (offset + k) n es
part-part offset m k n [] h = refl
part-part offset m k n (e ∷ es) h =
    let rest : part k n (part offset m es) ≡ part (offset + k) n es = part-part offset m k n es h in
    ⊎_elim
    (λ low. ap (part k n) (part-below offset m e es low) ∙ rest ∙ sym (part-below (offset + k) n e es (omega arith)))
    (λ from. ⊎_elim
    (λ within.
    let cell : e.0 - offset - k ≡ e.0 - (offset + k) = omega arith in
    ap (part k n) (part-taken offset m e es from within)
    ∙ ⊎_elim
    (λ low. part-below k n (e.0 - offset, e.1) (part offset m es) low ∙ rest ∙ sym (part-below (offset + k) n e es (omega arith)))
    (λ above. ⊎_elim
    (λ inside.
    part-taken k n (e.0 - offset, e.1) (part offset m es) above inside
    ∙ ap (λ (c : ℕ). (c, e.1) ∷ part k n (part offset m es)) cell
    ∙ ap (λ (fs : List (ℕ × ℕ)). (e.0 - (offset + k), e.1) ∷ fs) rest
    ∙ sym (part-taken (offset + k) n e es (omega arith) (omega arith)))
    (λ past. part-above k n (e.0 - offset, e.1) (part offset m es) past ∙ rest ∙ sym (part-above (offset + k) n e es (omega arith)))
    (cases_lt (e.0 - offset) (k + n)))
    (cases_lt (e.0 - offset) k))
    (λ past. ap (part k n) (part-above offset m e es past) ∙ rest ∙ sym (part-above (offset + k) n e es (omega arith)))
    (cases_lt e.0 (offset + m)))
    (cases_lt e.0 offset)

-- rows side by side take each its part
pub apply_diff-append : (xs ys : List ℕ) (es : List (ℕ × ℕ)) → AreWithin (length xs + length ys) es →
    apply_diff (xs ++ ys) es ≡ apply_diff xs (part 0 (length xs) es) ++ apply_diff ys (part (length xs) (length ys) es)
apply_diff-append xs ys [] h = refl
apply_diff-append xs ys (e ∷ es) h =
    let head : e.0 < length xs + length ys = All-head (λ (f : ℕ × ℕ). f.0 < length xs + length ys) e es h in
    let tail : AreWithin (length xs + length ys) es = All-tail (λ (f : ℕ × ℕ). f.0 < length xs + length ys) e es h in
    ⊎_elim
    (λ left.
    let lens : length (set xs e.0 e.1) ≡ length xs = simp length-set in
    let rest = apply_diff-append (set xs e.0 e.1) ys es (subst (λ (n : ℕ). AreWithin (n + length ys) es) (sym lens) tail) in
    let cell : e.0 ≡ e.0 - 0 = omega arith in
    ap (λ (row : List ℕ). apply_diff row es) (set-append_left xs ys e.0 e.1 left)
    ∙ subst (λ (n : ℕ). apply_diff (set xs e.0 e.1 ++ ys) es ≡ apply_diff (set xs e.0 e.1) (part 0 n es) ++ apply_diff ys (part n (length ys) es)) lens rest
    ∙ ap (λ (m : ℕ). apply_diff (set xs m e.1) (part 0 (length xs) es) ++ apply_diff ys (part (length xs) (length ys) es)) cell
    ∙ sym (ap (λ fs. apply_diff xs fs ++ apply_diff ys (part (length xs) (length ys) (e ∷ es))) (part-taken 0 (length xs) e es (omega arith) (omega arith))
    ∙ ap (λ fs. apply_diff xs ((e.0 - 0, e.1) ∷ part 0 (length xs) es) ++ apply_diff ys fs) (part-below (length xs) (length ys) e es left)))
    (λ right.
    let lens : length (set ys (e.0 - length xs) e.1) ≡ length ys = simp length-set in
    let rest = apply_diff-append xs (set ys (e.0 - length xs) e.1) es (subst (λ (n : ℕ). AreWithin (length xs + n) es) (sym lens) tail) in
    ap (λ (row : List ℕ). apply_diff row es) (set-append_right xs ys (length xs) e.0 e.1 refl right)
    ∙ subst (λ (n : ℕ). apply_diff (xs ++ set ys (e.0 - length xs) e.1) es ≡ apply_diff xs (part 0 (length xs) es) ++ apply_diff (set ys (e.0 - length xs) e.1) (part (length xs) n es)) lens rest
    ∙ sym (ap (λ fs. apply_diff xs fs ++ apply_diff ys (part (length xs) (length ys) (e ∷ es))) (part-above 0 (length xs) e es (omega arith))
    ∙ ap (λ fs. apply_diff xs (part 0 (length xs) es) ++ apply_diff ys fs) (part-taken (length xs) (length ys) e es right (omega arith))))
    (cases_lt e.0 (length xs))
