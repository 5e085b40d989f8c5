-- Texts and bands that are added number by number.
use Rattle.std.proofs.Common.{◌≡◌, ◌∙◌, ℕ, ◌+◌, ◌-◌, ◌<◌, ◌≤◌, suc, List, [], ◌∷◌, ◌++◌, length, get_or, drop, sym, ap, arith, append_assoc, append-nil, OnOk}
use Rattle.std.specs.declared.result.Result.{Result}
use Rattle.std.specs.declared.result.Result.TheVariants.{Ok, Err}
use Rattle.std.proofs.lemmas.List.{drop_all}
use Rattle.tsb_field_diagram.proofs.BarLemmas.{drop-step}

-- a next part, where many are told by a first and a count: `one k` is that of k, and `all k n` those of n from k on
pub count-more : {A : Type 0} (one : ℕ → List A) (all : ℕ → ℕ → List A) → ((k n : ℕ) → all k (suc n) ≡ one k ++ all (k + 1) n) →
    (k end : ℕ) → k < end → (text new whole : List A) → new ≡ text ++ one k → text ++ all k (end - k) ≡ whole → new ++ all (k + 1) (end - (k + 1)) ≡ whole
count-more {A = A} one all by k end lt text new whole new-is held =
    let more : end - k ≡ suc (end - (k + 1)) = omega (arith, lt) in
    ap (λ (ts : List A). ts ++ all (k + 1) (end - (k + 1))) new-is ∙ append_assoc text (one k) (all (k + 1) (end - (k + 1)))
    ∙ ap (λ (ts : List A). text ++ ts) (sym (by k (end - (k + 1)))) ∙ ap (λ (n : ℕ). text ++ all k n) (sym more) ∙ held

-- where none is left
pub count-end : {A : Type 0} (all : ℕ → ℕ → List A) → ((k : ℕ) → all k 0 ≡ []) → (k end : ℕ) → end ≤ k →
    (text whole : List A) → text ++ all k (end - k) ≡ whole → text ≡ whole
count-end {A = A} all none k end le text whole held =
    let zero-left : end - k ≡ 0 = omega (arith, le) in
    sym (append-nil text) ∙ ap (λ (ts : List A). text ++ ts) (sym (none k)) ∙ ap (λ (n : ℕ). text ++ all k n) (sym zero-left) ∙ held

-- a part, and those after it
pub both : (old more new one rest : List ℕ) → more ≡ old ++ one → new ≡ more ++ rest → new ≡ old ++ (one ++ rest)
both old more new one rest first others = others ∙ ap (λ (ts : List ℕ). ts ++ rest) first ∙ append_assoc old one rest

-- a part, and those after it where the last call went well
pub then : {T E : Type 0} (r : Result T E) (old more new one rest : List ℕ) → more ≡ old ++ one → OnOk r (new ≡ more ++ rest) → OnOk r (new ≡ old ++ (one ++ rest))
then (Ok t) old more new one rest first others = both old more new one rest first others
then (Err e) old more new one rest first others = tt

-- a next part, where many are told by a place and what stands from there on
pub place-more : {A : Type 0} (one : ℕ → A → List ℕ) (all : ℕ → List A → List ℕ) → ((k : ℕ) (x : A) (xs : List A) → all k (x ∷ xs) ≡ one k x ++ all (k + 1) xs) →
    (k : ℕ) (xs : List A) (d : A) → k < length xs → (text new whole : List ℕ) → new ≡ text ++ one k (get_or xs k d) → text ++ all k (drop k xs) ≡ whole →
    new ++ all (k + 1) (drop (k + 1) xs) ≡ whole
place-more {A = A} one all by k xs d lt text new whole new-is held =
    ap (λ (ts : List ℕ). ts ++ all (k + 1) (drop (k + 1) xs)) new-is ∙ append_assoc text (one k (get_or xs k d)) (all (k + 1) (drop (k + 1) xs))
    ∙ ap (λ (ts : List ℕ). text ++ ts) (sym (by k (get_or xs k d) (drop (k + 1) xs)))
    ∙ ap (λ (ys : List A). text ++ all k ys) (sym (drop-step xs k d lt)) ∙ held

-- where none is left
pub place-end : {A : Type 0} (all : ℕ → List A → List ℕ) → ((k : ℕ) → all k [] ≡ []) → (k : ℕ) (xs : List A) → length xs ≤ k →
    (text whole : List ℕ) → text ++ all k (drop k xs) ≡ whole → text ≡ whole
place-end {A = A} all none k xs le text whole held =
    sym (append-nil text) ∙ ap (λ (ts : List ℕ). text ++ ts) (sym (none k)) ∙ ap (λ (ys : List A). text ++ all k ys) (sym (drop_all k xs le)) ∙ held
