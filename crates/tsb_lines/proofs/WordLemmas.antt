use Rattle.std.proofs.Common.{◌≡◌, ◌≢◌, ℕ, ◌+◌, ◌-◌, ◌<◌, ◌≤◌, List, [], ◌∷◌, length, refl, sym, ap, ◌∙◌, arith, zero, suc, get_or, take, drop, eqb, true, inl, inr, subst, take_all, length-drop}
use Rattle.std.proofs.lemmas.List.{get_or-drop, drop-drop}
use Rattle.std.proofs.lemmas.Bool.Decides.{eqb_tells}
use Rattle.tsb_lines.specs.Words.{words_of, onto_word}

onto-space : (b c : ℕ) (bs : List ℕ) (ws : List (List ℕ)) → eqb c 32 ≡ true → onto_word b (c ∷ bs) ws ≡ (b ∷ []) ∷ ws
onto-space b c bs [] e = refl
onto-space b c bs (w ∷ ws) e = rw e refl

word-front : (ys : List ℕ) (n : ℕ) → 0 < n → n ≤ length ys → ((k : ℕ) → k < n → get_or ys k 0 ≡ 32 → ⊥) → (n < length ys → get_or ys n 0 ≡ 32) → words_of ys ≡ take n ys ∷ words_of (drop n ys)
word-front ys zero p l f s = absurd (omega (arith, p))
word-front [] (suc n) p l f s = absurd (omega (arith, l))
word-front (b ∷ []) (suc zero) p l f s = elim (eqb_tells b 32) [ inl z ↦ absurd (f 0 (omega arith) z.1) | inr on ↦ rw on.0 refl ]
word-front (b ∷ []) (suc (suc n)) p l f s = absurd (omega (arith, l))
word-front (b ∷ c ∷ bs) (suc zero) p l f s =
    let space : c ≡ 32 = s (omega arith) in
    elim (eqb_tells b 32) [ inl z ↦ absurd (f 0 (omega arith) z.1) | inr on ↦ rw on.0 (onto-space b c bs (words_of (c ∷ bs)) (rw space refl)) ]
word-front (b ∷ c ∷ bs) (suc (suc n)) p l f s =
    let rest : words_of (c ∷ bs) ≡ take (suc n) (c ∷ bs) ∷ words_of (drop (suc n) (c ∷ bs)) =
    word-front (c ∷ bs) (suc n) (omega arith) (omega (arith, l)) (λ k lt e. f (suc k) (omega (arith, lt)) e) (λ lt. s (omega (arith, lt))) in
    elim (eqb_tells b 32) [
      | inl z ↦ absurd (f 0 (omega arith) z.1)
      | inr on ↦
          elim (eqb_tells c 32) [ inl z ↦ absurd (f 1 (omega arith) z.1) | inr off ↦ rw (on.0, ap (onto_word b (c ∷ bs)) rest) (rw off.0 refl) ]
    ]

pub word-split : (xs : List ℕ) (s e : ℕ) → s < e → e ≤ length xs → ((k : ℕ) → s ≤ k → k < e → get_or xs k 0 ≡ 32 → ⊥) → (e < length xs → get_or xs e 0 ≡ 32)
    → words_of (drop s xs) ≡ take (e - s) (drop s xs) ∷ words_of (take (length xs - e) (drop e xs))
word-split xs s e lt le f g =
    let len : length (drop s xs) ≡ length xs - s = length-drop s xs in
    let front : words_of (drop s xs) ≡ take (e - s) (drop s xs) ∷ words_of (drop (e - s) (drop s xs)) =
    word-front (drop s xs) (e - s) (omega (arith, lt)) (omega (arith, len, le))
    (λ k below h. f (s + k) (omega arith) (omega (arith, below, lt)) (at s xs k ∙ h))
    (λ more. sym (at s xs (e - s)) ∙ (let same : s + (e - s) ≡ e = omega (arith, lt) in rw same (g (omega (arith, more, len, lt))))) in
    let behind : drop (e - s) (drop s xs) ≡ drop e xs = gone s e xs lt in
    let all : take (length xs - e) (drop e xs) ≡ drop e xs = take_all (length xs - e) (drop e xs) (let ll : length (drop e xs) ≡ length xs - e = length-drop e xs in omega (arith, ll)) in
    front ∙ ap (λ (v : List ℕ). take (e - s) (drop s xs) ∷ words_of v) (behind ∙ sym all)
  where
    at : (s : ℕ) (xs : List ℕ) (k : ℕ) → get_or xs (s + k) 0 ≡ get_or (drop s xs) k 0
    at s xs k = sym (get_or-drop s xs k 0)

    gone : (s e : ℕ) (xs : List ℕ) → s < e → drop (e - s) (drop s xs) ≡ drop e xs
    gone s e xs lt = drop-drop (e - s) s xs ∙ (let same : s + (e - s) ≡ e = omega (arith, lt) in rw same refl)

pub begun : (xs : List ℕ) (s e : ℕ) → s ≤ e → (get_or xs s 0 ≡ 32 → ⊥) → s < length xs → (e < length xs → get_or xs e 0 ≡ 32) → s < e
begun xs s e le ne lt g = elim (eqb_tells s e) [ inl z ↦ absurd (ne (subst (λ (k : ℕ). get_or xs k 0 ≡ 32) (sym z.1) (g (let same : s ≡ e = z.1 in omega (arith, lt, same))))) | inr off ↦ (let no : s ≢ e = off.1 in omega (arith, le, no)) ]
