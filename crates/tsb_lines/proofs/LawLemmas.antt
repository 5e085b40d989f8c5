-- The laws of src/laws.rt.
use Rattle.std.proofs.Common.{◌≡◌, ℕ, List, [], ◌∷◌, ◌++◌, refl, ap, ◌∙◌, inl, inr}
use Rattle.std.proofs.lemmas.Bool.Decides.{eqb_tells}
use Rattle.std.proofs.lemmas.List.Elements.{All-nil, All-cons, All-head, All-tail}
use Rattle.std.specs.Prelude.{All}
use Rattle.tsb_lines.specs.Lines.{split, onto_first, HasNoFeed}
use Rattle.tsb_lines.specs.Words.{words_of, onto_word}
use Rattle.tsb_lines.specs.Laws.{joined, IsWord, MakeUpTheText, HaveNoFeed, IgnoreSpaces, EndAtSpaces, EndAtTheEnd}

joined-onto : (b : ℕ) (ls : List (List ℕ)) → joined (onto_first b ls) ≡ b ∷ joined ls
joined-onto b [] = refl
joined-onto b (l ∷ []) = refl
joined-onto b (l ∷ m ∷ ms) = refl

-- a text is split into one line at least
joined-split : (xs : List ℕ) → joined ([] ∷ split xs) ≡ 10 ∷ joined (split xs)
joined-split [] = refl
joined-split (b ∷ bs) = elim (eqb_tells b 10) [ inl z ↦ rw z.0 refl | inr off ↦ rw off.0 (onto (split bs)) ]
  where
    onto : (ls : List (List ℕ)) → joined ([] ∷ onto_first b ls) ≡ 10 ∷ joined (onto_first b ls)
    onto [] = refl
    onto (l ∷ ls) = refl

pub make-up : MakeUpTheText
make-up [] = refl
make-up (b ∷ bs) = elim (eqb_tells b 10) [
  | inl z ↦ rw z.0 (joined-split bs ∙ ap (λ (v : List ℕ). 10 ∷ v) (make-up bs) ∙ rw z.1 refl)
  | inr off ↦ rw off.0 (joined-onto b (split bs) ∙ ap (λ (v : List ℕ). b ∷ v) (make-up bs))
]

feedless-onto : (b : ℕ) (ls : List (List ℕ)) → (b ≡ 10 → ⊥) → All HasNoFeed ls → All HasNoFeed (onto_first b ls)
feedless-onto b [] n h = All-cons HasNoFeed (b ∷ []) [] (n, tt) h
feedless-onto b (l ∷ ls) n h = All-cons HasNoFeed (b ∷ l) ls (n, All-head HasNoFeed l ls h) (All-tail HasNoFeed l ls h)

pub no-feed : HaveNoFeed
no-feed [] = All-cons HasNoFeed [] [] tt (All-nil HasNoFeed)
no-feed (b ∷ bs) = elim (eqb_tells b 10) [
  | inl z ↦ rw z.0 (All-cons HasNoFeed [] (split bs) tt (no-feed bs))
  | inr off ↦ rw off.0 (feedless-onto b (split bs) off.1 (no-feed bs))
]

pub spaces : IgnoreSpaces
spaces rest = refl

onto-end : (b c : ℕ) (bs w : List ℕ) (ws : List (List ℕ)) → (c ≡ 32 → ⊥) → onto_word b (c ∷ bs) (w ∷ ws) ≡ (b ∷ w) ∷ ws
onto-end b c bs w ws n = elim (eqb_tells c 32) [ inl z ↦ absurd (n z.1) | inr off ↦ rw off.0 refl ]

onto-space : (b : ℕ) (rest : List ℕ) (ws : List (List ℕ)) → onto_word b (32 ∷ rest) ws ≡ (b ∷ []) ∷ ws
onto-space b rest [] = refl
onto-space b rest (w ∷ ws) = refl

first-of : (b c : ℕ) (bs : List ℕ) → IsWord (b ∷ c ∷ bs) → (c ≡ 32 → ⊥)
first-of b c [] h = h.1
first-of b c (d ∷ bs) h = h.1.0

pub at-space : EndAtSpaces
at-space [] rest h = absurd h
at-space (b ∷ []) rest h = elim (eqb_tells b 32) [ inl z ↦ absurd (h z.1) | inr off ↦ rw off.0 (onto-space b rest (words_of rest)) ]
at-space (b ∷ c ∷ bs) rest h = elim (eqb_tells b 32) [
  | inl z ↦ absurd (h.0 z.1)
  | inr off ↦
      rw off.0 (ap (onto_word b (c ∷ bs ++ 32 ∷ rest)) (at-space (c ∷ bs) rest h.1) ∙ onto-end b c (bs ++ 32 ∷ rest) (c ∷ bs) (words_of rest) (first-of b c bs h))
]

pub at-end : EndAtTheEnd
at-end [] h = absurd h
at-end (b ∷ []) h = elim (eqb_tells b 32) [ inl z ↦ absurd (h z.1) | inr off ↦ rw off.0 refl ]
at-end (b ∷ c ∷ bs) h = elim (eqb_tells b 32) [
  | inl z ↦ absurd (h.0 z.1)
  | inr off ↦ rw off.0 (ap (onto_word b (c ∷ bs)) (at-end (c ∷ bs) h.1) ∙ onto-end b c bs (c ∷ bs) [] (first-of b c bs h))
]
