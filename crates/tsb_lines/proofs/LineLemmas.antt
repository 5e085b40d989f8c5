use Rattle.std.proofs.Common.{◌≡◌, ℕ, ◌+◌, ◌-◌, ◌<◌, ◌≤◌, List, [], ◌∷◌, ◌++◌, Option, Some, None, append_assoc, length, refl, sym, ap, ◌∙◌, arith, zero, suc, get_or, take, drop, take_all, length-drop, add-one, inl, inr}
use Rattle.std.proofs.lemmas.Bool.Decides.{eqb_tells}
use Rattle.std.specs.Prelude.{MatchOption}
use Rattle.tsb_lines.specs.Lines.{without_return, HasNoFeed, onto_first, split, ended, lines_of}

pub without-last : (xs : List ℕ) (n : ℕ) → length xs ≡ suc n → get_or xs n 0 ≡ 13 → take n xs ≡ without_return xs
without-last [] n l e = absurd (omega arith)
without-last (b ∷ []) zero l e = let z : b ≡ 13 = e in rw z refl
without-last (b ∷ []) (suc n) l e = absurd (omega arith)
without-last (b ∷ c ∷ bs) zero l e = absurd (omega arith)
without-last (b ∷ c ∷ bs) (suc n) l e = ap (λ (v : List ℕ). b ∷ v) (without-last (c ∷ bs) n (omega arith) e)

pub without-none : (xs : List ℕ) (n : ℕ) → length xs ≡ suc n → (get_or xs n 0 ≡ 13 → ⊥) → xs ≡ without_return xs
without-none [] n l e = absurd (omega arith)
without-none (b ∷ []) zero l e = elim (eqb_tells b 13) [ inl z ↦ absurd (e z.1) | inr on ↦ rw on.0 refl ]
without-none (b ∷ []) (suc n) l e = absurd (omega arith)
without-none (b ∷ c ∷ bs) zero l e = absurd (omega arith)
without-none (b ∷ c ∷ bs) (suc n) l e = ap (λ (v : List ℕ). b ∷ v) (without-none (c ∷ bs) n (omega arith) e)

-- at most one byte is taken off a line
pub length-return : (xs : List ℕ) → length xs ≤ length (without_return xs) + 1
length-return [] = omega arith
length-return (b ∷ []) = elim (eqb_tells b 13) [ inl z ↦ rw z.0 (omega arith) | inr off ↦ rw off.0 (omega arith) ]
length-return (b ∷ c ∷ bs) = let rest : length (c ∷ bs) ≤ length (without_return (c ∷ bs)) + 1 = length-return (c ∷ bs) in omega (arith, rest)

-- no line feed among the first n
abbrev pub Feedless : List ℕ → ℕ → Type 0
Feedless xs n = (k : ℕ) → k < n → get_or xs k 0 ≡ 10 → ⊥

pub split-none : (xs : List ℕ) → Feedless xs (length xs) → split xs ≡ xs ∷ []
split-none [] f = refl
split-none (b ∷ bs) f = elim (eqb_tells b 10) [
  | inl z ↦ absurd (f 0 (omega arith) z.1)
  | inr off ↦ rw off.0 (ap (onto_first b) (split-none bs (λ k lt. f (suc k) (omega (arith, lt)))))
]

pub split-first : (xs : List ℕ) (n : ℕ) → n < length xs → Feedless xs n → get_or xs n 0 ≡ 10 → split xs ≡ take n xs ∷ split (drop (suc n) xs)
split-first [] n lt f e = absurd (omega (arith, lt))
split-first (b ∷ bs) zero lt f e = let z : b ≡ 10 = e in rw z refl
split-first (b ∷ bs) (suc n) lt f e = elim (eqb_tells b 10) [
  | inl z ↦ absurd (f 0 (omega arith) z.1)
  | inr off ↦ rw off.0 (ap (onto_first b) (split-first bs n (omega (arith, lt)) (λ k below. f (suc k) (omega (arith, below))) e))
]

ended-onto : (l : List ℕ) (b : ℕ) (ls : List (List ℕ)) → ended (l ∷ onto_first b ls) ≡ without_return l ∷ ended (onto_first b ls)
ended-onto l b [] = refl
ended-onto l b (m ∷ ms) = refl

ended-split : (l xs : List ℕ) → ended (l ∷ split xs) ≡ without_return l ∷ ended (split xs)
ended-split l [] = refl
ended-split l (b ∷ bs) = elim (eqb_tells b 10) [
  | inl z ↦ rw z.0 refl
  | inr off ↦ rw off.0 (ended-onto l b (split bs))
]

-- the lines of a text without a line feed
pub lines-last : (xs : List ℕ) → Feedless xs (length xs) → lines_of xs ≡ xs ∷ []
lines-last xs f = ap ended (split-none xs f)

-- the lines of a text whose first line feed is at n
pub lines-first : (xs : List ℕ) (n : ℕ) → n < length xs → Feedless xs n → get_or xs n 0 ≡ 10 → lines_of xs ≡ without_return (take n xs) ∷ lines_of (drop (suc n) xs)
lines-first xs n lt f e = ap ended (split-first xs n lt f e) ∙ ended-split (take n xs) (drop (suc n) xs)

pub split-joined : (held more : List ℕ) → HasNoFeed held → split (held ++ 10 ∷ more) ≡ held ∷ split more
split-joined [] more f = refl
split-joined (b ∷ bs) more f = elim (eqb_tells b 10) [
  | inl z ↦ absurd (f.0 z.1)
  | inr off ↦ rw off.0 (ap (onto_first b) (split-joined bs more f.1))
]

pub split-alone : (held : List ℕ) → HasNoFeed held → split held ≡ held ∷ []
split-alone [] f = refl
split-alone (b ∷ bs) f = elim (eqb_tells b 10) [
  | inl z ↦ absurd (f.0 z.1)
  | inr off ↦ rw off.0 (ap (onto_first b) (split-alone bs f.1))
]

-- for a reader that holds the bytes of a line until its line feed comes: the lines of what it holds, that line feed and
-- what follows
pub lines-joined : (held more : List ℕ) → HasNoFeed held → lines_of (held ++ 10 ∷ more) ≡ without_return held ∷ lines_of more
lines-joined held more f = ap ended (split-joined held more f) ∙ ended-split held more

-- and the lines of what it holds at the end of the text
pub lines-alone : (held : List ℕ) → HasNoFeed held → lines_of held ≡ held ∷ []
lines-alone held f = ap ended (split-alone held f)

-- a further byte that is no line feed
pub feedless-more : (held : List ℕ) (b : ℕ) → HasNoFeed held → (b ≡ 10 → ⊥) → HasNoFeed (held ++ b ∷ [])
feedless-more [] b f n = (n, tt)
feedless-more (c ∷ held) b f n = (f.0, feedless-more held b f.1 n)

-- further bytes without one
pub feedless-both : (held more : List ℕ) → HasNoFeed held → HasNoFeed more → HasNoFeed (held ++ more)
feedless-both [] more f n = n
feedless-both (b ∷ held) more f n = (f.0, feedless-both held more f.1 n)

-- bytes of which none is one
pub feedless-all : (xs : List ℕ) → Feedless xs (length xs) → HasNoFeed xs
feedless-all [] f = tt
feedless-all (b ∷ xs) f = (λ e. f 0 (omega arith) e, feedless-all xs (λ k lt. f (suc k) (omega (arith, lt))))

-- and the first n of them
pub feedless-front : (xs : List ℕ) (n : ℕ) → Feedless xs n → HasNoFeed (take n xs)
feedless-front xs zero f = tt
feedless-front [] (suc n) f = tt
feedless-front (b ∷ xs) (suc n) f = (λ e. f 0 (omega arith) e, feedless-front xs n (λ k lt. f (suc k) (omega (arith, lt))))

-- bytes are made up of those before a line feed, it and those behind it
pub cut-joined : (xs : List ℕ) (n : ℕ) → n < length xs → get_or xs n 0 ≡ 10 → xs ≡ take n xs ++ 10 ∷ drop (suc n) xs
cut-joined [] n lt e = absurd (omega (arith, lt))
cut-joined (b ∷ xs) zero lt e = let z : b ≡ 10 = e in rw z refl
cut-joined (b ∷ xs) (suc n) lt e = ap (λ (v : List ℕ). b ∷ v) (cut-joined xs n (omega (arith, lt)) e)

-- behind the place n, as a slice has it
pub behind : (xs : List ℕ) (n : ℕ) → n < length xs → take (length xs - (n + 1)) (drop (n + 1) xs) ≡ drop (suc n) xs
behind xs n lt = rw (add-one n) (take_all (length xs - suc n) (drop (suc n) xs) (let l : length (drop (suc n) xs) ≡ length xs - suc n = length-drop (suc n) xs in omega (arith, l)))

length-onto : (b : ℕ) (ls : List (List ℕ)) → length (onto_first b ls) ≤ suc (length ls)
length-onto b [] = omega arith
length-onto b (l ∷ ls) = omega arith

length-split : (xs : List ℕ) → length (split xs) ≤ suc (length xs)
length-split [] = omega arith
length-split (b ∷ bs) = elim (eqb_tells b 10) [
  | inl z ↦ rw z.0 (let rest : length (split bs) ≤ suc (length bs) = length-split bs in omega (arith, rest))
  | inr off ↦
      rw off.0 (
      let rest : length (split bs) ≤ suc (length bs) = length-split bs in
      let onto : length (onto_first b (split bs)) ≤ suc (length (split bs)) = length-onto b (split bs) in
      omega (arith, rest, onto)
      )
]

length-ended : (ls : List (List ℕ)) → length (ended ls) ≡ length ls
length-ended [] = refl
length-ended (l ∷ []) = refl
length-ended (l ∷ m ∷ ms) = ap suc (length-ended (m ∷ ms))

-- a text has at most one line more than bytes
pub length-lines : (xs : List ℕ) → length (lines_of xs) ≤ suc (length xs)
length-lines xs = let same : length (lines_of xs) ≡ length (split xs) = length-ended (split xs) in let most = length-split xs in omega (arith, same, most)

-- ## A text line by line

-- the first of the lines, and the others
pub first-line : {X : Type 0} (behind : Option X) (others : X → List (List ℕ)) (lines : List (List ℕ)) (line : List ℕ)
    → MatchOption behind (lines ≡ line ∷ []) (λ more. lines ≡ line ∷ others more) → (rest : List (List ℕ)) × (lines ≡ line ∷ rest)
first-line None others lines line h = ([], h)
first-line (Some more) others lines line h = (others more, h)

-- what was taken, and the line after it
pub line-behind : (taken rest next left bytes : List ℕ) → bytes ≡ taken ++ left → left ≡ rest ++ 10 ∷ next → bytes ≡ (taken ++ (rest ++ 10 ∷ [])) ++ next
line-behind taken rest next left bytes all cut =
    all ∙ ap (λ (v : List ℕ). taken ++ v) (cut ∙ sym (append_assoc rest (10 ∷ []) next)) ∙ sym (append_assoc taken (rest ++ 10 ∷ []) next)
