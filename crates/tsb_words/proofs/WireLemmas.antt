-- Words and the wires that they spell.
use Rattle.std.proofs.Common.{◌≡◌, ◌<◌, ◌≤◌, ◌+◌, ℕ, List, [], ◌∷◌, ◌++◌, Option, Some, None, option_map, refl, ap, sym, ◌∙◌}
use Rattle.std.proofs.Common.{take, drop, get_or, length, map, arith, append_assoc, inl, inr, zero, suc}
use Rattle.std.proofs.lemmas.List.{append-nil, at_drop_all, at_drop_more}
use Rattle.std.specs.Borrow.{Bor}
use Rattle.std.proofs.lemmas.Bool.Decides.{eqb_tells}
use Rattle.tsb_field_log.specs.declared.inputs.InputKind.{InputKind}
use Rattle.tsb_field_log.specs.declared.inputs.Wire.{Wire}
use Rattle.tsb_words.specs.declared.error.WordsError.{WordsError}
use Rattle.tsb_words.specs.declared.error.WordsError.TheVariants.{Memory, Bad}
use Rattle.tsb_words.specs.Words.{IsRefused}
use Rattle.tsb_words.specs.Wires.{joined, onto_front, parts_of, wire_of, wires_of, with_wire}

-- one more wire
pub joined-more : (before : List Wire) (wire : Wire) (o : Option (List Wire)) → joined (Some before) (with_wire (Some wire) o) ≡ joined (Some (before ++ wire ∷ [])) o
joined-more before wire None = refl
joined-more before wire (Some wires) = ap (λ (ws : List Wire). Some ws) (sym (append_assoc before (wire ∷ []) wires))

joined-none : (before : List Wire) (o : Option (List Wire)) → joined (Some before) o ≡ None → o ≡ None
joined-none before None none = refl
joined-none before (Some wires) none = absurd (cc)

-- ## The wires of words, one after another

-- the wires before, and then those of these words
abbrev pub wires_with : InputKind → List Wire → List (Bor (List ℕ)) → Option (List Wire)
wires_with kind before words = joined (Some before) (wires_of kind (map (λ word. word.now) words))

-- the next word spells a wire
pub wire-added : (kind : InputKind) (before after : List Wire) (words : List (Bor (List ℕ))) (i : ℕ) (d : Bor (List ℕ)) (text : List ℕ) (wire : Wire)
    → i < length words → text ≡ (get_or words i d).now → Some wire ≡ wire_of kind text → after ≡ before ++ wire ∷ []
    → wires_with kind after (drop (i + 1) words) ≡ wires_with kind before (drop i words)
wire-added kind before after words i d text wire within same is grown =
    let rest : Option (List Wire) = wires_of kind (map (λ word. word.now) (drop (i + 1) words)) in
    ap (λ (all : List Wire). joined (Some all) rest) grown
    ∙ (sym (joined-more before wire rest)
    ∙ (ap (λ (o : Option Wire). joined (Some before) (with_wire o rest)) (is ∙ ap (wire_of kind) same)
    ∙ sym (at_drop_more (wires_with kind before) words i d within)))

-- the next word spells none
pub no-wire : (kind : InputKind) (first before : List Wire) (words : List (Bor (List ℕ))) (i : ℕ) (d : Bor (List ℕ)) (text : List ℕ)
    → i < length words → text ≡ (get_or words i d).now → None ≡ wire_of kind text → wires_with kind before (drop i words) ≡ wires_with kind first words
    → wires_of kind (map (λ word. word.now) words) ≡ None
no-wire kind first before words i d text within same none so_far =
    let rest : Option (List Wire) = wires_of kind (map (λ word. word.now) (drop (i + 1) words)) in
    joined-none first (wires_of kind (map (λ word. word.now) words)) (sym so_far
    ∙ (at_drop_more (wires_with kind before) words i d within
    ∙ sym (ap (λ (o : Option Wire). joined (Some before) (with_wire o rest)) (none ∙ ap (wire_of kind) same))))

-- there is no next word
pub no-word : (kind : InputKind) (first before : List Wire) (words : List (Bor (List ℕ))) (i : ℕ) → length words ≤ i
    → wires_with kind before (drop i words) ≡ wires_with kind first words → wires_with kind first words ≡ Some before
no-word kind first before words i past so_far =
    sym so_far ∙ (at_drop_all (wires_with kind before) words i past ∙ ap (λ (all : List Wire). Some all) (append-nil before))

-- ## The parts of a word

-- none of the first n bytes is `=`
abbrev pub Without : List ℕ → ℕ → Type 0
Without xs n = (k : ℕ) → k < n → get_or xs k 0 ≡ 61 → ⊥

-- where no `=` stands, there are no parts
pub parts-none : (xs : List ℕ) → Without xs (length xs) → parts_of xs ≡ None
parts-none [] f = refl
parts-none (b ∷ bs) f = elim (eqb_tells b 61) [
  | inl z ↦ absurd (f 0 (omega arith) z.1)
  | inr off ↦ rw off.0 (ap (option_map (onto_front b)) (parts-none bs (λ k lt. f (suc k) (omega (arith, lt)))))
]

-- the first `=` parts the word
pub parts-some : (xs : List ℕ) (n : ℕ) → n < length xs → Without xs n → get_or xs n 0 ≡ 61 → parts_of xs ≡ Some (take n xs, drop (suc n) xs)
parts-some [] n lt f e = absurd (omega (arith, lt))
parts-some (b ∷ bs) zero lt f e = let z : b ≡ 61 = e in rw z refl
parts-some (b ∷ bs) (suc n) lt f e = elim (eqb_tells b 61) [
  | inl z ↦ absurd (f 0 (omega arith) z.1)
  | inr off ↦ rw off.0 (ap (option_map (onto_front b)) (parts-some bs n (omega (arith, lt)) (λ k below. f (suc k) (omega (arith, below))) e))
]

-- ## Three options of wires, one after another

-- the first fails
pub first-fails : (v p r : Option (List Wire)) (e : WordsError)
    → IsRefused v e → IsRefused (joined (joined v p) r) e
first-fails v p r Memory h = tt
first-fails v p r Bad h = ap (λ (o : Option (List Wire)). joined (joined o p) r) h

join-none : (v : Option (List Wire)) → joined v None ≡ None
join-none None = refl
join-none (Some wires) = refl

-- the second fails
pub second-fails : (v p r : Option (List Wire)) (e : WordsError)
    → IsRefused p e → IsRefused (joined (joined v p) r) e
second-fails v p r Memory h = tt
second-fails v p r Bad h =
    ap (λ (o : Option (List Wire)). joined (joined v o) r) h ∙ ap (λ (o : Option (List Wire)). joined o r) (join-none v)

-- the third fails
pub third-fails : (v p r : Option (List Wire)) (e : WordsError)
    → IsRefused r e → IsRefused (joined (joined v p) r) e
third-fails v p r Memory h = tt
third-fails v p r Bad h = ap (joined (joined v p)) h ∙ join-none (joined v p)

-- all are added
pub all-added : (v p r : Option (List Wire)) (a b d : List Wire)
    → joined (Some []) v ≡ Some a → joined (Some a) p ≡ Some b → joined (Some b) r ≡ Some d → joined (joined v p) r ≡ Some d
all-added None p r a b d e f g = absurd (cc)
all-added (Some v) None r a b d e f g = absurd (cc)
all-added (Some v) (Some p) None a b d e f g = absurd (cc)
all-added (Some v) (Some p) (Some r) a b d e f g = cc
