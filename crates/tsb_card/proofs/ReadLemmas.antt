-- Lines of a card, one after another.
use Rattle.std.proofs.Common.{◌≡◌, ◌<◌, ◌≤◌, ◌+◌, ℕ, Bool, true, false, ◌&&◌, ◌||◌, ◌==◌, if◌then◌else◌, List, [], ◌∷◌, Option, Some, None, Result, Ok, Err, option_map, refl, ap, sym, ◌∙◌}
use Rattle.std.proofs.Common.{take, drop, get_or, length, arith, inl, inr, zero, suc}
use Rattle.std.proofs.lemmas.Bool.{le-ltb}
use Rattle.std.proofs.Math.Bool.{or-false, or_assoc}
use Rattle.std.proofs.lemmas.Bool.Decides.{eqb_tells}
use Rattle.tsb_lines.specs.Lines.{is_skipped, lines_of}
use Rattle.tsb_card.specs.declared.card.Card.{Card}
use Rattle.tsb_card.specs.declared.read.CardFault.{CardFault}
use Rattle.tsb_card.specs.declared.read.CardFault.TheVariants.{Malformed}
use Rattle.tsb_card.specs.Card.{permits}
use Rattle.tsb_card.specs.Reading.{Gives, Reads, Stepped, has_pair, onto_front, pair_of, pairs_from, pairs_of, parts_of, with_pair}

-- ## The parts of a line

-- none of the first n bytes is a hyphen
abbrev pub Without : List ℕ → ℕ → Type 0
Without xs n = (k : ℕ) → k < n → get_or xs k 0 ≡ 45 → ⊥

-- where there is no hyphen, there are no parts
pub parts-none : (xs : List ℕ) → Without xs (length xs) → parts_of xs ≡ None
parts-none [] f = refl
parts-none (b ∷ bs) f = elim (eqb_tells b 45) [
  | inl z ↦ absurd (f 0 (omega arith) z.1)
  | inr off ↦ rw off.0 (ap (option_map (onto_front b)) (parts-none bs (λ k lt. f (suc k) (omega (arith, lt)))))
]

-- the first hyphen parts the line
pub parts-some : (xs : List ℕ) (n : ℕ) → n < length xs → Without xs n → get_or xs n 0 ≡ 45 → parts_of xs ≡ Some (take n xs, drop (suc n) xs)
parts-some [] n lt f e = absurd (omega (arith, lt))
parts-some (b ∷ bs) zero lt f e = let z : b ≡ 45 = e in rw z refl
parts-some (b ∷ bs) (suc n) lt f e = elim (eqb_tells b 45) [
  | inl z ↦ absurd (f 0 (omega arith) z.1)
  | inr off ↦ rw off.0 (ap (option_map (onto_front b)) (parts-some bs n (omega (arith, lt)) (λ k below. f (suc k) (omega (arith, below))) e))
]

-- ## A line

-- a line that is skipped gives nothing
skipped-line : (n : ℕ) (line : List ℕ) (lines : List (List ℕ)) → is_skipped line ≡ true → pairs_from n (line ∷ lines) ≡ pairs_from (n + 1) lines
unfolding pairs_from
skipped-line n line lines skipped =
    ap (λ (t : Bool). if t then pairs_from (n + 1) lines else with_pair n (pair_of line) (pairs_from (n + 1) lines)) skipped

-- any other gives its pair, or is a fault
other-line : (n : ℕ) (line : List ℕ) (lines : List (List ℕ)) (pair : Option (ℕ × ℕ)) → is_skipped line ≡ false → pair_of line ≡ pair
    → pairs_from n (line ∷ lines) ≡ with_pair n pair (pairs_from (n + 1) lines)
unfolding pairs_from
other-line n line lines pair kept is =
    ap (λ (t : Bool). if t then pairs_from (n + 1) lines else with_pair n (pair_of line) (pairs_from (n + 1) lines)) kept
    ∙ ap (λ (o : Option (ℕ × ℕ)). with_pair n o (pairs_from (n + 1) lines)) is

pub step-skipped : (card : Card) (n : ℕ) (line : List ℕ) → is_skipped line ≡ true → Stepped (Ok card) card n line
step-skipped card n line skipped = λ lines whole so. record {
  pairs = λ ps read. so.pairs ps (skipped-line n line lines skipped ∙ read);
  fault = λ e read. so.fault e (skipped-line n line lines skipped ∙ read);
}

pub step-fault : (card : Card) (n : ℕ) (line : List ℕ) → is_skipped line ≡ false → pair_of line ≡ None → Stepped (Err (Malformed n)) card n line
step-fault card n line kept none = λ lines. other-line n line lines None kept none

pub step-pair : (old new : Card) (n : ℕ) (line : List ℕ) (a b : ℕ) → is_skipped line ≡ false → pair_of line ≡ Some (a, b)
    → ((c d : ℕ) → permits new c d ≡ (permits old c d || (c == a && d == b))) → Stepped (Ok new) old n line
step-pair old new n line a b kept some with_it = λ lines whole so. record {
  pairs = λ ps read.
      (let all = so.pairs ((a, b) ∷ ps) (other-line n line lines (Some (a, b)) kept some ∙ ap (with_pair n (Some (a, b))) read) in
      (all.0, all.1, λ c d. all.2 c d ∙ sym (or_assoc (permits old c d) (c == a && d == b) (has_pair ps c d)) ∙ sym (ap (λ (t : Bool). t || has_pair ps c d) (with_it c d))));
  fault = λ e read. so.fault e (other-line n line lines (Some (a, b)) kept some ∙ ap (with_pair n (Some (a, b))) read);
}

-- ## A text

pub within-limit : (text : List ℕ) → length text ≤ 65536 → pairs_of text ≡ pairs_from 1 (lines_of text)
within-limit text le = rw (le-ltb 65536 (length text) le) refl

-- nothing is read yet
pub nothing-read : (card : Card) (read : Result (List (ℕ × ℕ)) CardFault) → ((a b : ℕ) → permits card a b ≡ false) → Reads card read read
nothing-read card read blank = record {
  pairs = λ ps is. (ps, is, λ a b. sym (ap (λ (t : Bool). t || has_pair ps a b) (blank a b)));
  fault = λ e is. is;
}

no-lines : (n : ℕ) → pairs_from n [] ≡ Ok []
unfolding pairs_from
no-lines n = refl

-- a line behind which there is none
pub last-line : (old new : Card) (n : ℕ) (text rest line : List ℕ) → length text ≤ 65536 → lines_of rest ≡ line ∷ []
    → Reads old (pairs_from n (lines_of rest)) (pairs_from 1 (lines_of text)) → Stepped (Ok new) old n line → Gives (Ok new) (pairs_of text)
last-line old new n text rest line le only so step =
    let last : Reads new (pairs_from (n + 1) []) (pairs_from 1 (lines_of text)) = step [] (pairs_from 1 (lines_of text)) (rw only at so) in
    let all = last.pairs [] (no-lines (n + 1)) in
    (all.0, within-limit text le ∙ all.1, λ a b. sym (all.2 a b ∙ or-false (permits new a b)))
