-- Texts that are equal up to want of memory, put together line by line; and which line says that memory ran out.
use Rattle.std.proofs.Common.{◌≡◌, ℕ, ◌==◌, ◌||◌, if◌then◌else◌, Bool, true, false, List, [], ◌∷◌, ◌++◌, bytes_eq, refl, sym, ap, ◌∙◌, subst, append_assoc, append-nil, inl, inr}
use Rattle.std.specs.List.{list_any}
use Rattle.tsb_text.specs.tsb_lines.Lines.{split, onto_first}
use Rattle.tsb_text.specs.Ended.{EndsLine}
use Rattle.tsb_text.specs.Written.{with_feed}
use Rattle.tsb_laws.specs.OneText.{memory_line, tells_memory, PartsAtMemory, AreEqualButForMemory}

-- ## Lines

pub ends-feed : (line : List ℕ) → EndsLine (with_feed line)
ends-feed line = inr (line, refl)

pub ends-more : (a b : List ℕ) → EndsLine a → EndsLine b → EndsLine (a ++ b)
ends-more a b first (inl none) = subst EndsLine (sym (ap (λ (l : List ℕ). a ++ l) none ∙ append-nil a)) first
ends-more a b first (inr x) = inr (a ++ x.0, ap (λ (l : List ℕ). a ++ l) x.1 ∙ sym (append_assoc a x.0 (10 ∷ [])))

-- ## Where texts part

pub parts-here : (text other behind : List ℕ) → text ≡ with_feed memory_line ++ behind → PartsAtMemory text other
parts-here text other behind only = record {
  front = [];
  behind = behind;
  others = other;
  ended = inl refl;
  told = only;
  shared = refl;
}

-- after the same line
pub parts-next : (line text other behind others : List ℕ) → EndsLine line → text ≡ line ++ (with_feed memory_line ++ behind) → other ≡ line ++ others → PartsAtMemory text other
parts-next line text other behind others ended told shared = record {
  front = line;
  behind = behind;
  others = others;
  ended = ended;
  told = told;
  shared = shared;
}

-- with more after both
pub parts-before : (text other rest more : List ℕ) → PartsAtMemory text other → PartsAtMemory (text ++ rest) (other ++ more)
parts-before text other rest more p = record {
  front = p.front;
  behind = p.behind ++ rest;
  others = p.others ++ more;
  ended = p.ended;
  told = ap (λ (l : List ℕ). l ++ rest) p.told
      ∙ append_assoc p.front (with_feed memory_line ++ p.behind) rest
      ∙ ap (λ (l : List ℕ). p.front ++ l) (append_assoc (with_feed memory_line) p.behind rest);
  shared = ap (λ (l : List ℕ). l ++ more) p.shared ∙ append_assoc p.front p.others more;
}

-- with lines before both
pub parts-behind : (lines text other : List ℕ) → EndsLine lines → PartsAtMemory text other → PartsAtMemory (lines ++ text) (lines ++ other)
parts-behind lines text other ended p = record {
  front = lines ++ p.front;
  behind = p.behind;
  others = p.others;
  ended = ends-more lines p.front ended p.ended;
  told = ap (λ (l : List ℕ). lines ++ l) p.told ∙ sym (append_assoc lines p.front (with_feed memory_line ++ p.behind));
  shared = ap (λ (l : List ℕ). lines ++ l) p.shared ∙ sym (append_assoc lines p.front p.others);
}

pub equal-behind : (lines text other : List ℕ) → EndsLine lines → AreEqualButForMemory text other → AreEqualButForMemory (lines ++ text) (lines ++ other)
equal-behind lines text other ended (inl same) = inl (ap (λ (l : List ℕ). lines ++ l) same)
equal-behind lines text other ended (inr (inl p)) = inr (inl (parts-behind lines text other ended p))
equal-behind lines text other ended (inr (inr p)) = inr (inr (parts-behind lines other text ended p))

-- ## Lines that say that memory ran out

-- a line after the first passes the test
PassesBehind : (List ℕ → Bool) → List (List ℕ) → Type 0
PassesBehind test [] = ⊥
PassesBehind test (l ∷ ls) = list_any test ls ≡ true

passes-behind : (test : List ℕ → Bool) (ls : List (List ℕ)) → PassesBehind test ls → list_any test ls ≡ true
unfolding PassesBehind
passes-behind test [] h = absurd h
passes-behind test (l ∷ ls) h = elim (test l) as (λ b. (b || list_any test ls) ≡ true) [ true ↦ refl | false ↦ h ]

passes-onto : (test : List ℕ → Bool) (b : ℕ) (ls : List (List ℕ)) → PassesBehind test ls → PassesBehind test (onto_first b ls)
unfolding PassesBehind
passes-onto test b [] h = absurd h
passes-onto test b (l ∷ ls) h = h

-- a line of a text is one of the text with more lines before it
split-behind : (test : List ℕ → Bool) (line text : List ℕ) → list_any test (split text) ≡ true → PassesBehind test (split (line ++ 10 ∷ text))
unfolding PassesBehind
split-behind test [] text h = h
split-behind test (b ∷ line) text h =
    let rest : PassesBehind test (split (line ++ 10 ∷ text)) = split-behind test line text h in
    elim (b == 10) as (λ is_feed. PassesBehind test (if is_feed then [] ∷ split (line ++ 10 ∷ text) else onto_first b (split (line ++ 10 ∷ text)))) [
      | true ↦ passes-behind test (split (line ++ 10 ∷ text)) rest
      | false ↦ passes-onto test b (split (line ++ 10 ∷ text)) rest
    ]

tells-here : (behind : List ℕ) → tells_memory (with_feed memory_line ++ behind) ≡ true
tells-here behind = refl

tells-behind : (front behind : List ℕ) → EndsLine front → tells_memory (front ++ (with_feed memory_line ++ behind)) ≡ true
tells-behind front behind (inl none) = subst (λ (f : List ℕ). tells_memory (f ++ (with_feed memory_line ++ behind)) ≡ true) (sym none) (tells-here behind)
tells-behind front behind (inr x) =
    let text : List ℕ = with_feed memory_line ++ behind in
    subst (λ (l : List ℕ). tells_memory l ≡ true) (sym (ap (λ (f : List ℕ). f ++ text) x.1 ∙ append_assoc x.0 (10 ∷ []) text))
    (passes-behind (bytes_eq memory_line) (split (x.0 ++ 10 ∷ text)) (split-behind (bytes_eq memory_line) x.0 text (tells-here behind)))

pub parts-tell : (text other : List ℕ) → PartsAtMemory text other → tells_memory text ≡ true
parts-tell text other p = ap tells_memory p.told ∙ tells-behind p.front p.behind p.ended
