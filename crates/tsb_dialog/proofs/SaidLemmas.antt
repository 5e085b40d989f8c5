-- Answers are said one after another, and go out in any pieces.
use Rattle.std.proofs.Common.{◌≡◌, ℕ, ◌+◌, ◌-◌, ◌<◌, List, [], ◌∷◌, ◌++◌, length, take, drop, get_or, refl, sym, ap, ◌∙◌, append_assoc, arith, subst, OnOk, OnErr, Ok, Err}
use Rattle.std.proofs.lemmas.List.{append-nil, take-append-drop, drop-drop, length-drop, take_all}
use Rattle.std.specs.declared.option.Option.{Option}
use Rattle.std.specs.declared.result.Result.{Result}
use Rattle.std.specs.Io.KnownBytes.{Appends, Keeps}
use Rattle.tsb_lines.proofs.StreamLemmas.{appends-kept, appends-more, appends-nothing, front-more}
use Rattle.tsb_dialog.specs.Said.{IsCutShort, Said, SaidUntilFault, Wrote}

pub said-nothing : (a : Option (List ℕ)) (w : List ℕ) → Said a a w w []
said-nothing a w = record { gone = []; grown = appends-nothing a; kept = append-nil w }

pub said-kept : (a b c : Option (List ℕ)) (w v t : List ℕ) → Said a b w v t → Keeps b c → Said a c w v t
said-kept a b c w v t s k = record { gone = s.gone; grown = appends-kept a b c s.gone s.grown k; kept = s.kept }

pub said-more : (a b c : Option (List ℕ)) (w v u t x : List ℕ) → Said a b w v t → Said b c v u x → Said a c w u (t ++ x)
said-more a b c w v u t x s r = record {
  gone = s.gone ++ r.gone;
  grown = appends-more a b c s.gone r.gone s.grown r.grown;
  kept = sym (append_assoc w t x) ∙ ap (λ (l : List ℕ). l ++ x) s.kept ∙ append_assoc s.gone v x ∙ ap (λ (l : List ℕ). s.gone ++ l) r.kept ∙ sym (append_assoc s.gone r.gone u);
}

-- of the bytes that were said, n more have gone after the first g
pub said-gone : (a b c : Option (List ℕ)) (w items lent : List ℕ) (g n : ℕ) → lent ≡ items → Said a b w (drop g items) [] → Appends b c (take n (take (length lent - g) (drop g lent))) → Said a c w (drop (g + n) items) []
said-gone a b c w items lent g n is s out =
    let all : take (length items - g) (drop g items) ≡ drop g items = take_all (length items - g) (drop g items) (omega (arith, length-drop g items)) in
    let sent : Appends b c (take n (drop g items)) = subst (λ (l : List ℕ). Appends b c (take n l)) all (subst (λ (l : List ℕ). Appends b c (take n (take (length l - g) (drop g l)))) is out) in
    let cut : drop g items ≡ take n (drop g items) ++ drop (g + n) items = sym (take-append-drop n (drop g items)) ∙ ap (λ (l : List ℕ). take n (drop g items) ++ l) (drop-drop n g items) in
    record {
      gone = s.gone ++ take n (drop g items);
      grown = appends-more a b c s.gone (take n (drop g items)) s.grown sent;
      kept = s.kept ∙ ap (λ (l : List ℕ). s.gone ++ l) cut ∙ sym (append_assoc s.gone (take n (drop g items)) (drop (g + n) items));
    }

-- one byte more of a text
pub said-byte : (a b c : Option (List ℕ)) (w v u text : List ℕ) (i x : ℕ) → i < length text → x ≡ get_or text i 0 → Said a b w v (take i text) → Said b c v u (x ∷ []) → Said a c w u (take (i + 1) text)
said-byte a b c w v u text i x lt is s r = subst (λ (t : List ℕ). Said a c w u t) (front-more [] text i x lt is) (said-more a b c w v u (take i text) (x ∷ []) s r)

-- a first part of a text was said, and no more of it
pub said-front : (a b c : Option (List ℕ)) (w v u text : List ℕ) (i : ℕ) → Said a b w v (take i text) → Said b c v u [] → Wrote a c w u (λ said. (rest : List ℕ) × (text ≡ said ++ rest))
said-front a b c w v u text i s r = record {
  text = take i text ++ [];
  said = said-more a b c w v u (take i text) [] s r;
  so = (drop i text, sym (take-append-drop i text) ∙ ap (λ (l : List ℕ). l ++ drop i text) (sym (append-nil (take i text))));
}

-- ## Texts that a fault may cut short

-- a line was said, or nothing of it
pub until-line : {T E : Type 0} (r : Result T E) (a b : Option (List ℕ)) (p q text : List ℕ) → OnOk r (Said a b p q text) → OnErr r (Said a b p q []) → SaidUntilFault r a b p q text
until-line (Ok t) a b p q text ok fault = ok
until-line (Err e) a b p q text ok fault = record { text = []; said = fault; so = (text, refl) }

-- a text after one that was said
pub until-more : {T E : Type 0} (r : Result T E) (a b c : Option (List ℕ)) (w v u text x : List ℕ) → Said a b w v text → SaidUntilFault r b c v u x → SaidUntilFault r a c w u (text ++ x)
until-more (Ok t) a b c w v u text x said more = said-more a b c w v u text x said more
until-more (Err e) a b c w v u text x said more = record {
  text = text ++ more.text;
  said = said-more a b c w v u text more.text said more.said;
  so = (more.so.0, ap (λ (l : List ℕ). text ++ l) more.so.1 ∙ sym (append_assoc text more.text more.so.0));
}

-- no more was said after a fault
pub still-cut : (a b : Option (List ℕ)) (w v text x : List ℕ) → IsCutShort a b w v text → IsCutShort a b w v (text ++ x)
still-cut a b w v text x cut = record {
  text = cut.text;
  said = cut.said;
  so = (cut.so.0 ++ x, ap (λ (l : List ℕ). l ++ x) cut.so.1 ∙ append_assoc cut.text cut.so.0 x);
}
