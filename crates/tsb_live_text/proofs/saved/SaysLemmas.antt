-- A text is said a part after another.
use Rattle.std.proofs.Common.{◌≡◌, ◌∙◌, ℕ, List, [], ◌++◌, refl, sym, ap, subst, append_assoc, append-nil, Ok, Err, OnOk}
use Rattle.std.specs.declared.option.Option.{Option}
use Rattle.std.specs.declared.result.Result.{Result}
use Rattle.tsb_lines.specs.declared.writes.WriteError.{WriteError}
use Rattle.tsb_dialog.specs.Said.{Said, Wrote}
use Rattle.tsb_dialog.proofs.SaidLemmas.{said-more, said-nothing}
use Rattle.tsb_live_text.specs.saved.Says.{SaysText}

-- what two clauses of one call say
pub says : (r : Result (Unit {0}) WriteError) (text : List ℕ) (a b : Option (List ℕ)) (p q : List ℕ) → OnOk r (Said a b p q text) → Wrote a b p q (λ said. (rest : List ℕ) × (text ≡ said ++ rest)) → SaysText r text a b p q
says (Ok u) text a b p q ok front = ok
says (Err e) text a b p q ok front = front

-- of a whole text all but this was said
pub record Saying (whole rest : List ℕ) (a b : Option (List ℕ)) (p q : List ℕ) : Type 0 where
  pub text : List ℕ
  pub said : Said a b p q text
  pub all : text ++ rest ≡ whole

pub begun : (whole : List ℕ) (a : Option (List ℕ)) (p : List ℕ) → Saying whole whole a a p p
begun whole a p = record { text = []; said = said-nothing a p; all = refl }

-- what is left, in another form
pub left : (whole rest other : List ℕ) (a b : Option (List ℕ)) (p q : List ℕ) → rest ≡ other → Saying whole rest a b p q → Saying whole other a b p q
left whole rest other a b p q same s = record { text = s.text; said = s.said; all = ap (λ (v : List ℕ). s.text ++ v) (sym same) ∙ s.all }

-- one part more
pub more : (whole part rest : List ℕ) (a b c : Option (List ℕ)) (p q w : List ℕ) → Saying whole (part ++ rest) a b p q → Said b c q w part → Saying whole rest a c p w
more whole part rest a b c p q w s next = record { text = s.text ++ part; said = said-more a b c p q w s.text part s.said next; all = append_assoc s.text part rest ∙ s.all }

-- a fault came within a part
pub cut : (e : WriteError) (whole part rest : List ℕ) (a b c : Option (List ℕ)) (p q w : List ℕ) → Saying whole (part ++ rest) a b p q → SaysText (Err e) part b c q w → SaysText (Err e) whole a c p w
cut e whole part rest a b c p q w s wrote = record {
  text = s.text ++ wrote.text;
  said = said-more a b c p q w s.text wrote.text s.said wrote.said;
  so = (
    wrote.so.0 ++ rest,
    sym s.all ∙ ap (λ (v : List ℕ). s.text ++ (v ++ rest)) wrote.so.1 ∙ ap (λ (v : List ℕ). s.text ++ v) (append_assoc wrote.text wrote.so.0 rest)
        ∙ sym (append_assoc s.text wrote.text (wrote.so.0 ++ rest)),
  );
}

-- the last part
pub last : (r : Result (Unit {0}) WriteError) (whole part : List ℕ) (a b c : Option (List ℕ)) (p q w : List ℕ) → Saying whole part a b p q → SaysText r part b c q w → SaysText r whole a c p w
last (Ok u) whole part a b c p q w s said = subst (λ (v : List ℕ). Said a c p w v) s.all (said-more a b c p q w s.text part s.said said)
last (Err e) whole part a b c p q w s wrote = cut e whole part [] a b c p q w (left whole part (part ++ []) a b p q (sym (append-nil part)) s) wrote

-- nothing is left
pub ended : (whole : List ℕ) (a b : Option (List ℕ)) (p q : List ℕ) → Saying whole [] a b p q → SaysText (Ok tt) whole a b p q
ended whole a b p q s = subst (λ (v : List ℕ). Said a b p q v) (sym (append-nil s.text) ∙ s.all) s.said
