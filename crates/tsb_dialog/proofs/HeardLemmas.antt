-- A line more, a piece more: what was said to the bytes that were read.
use Rattle.std.proofs.Common.{◌≡◌, ℕ, ◌+◌, suc, zero, List, [], ◌∷◌, ◌++◌, length, refl, sym, ap, ◌∙◌, append_assoc, subst, inl, inr, Ok, Err, arith}
use Rattle.std.proofs.lemmas.List.{append-nil}
use Rattle.std.specs.declared.option.Option.{Option}
use Rattle.std.specs.declared.result.Result.{Result}
use Rattle.tsb_lines.specs.Lines.{HasNoFeed, kept, without_return}
use Rattle.tsb_lines.proofs.KeptLemmas.{kept-more}
use Rattle.tsb_lines.proofs.LineLemmas.{feedless-both}
use Rattle.tsb_lines.specs.declared.writes.WriteError.{WriteError}
use Rattle.tsb_dialog.specs.declared.answers.Flow.{Flow}
use Rattle.tsb_dialog.specs.declared.answers.Flow.TheVariants.{On, Over}
use Rattle.tsb_dialog.specs.Going.{Fed}
use Rattle.tsb_dialog.specs.Heard.{Heard, IsOver, IsSaid, asked, fed}
use Rattle.tsb_dialog.specs.Says.{Answered, Saying}
use Rattle.tsb_dialog.proofs.SaidLemmas.{said-more, said-nothing}

kept-nothing : (most : ℕ) → kept most [] ≡ []
kept-nothing zero = refl
kept-nothing (suc most) = refl

pub heard-start : {S : Type 0} (most : ℕ) (says : Saying S) (from : S) (held : List ℕ) → held ≡ [] → Heard most says from [] [] 1 from held
heard-start most says from held empty =
    record { lines = []; rest = []; whole = refl; ended = tt; unfinished = tt; kept = empty ∙ sym (kept-nothing most); count = refl; runs = (refl, refl) }

-- more of the line
heard-piece : {S : Type 0} (most : ℕ) (says : Saying S) (from : S) (bytes text : List ℕ) (n : ℕ) (now : S) (held new piece : List ℕ) → HasNoFeed piece → new ≡ kept most (held ++ piece)
    → Heard most says from bytes text n now held → Heard most says from (bytes ++ piece) text n now new
heard-piece most says from bytes text n now held new piece none is h = record {
  lines = h.lines;
  rest = h.rest ++ piece;
  whole = ap (λ (v : List ℕ). v ++ piece) h.whole ∙ append_assoc (fed h.lines) h.rest piece;
  ended = h.ended;
  unfinished = feedless-both h.rest piece h.unfinished none;
  kept = is ∙ ap (λ (v : List ℕ). kept most (v ++ piece)) h.kept ∙ kept-more most h.rest piece;
  count = h.count;
  runs = h.runs;
}

-- what was said to the line that is held was said to the line as it is asked
line-asked : {S : Type 0} (most : ℕ) (says : Saying S) (from : S) (bytes text : List ℕ) (n : ℕ) (now : S) (held answer : List ℕ) (flow : Flow) (left : S) → (h : Heard most says from bytes text n now held)
    → says now n (without_return held) answer flow left → says now (suc (length h.lines)) (asked most h.rest) answer flow left
line-asked most says from bytes text n now held answer flow left h told =
    subst (λ (v : List ℕ). says now (suc (length h.lines)) (without_return v) answer flow left) h.kept (subst (λ (k : ℕ). says now k (without_return held) answer flow left) h.count told)

-- the line was answered, and the dialog goes on
heard-line : {S : Type 0} (most : ℕ) (says : Saying S) (from : S) (bytes text : List ℕ) (n : ℕ) (now : S) (held answer : List ℕ) (left : S) → Heard most says from bytes text n now held
    → says now n (without_return held) answer On left → Heard most says from (bytes ++ 10 ∷ []) (text ++ answer) (n + 1) left []
heard-line most says from bytes text n now held answer left h told = record {
  lines = h.rest ∷ h.lines;
  rest = [];
  whole = ap (λ (v : List ℕ). v ++ 10 ∷ []) h.whole ∙ append_assoc (fed h.lines) h.rest (10 ∷ []) ∙ sym (append-nil (fed h.lines ++ (h.rest ++ 10 ∷ [])));
  ended = (h.unfinished, h.ended);
  unfinished = tt;
  kept = sym (kept-nothing most);
  count = let e : n ≡ suc (length h.lines) = h.count in omega (arith, e);
  runs = (text, answer, now, h.runs, line-asked most says from bytes text n now held answer On left h told, refl);
}

-- the line was answered, and ended the dialog
over-line : {S : Type 0} (most : ℕ) (says : Saying S) (from : S) (bytes text : List ℕ) (n : ℕ) (now : S) (held answer : List ℕ) (left : S) → Heard most says from bytes text n now held
    → says now n (without_return held) answer Over left → IsOver most says from (bytes ++ 10 ∷ []) (text ++ answer) left
over-line most says from bytes text n now held answer left h told =
    record { front = bytes; more = []; whole = refl; before = text; number = n; now = now; held = held; heard = h; answer = answer; told = told; all = refl }

-- ## A piece that ends no line, or ends one

-- bytes without a line feed
pub fed-piece : {A S : Type 0} (most : ℕ) (stands : A → S → Type 0) (says : Saying S) (from now : S) (bytes text : List ℕ) (n : ℕ) (held new piece : List ℕ) (answers : A) (a : Option (List ℕ)) (waits : List ℕ)
    → HasNoFeed piece → new ≡ kept most (held ++ piece) → stands answers now → Heard most says from bytes text n now held → Fed most stands says from (bytes ++ piece) text (Ok On) answers n new a a waits waits
fed-piece most stands says from now bytes text n held new piece answers a waits none is here h = (
  now,
  here,
  record {
    text = [];
    said = said-nothing a waits;
    so = subst (λ (v : List ℕ). Heard most says from (bytes ++ piece) v n now new) (sym (append-nil text)) (heard-piece most says from bytes text n now held new piece none is h);
  },
)

-- the rest of a line and its line feed, and the line was answered
pub fed-line : {A S : Type 0} (flow : Flow) (most : ℕ) (stands : A → S → Type 0) (says : Saying S) (from now : S) (bytes text : List ℕ) (n : ℕ) (held rest new line empty : List ℕ) (answers : A) (a c : Option (List ℕ)) (waited waits : List ℕ)
    → HasNoFeed rest → new ≡ kept most (held ++ rest) → line ≡ without_return new → empty ≡ [] → Heard most says from bytes text n now held → Answered stands (says now n line) (Ok flow) answers a c waited waits
    → Fed most stands says from (bytes ++ (rest ++ 10 ∷ [])) text (Ok flow) answers (n + 1) empty a c waited waits
fed-line {S = S} On most stands says from now bytes text n held rest new line empty answers a c waited waits none grown is clear h x =
    let left : S = x.0 in (
      left,
      x.1,
      record {
        text = x.2.text;
        said = x.2.said;
        so = subst (λ (v : List ℕ). Heard most says from v (text ++ x.2.text) (n + 1) left empty) (append_assoc bytes rest (10 ∷ []))
            (subst (λ (v : List ℕ). Heard most says from ((bytes ++ rest) ++ 10 ∷ []) (text ++ x.2.text) (n + 1) left v) (sym clear)
            (heard-line most says from (bytes ++ rest) text n now new x.2.text left (heard-piece most says from bytes text n now held new rest none grown h) (subst (λ (v : List ℕ). says now n v x.2.text On left) is x.2.so)));
      },
    )
fed-line {S = S} Over most stands says from now bytes text n held rest new line empty answers a c waited waits none grown is clear h x =
    let left : S = x.0 in (
      left,
      x.1,
      record {
        text = x.2.text;
        said = x.2.said;
        so = subst (λ (v : List ℕ). IsOver most says from v (text ++ x.2.text) left) (append_assoc bytes rest (10 ∷ []))
            (over-line most says from (bytes ++ rest) text n now new x.2.text left (heard-piece most says from bytes text n now held new rest none grown h) (subst (λ (v : List ℕ). says now n v x.2.text Over left) is x.2.so));
      },
    )

-- what may be said to a line may be said to the bytes up to it
said-line : {S : Type 0} (flow : Flow) (most : ℕ) (says : Saying S) (from : S) (bytes text : List ℕ) (n : ℕ) (now : S) (held answer : List ℕ) (left : S) → Heard most says from bytes text n now held
    → says now n (without_return held) answer flow left → IsSaid most says from (bytes ++ 10 ∷ []) (text ++ answer)
said-line On most says from bytes text n now held answer left h told = record {
  front = bytes ++ 10 ∷ [];
  more = [];
  whole = sym (append-nil (bytes ++ 10 ∷ []));
  so = inl (n + 1, left, [], heard-line most says from bytes text n now held answer left h told);
}
said-line Over most says from bytes text n now held answer left h told = record {
  front = bytes ++ 10 ∷ [];
  more = [];
  whole = sym (append-nil (bytes ++ 10 ∷ []));
  so = inr (left, over-line most says from bytes text n now held answer left h told);
}

pub fed-fault : {A S : Type 0} (most : ℕ) (stands : A → S → Type 0) (says : Saying S) (from now : S) (bytes text : List ℕ) (n m : ℕ) (held rest new line keeps : List ℕ) (answers : A) (e : WriteError) (a c : Option (List ℕ)) (waited waits : List ℕ)
    → HasNoFeed rest → new ≡ kept most (held ++ rest) → line ≡ without_return new → Heard most says from bytes text n now held → Answered stands (says now n line) (Err e) answers a c waited waits
    → Fed most stands says from (bytes ++ (rest ++ 10 ∷ [])) text (Err e) answers m keeps a c waited waits
fed-fault {S = S} most stands says from now bytes text n m held rest new line keeps answers e a c waited waits none grown is h x =
    let unsaid : List ℕ = x.so.0 in
    let flow : Flow = x.so.1 in
    let left : S = x.so.2 in
    let told : says now n (without_return new) (x.text ++ unsaid) flow left = subst (λ (v : List ℕ). says now n v (x.text ++ unsaid) flow left) is x.so.3 in
    record {
      text = x.text;
      said = x.said;
      so = (
        unsaid,
        subst (λ (v : List ℕ). IsSaid most says from v ((text ++ x.text) ++ unsaid)) (append_assoc bytes rest (10 ∷ []))
            (subst (λ (v : List ℕ). IsSaid most says from ((bytes ++ rest) ++ 10 ∷ []) v) (sym (append_assoc text x.text unsaid))
            (said-line flow most says from (bytes ++ rest) text n now new (x.text ++ unsaid) left (heard-piece most says from bytes text n now held new rest none grown h) told)),
      );
    }

-- a line that begins there, whatever was answered
pub fed-whole : {A S : Type 0} (r : Result Flow WriteError) (most : ℕ) (stands : A → S → Type 0) (says : Saying S) (from now : S) (bytes text : List ℕ) (n : ℕ) (held rest new line : List ℕ) (answers : A) (a c : Option (List ℕ)) (waited waits : List ℕ)
    → HasNoFeed rest → held ≡ [] → new ≡ kept most rest → line ≡ without_return new → Heard most says from bytes text n now held → Answered stands (says now n line) r answers a c waited waits
    → Fed most stands says from (bytes ++ (rest ++ 10 ∷ [])) text r answers (n + 1) held a c waited waits
fed-whole (Ok flow) most stands says from now bytes text n held rest new line answers a c waited waits none empty grown is h x =
    fed-line flow most stands says from now bytes text n held rest new line held answers a c waited waits none (grown ∙ ap (λ (v : List ℕ). kept most (v ++ rest)) (sym empty)) is empty h x
fed-whole (Err e) most stands says from now bytes text n held rest new line answers a c waited waits none empty grown is h x =
    fed-fault most stands says from now bytes text n (n + 1) held rest new line held answers e a c waited waits none (grown ∙ ap (λ (v : List ℕ). kept most (v ++ rest)) (sym empty)) is h x

-- ## Bytes

-- what is over stays so, whatever bytes come after
pub over-more : {S : Type 0} (most : ℕ) (says : Saying S) (from : S) (bytes more text : List ℕ) (end : S) → IsOver most says from bytes text end → IsOver most says from (bytes ++ more) text end
over-more most says from bytes more text end o = record {
  front = o.front;
  more = o.more ++ more;
  whole = ap (λ (v : List ℕ). v ++ more) o.whole ∙ append_assoc o.front (10 ∷ o.more) more;
  before = o.before;
  number = o.number;
  now = o.now;
  held = o.held;
  heard = o.heard;
  answer = o.answer;
  told = o.told;
  all = o.all;
}

pub said-again : {S : Type 0} (most : ℕ) (says : Saying S) (from : S) (bytes more text : List ℕ) → IsSaid most says from bytes text → IsSaid most says from (bytes ++ more) text
said-again most says from bytes more text s =
    record { front = s.front; more = s.more ++ more; whole = ap (λ (v : List ℕ). v ++ more) s.whole ∙ append_assoc s.front s.more more; so = s.so }

-- after bytes that the dialog went on after, others were taken
pub fed-then : {A S : Type 0} (r : Result Flow WriteError) (most : ℕ) (stands : A → S → Type 0) (says : Saying S) (from : S) (bytes piece text : List ℕ) (mid new : A) (n m : ℕ) (held keeps : List ℕ) (a b c : Option (List ℕ)) (p q w : List ℕ)
    → Fed most stands says from bytes text (Ok On) mid n held a b p q
    → ((from now : S) (bytes text : List ℕ) → stands mid now → Heard most says from bytes text n now held → Fed most stands says from (bytes ++ piece) text r new m keeps b c q w)
    → Fed most stands says from (bytes ++ piece) text r new m keeps a c p w
fed-then {S = S} (Ok On) most stands says from bytes piece text mid new n m held keeps a b c p q w f step =
    let x : Fed most stands says from (bytes ++ piece) (text ++ f.2.text) (Ok On) new m keeps b c q w = step from f.0 bytes (text ++ f.2.text) f.1 f.2.so in (
      x.0,
      x.1,
      record {
        text = f.2.text ++ x.2.text;
        said = said-more a b c p q w f.2.text x.2.text f.2.said x.2.said;
        so = subst (λ (v : List ℕ). Heard most says from (bytes ++ piece) v m x.0 keeps) (append_assoc text f.2.text x.2.text) x.2.so;
      },
    )
fed-then {S = S} (Ok Over) most stands says from bytes piece text mid new n m held keeps a b c p q w f step =
    let x : Fed most stands says from (bytes ++ piece) (text ++ f.2.text) (Ok Over) new m keeps b c q w = step from f.0 bytes (text ++ f.2.text) f.1 f.2.so in (
      x.0,
      x.1,
      record {
        text = f.2.text ++ x.2.text;
        said = said-more a b c p q w f.2.text x.2.text f.2.said x.2.said;
        so = subst (λ (v : List ℕ). IsOver most says from (bytes ++ piece) v x.0) (append_assoc text f.2.text x.2.text) x.2.so;
      },
    )
fed-then {S = S} (Err e) most stands says from bytes piece text mid new n m held keeps a b c p q w f step =
    let x : Fed most stands says from (bytes ++ piece) (text ++ f.2.text) (Err e) new m keeps b c q w = step from f.0 bytes (text ++ f.2.text) f.1 f.2.so in
    record {
      text = f.2.text ++ x.text;
      said = said-more a b c p q w f.2.text x.text f.2.said x.said;
      so = (x.so.0, subst (λ (v : List ℕ). IsSaid most says from (bytes ++ piece) (v ++ x.so.0)) (append_assoc text f.2.text x.text) x.so.1);
    }

-- a dialog that does not go on takes nothing of the bytes after
pub fed-rest-over : {A S : Type 0} (most : ℕ) (stands : A → S → Type 0) (says : Saying S) (from : S) (bytes more text : List ℕ) (new : A) (n : ℕ) (held : List ℕ) (a b : Option (List ℕ)) (p q : List ℕ)
    → Fed most stands says from bytes text (Ok Over) new n held a b p q → Fed most stands says from (bytes ++ more) text (Ok Over) new n held a b p q
fed-rest-over most stands says from bytes more text new n held a b p q f =
    (f.0, f.1, record { text = f.2.text; said = f.2.said; so = over-more most says from bytes more (text ++ f.2.text) f.0 f.2.so })

pub fed-rest-fault : {A S : Type 0} (most : ℕ) (stands : A → S → Type 0) (says : Saying S) (from : S) (bytes more text : List ℕ) (new : A) (n : ℕ) (held : List ℕ) (e : WriteError) (a b : Option (List ℕ)) (p q : List ℕ)
    → Fed most stands says from bytes text (Err e) new n held a b p q → Fed most stands says from (bytes ++ more) text (Err e) new n held a b p q
fed-rest-fault most stands says from bytes more text new n held e a b p q f =
    record { text = f.text; said = f.said; so = (f.so.0, said-again most says from bytes more ((text ++ f.text) ++ f.so.0) f.so.1) }

-- no bytes
pub fed-nothing : {A S : Type 0} (most : ℕ) (stands : A → S → Type 0) (says : Saying S) (from now : S) (bytes text : List ℕ) (answers : A) (n : ℕ) (held : List ℕ) (a : Option (List ℕ)) (waits : List ℕ)
    → stands answers now → Heard most says from bytes text n now held → Fed most stands says from (bytes ++ []) text (Ok On) answers n held a a waits waits
fed-nothing most stands says from now bytes text answers n held a waits here h = (
  now,
  here,
  record {
    text = [];
    said = said-nothing a waits;
    so = subst (λ (v : List ℕ). Heard most says from v (text ++ []) n now held) (sym (append-nil bytes)) (subst (λ (v : List ℕ). Heard most says from bytes v n now held) (sym (append-nil text)) h);
  },
)
