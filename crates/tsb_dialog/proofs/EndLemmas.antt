-- The end of the input: the last line is answered, and all that waits is written.
use Rattle.std.proofs.Common.{◌≡◌, ℕ, List, [], ◌++◌, sym, subst, ◌∙◌, ap, append_assoc, Ok, Err, OnOk, refl}
use Rattle.std.proofs.lemmas.List.{append-nil}
use Rattle.std.specs.declared.option.Option.{Option}
use Rattle.std.specs.declared.result.Result.{Result}
use Rattle.tsb_lines.specs.declared.writes.WriteError.{WriteError}
use Rattle.tsb_dialog.specs.declared.answers.Flow.{Flow}
use Rattle.tsb_dialog.specs.Going.{Finished}
use Rattle.tsb_dialog.specs.Heard.{Heard, IsAnswered}
use Rattle.tsb_dialog.specs.Said.{Said}
use Rattle.tsb_dialog.specs.Says.{Answered, Saying}
use Rattle.tsb_dialog.proofs.SaidLemmas.{said-more}

answered : {S : Type 0} (most : ℕ) (says : Saying S) (from : S) (bytes text : List ℕ) (n : ℕ) (now : S) (held line answer : List ℕ) (flow : Flow) (end : S) → line ≡ held → Heard most says from bytes text n now held
    → says now n line answer flow end → IsAnswered most says from bytes (text ++ answer) end
answered most says from bytes text n now held line answer flow end is h told = record {
  before = text;
  number = n;
  now = now;
  held = held;
  heard = h;
  answer = answer;
  flow = flow;
  told = subst (λ (v : List ℕ). says now n v answer flow end) is told;
  all = refl;
}

pub finished-fault : {A S : Type 0} (e : WriteError) (most : ℕ) (stands : A → S → Type 0) (says : Saying S) (from now : S) (bytes text : List ℕ) (n : ℕ) (held line : List ℕ) (answers : A) (a b : Option (List ℕ)) (waited waits : List ℕ)
    → line ≡ held → Heard most says from bytes text n now held → Answered stands (says now n line) (Err e) answers a b waited waits
    → Finished most stands says from bytes text (Err e) answers a b waited waits
finished-fault e most stands says from now bytes text n held line answers a b waited waits is h x = record {
  text = x.text;
  said = x.said;
  so = (
    x.so.0,
    x.so.2,
    subst (λ (v : List ℕ). IsAnswered most says from bytes v x.so.2) (sym (append_assoc text x.text x.so.0)) (answered most says from bytes text n now held line (x.text ++ x.so.0) x.so.1 x.so.2 is h x.so.3),
  );
}

pub finished-sent : {A S : Type 0} (flow : Flow) (r : Result (Unit {0}) WriteError) (most : ℕ) (stands : A → S → Type 0) (says : Saying S) (from now : S) (bytes text : List ℕ) (n : ℕ) (held line : List ℕ) (answers : A) (a b c : Option (List ℕ)) (p q w : List ℕ)
    → line ≡ held → Heard most says from bytes text n now held → Answered stands (says now n line) (Ok flow) answers a b p q → Said b c q w [] → OnOk r (w ≡ [])
    → Finished most stands says from bytes text r answers a c p w
finished-sent flow (Ok u) most stands says from now bytes text n held line answers a b c p q w is h x said ok = (
  x.0,
  x.1,
  ok,
  record {
    text = x.2.text ++ [];
    said = said-more a b c p q w x.2.text [] x.2.said said;
    so = subst (λ (v : List ℕ). IsAnswered most says from bytes (text ++ v) x.0) (sym (append-nil x.2.text)) (answered most says from bytes text n now held line x.2.text flow x.0 is h x.2.so);
  },
)
finished-sent flow (Err e) most stands says from now bytes text n held line answers a b c p q w is h x said ok = record {
  text = x.2.text ++ [];
  said = said-more a b c p q w x.2.text [] x.2.said said;
  so = (
    [],
    x.0,
    subst (λ (v : List ℕ). IsAnswered most says from bytes v x.0) (sym (append-nil (text ++ (x.2.text ++ [])) ∙ ap (λ (v : List ℕ). text ++ v) (append-nil x.2.text)))
        (answered most says from bytes text n now held line x.2.text flow x.0 is h x.2.so),
  );
}
