-- What is said of a tick and of what follows it.
use Rattle.std.proofs.Common.{◌≡◌, ℕ, List, ◌++◌, Bool, sym, ap, ◌∙◌, append_assoc, Ok, Err}
use Rattle.std.specs.declared.option.Option.{Option}
use Rattle.tsb_lines.specs.declared.writes.WriteError.{WriteError}
use Rattle.tsb_log_text.specs.declared.log.LogRow.{LogRow}
use Rattle.tsb_step.specs.declared.inputs.Input.{Input}
use Rattle.tsb_types.specs.declared.refusal.Refusal.{Refusal}
use Rattle.tsb_dialog.specs.Said.{IsCutShort, Said}
use Rattle.tsb_dialog.proofs.SaidLemmas.{said-more}
use Rattle.tsb_text.specs.Answers.{Leads, Setup}
use Rattle.tsb_text.specs.Obeyed.{Done, OnCourse}
use Rattle.tsb_text.specs.Obeys.{trail}
use Rattle.tsb_text.specs.Trails.{Trailing}
use Rattle.tsb_text.proofs.TextLemmas.{some-leads}
use Rattle.tsb_live_text.specs.Changes.{TellsTick}

-- a first part of a text that is said after what was said
pub rejoin : (said cut rest more : List ℕ) → (said ++ cut) ++ (rest ++ more) ≡ (said ++ (cut ++ rest)) ++ more
rejoin said cut rest more =
    append_assoc said cut (rest ++ more) ∙ ap (λ (v : List ℕ). said ++ v) (sym (append_assoc cut rest more)) ∙ sym (append_assoc said (cut ++ rest) more)

-- ## Faults

-- within the events of the tick
pub tells-cut : (e : WriteError) (given : Setup) (log : List LogRow) (course : OnCourse) (tells : Bool) (is next : List Input) (news line : List ℕ) (a b : Option (List ℕ)) (p q : List ℕ)
    → IsCutShort a b p q news → Done (Err e) given log course (TellsTick given tells is next news line) a b p q
tells-cut e given log course tells is next news line a b p q cut =
    let after : (stop : Option Refusal) × (left : List Input) × Leads given is next stop left = some-leads given is next in
    let rest : List ℕ = trail tells given is next after.1 ++ line in
    record {
      text = cut.text;
      said = cut.said;
      so = (
        cut.so.0 ++ rest,
        after.0,
        after.1,
        record {
          leads = after.2;
          told = sym (append_assoc cut.text cut.so.0 rest) ∙ ap (λ (v : List ℕ). v ++ rest) (sym cut.so.1) ∙ sym (append_assoc news (trail tells given is next after.1) line);
        },
      );
    }

-- within those of what follows it
pub tells-cut-after : (e : WriteError) (given : Setup) (log : List LogRow) (course : OnCourse) (tells : Bool) (is next : List Input) (news line : List ℕ) (a b c : Option (List ℕ)) (p q r : List ℕ)
    → Said a b p q news → Done (Err e) given log course (Trailing given tells is next) b c q r → Done (Err e) given log course (TellsTick given tells is next news line) a c p r
tells-cut-after e given log course tells is next news line a b c p q r said d = record {
  text = news ++ d.text;
  said = said-more a b c p q r news d.text said d.said;
  so = (
    d.so.0 ++ line,
    d.so.1,
    d.so.2,
    record { leads = d.so.3.leads; told = rejoin news d.text d.so.0 line ∙ ap (λ (v : List ℕ). (news ++ v) ++ line) d.so.3.told },
  );
}

-- ## All of it, or a fault within the line

pub tells-all : (stop : Option Refusal) (given : Setup) (log : List LogRow) (course : OnCourse) (tells : Bool) (is next : List Input) (news line : List ℕ) (a b c d : Option (List ℕ)) (p q r t : List ℕ)
    → Said a b p q news → Done (Ok stop) given log course (Trailing given tells is next) b c q r → Said c d r t line → Done (Ok stop) given log course (TellsTick given tells is next news line) a d p t
tells-all stop given log course tells is next news line a b c d p q r t said done more = (
  done.0,
  done.1,
  record {
    text = (news ++ done.2.text) ++ line;
    said = said-more a c d p r t (news ++ done.2.text) line (said-more a b c p q r news done.2.text said done.2.said) more;
    so = record { leads = done.2.so.leads; told = ap (λ (v : List ℕ). (news ++ v) ++ line) done.2.so.told };
  },
)

pub tells-cut-line : (e : WriteError) (stop : Option Refusal) (given : Setup) (log : List LogRow) (course : OnCourse) (tells : Bool) (is next : List Input) (news line : List ℕ) (a b c d : Option (List ℕ)) (p q r t : List ℕ)
    → Said a b p q news → Done (Ok stop) given log course (Trailing given tells is next) b c q r → IsCutShort c d r t line → Done (Err e) given log course (TellsTick given tells is next news line) a d p t
tells-cut-line e stop given log course tells is next news line a b c d p q r t said done cut = record {
  text = (news ++ done.2.text) ++ cut.text;
  said = said-more a c d p r t (news ++ done.2.text) cut.text (said-more a b c p q r news done.2.text said done.2.said) cut.said;
  so = (
    cut.so.0,
    stop,
    done.0,
    record {
      leads = done.2.so.leads;
      told = append_assoc (news ++ done.2.text) cut.text cut.so.0 ∙ ap (λ (v : List ℕ). (news ++ done.2.text) ++ v) (sym cut.so.1) ∙ ap (λ (v : List ℕ). (news ++ v) ++ line) done.2.so.told;
    },
  );
}
