-- The lines of events are said one after another.
use Rattle.std.proofs.Common.{◌≡◌, ◌∙◌, ℕ, ◌+◌, ◌<◌, ◌≤◌, List, [], ◌++◌, length, get_or, drop, drop-cons, refl, sym, ap, append_assoc, add-one}
use Rattle.std.proofs.lemmas.List.{append-nil, drop_all}
use Rattle.std.specs.declared.option.Option.{Option}
use Rattle.tsb_dialog.specs.Said.{IsCutShort, Said, Wrote, with_feed}
use Rattle.tsb_dialog.proofs.SaidLemmas.{said-more, said-nothing}
use Rattle.tsb_objects.specs.tsb_types.declared.event.Event.{Event}
use Rattle.tsb_text.specs.Obeys.{event_line, events_text}

-- of these events all but those from place i on were said
abbrev pub SaidTo : List Event → ℕ → List ℕ → Type 0
SaidTo es i said = said ++ events_text (drop i es) ≡ events_text es

pub events-start : (es : List Event) (a : Option (List ℕ)) (p : List ℕ) → Wrote a a p p (SaidTo es 0)
events-start es a p = record { text = []; said = said-nothing a p; so = refl }

next-event : (es : List Event) (i : ℕ) (e : Event) → i < length es → events_text (drop i es) ≡ with_feed (event_line (get_or es i e)) ++ events_text (drop (i + 1) es)
next-event es i e within = ap events_text (drop-cons es i e within) ∙ ap (λ (k : ℕ). with_feed (event_line (get_or es i e)) ++ events_text (drop k es)) (sym (add-one i))

pub events-more : (es : List Event) (i : ℕ) (e : Event) (line : List ℕ) (a b c : Option (List ℕ)) (p q r : List ℕ) → i < length es → line ≡ event_line (get_or es i e) → Wrote a b p q (SaidTo es i)
    → Said b c q r (with_feed line) → Wrote a c p r (SaidTo es (i + 1))
events-more es i e line a b c p q r within is wrote said = record {
  text = wrote.text ++ with_feed line;
  said = said-more a b c p q r wrote.text (with_feed line) wrote.said said;
  so = append_assoc wrote.text (with_feed line) (events_text (drop (i + 1) es))
      ∙ ap (λ (v : List ℕ). wrote.text ++ v) (ap (λ (l : List ℕ). with_feed l ++ events_text (drop (i + 1) es)) is ∙ sym (next-event es i e within)) ∙ wrote.so;
}

pub events-cut : (es : List Event) (i : ℕ) (a b c : Option (List ℕ)) (p q r : List ℕ) → Wrote a b p q (SaidTo es i) → Said b c q r [] → IsCutShort a c p r (events_text es)
events-cut es i a b c p q r wrote said = record {
  text = wrote.text ++ [];
  said = said-more a b c p q r wrote.text [] wrote.said said;
  so = (events_text (drop i es), sym wrote.so ∙ ap (λ (v : List ℕ). v ++ events_text (drop i es)) (sym (append-nil wrote.text)));
}

pub events-end : (es : List Event) (i : ℕ) (a b : Option (List ℕ)) (p q : List ℕ) → length es ≤ i → Wrote a b p q (SaidTo es i) → Said a b p q (events_text es)
events-end es i a b p q le wrote = rw (sym (sym (append-nil wrote.text) ∙ ap (λ (v : List Event). wrote.text ++ events_text v) (sym (drop_all i es le)) ∙ wrote.so)) wrote.said
