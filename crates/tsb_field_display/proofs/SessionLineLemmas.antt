-- Lines, one after the other.
use Rattle.std.proofs.Common.{◌≡◌, ◌∙◌, ℕ, ◌+◌, ◌<◌, List, [], ◌∷◌, ◌++◌, length, get_or, drop, drop-cons, refl, sym, ap, subst, append_assoc, add-one}
use Rattle.std.proofs.lemmas.List.{append-nil}
use Rattle.tsb_event_text.specs.declared.times.Moment.{Moment}
use Rattle.tsb_event_text.specs.Events.{event_text}
use Rattle.tsb_types.specs.declared.event.Event.{Event}
use Rattle.tsb_field_display.specs.Ticks.{moment_of_tick}
use Rattle.tsb_field_display.specs.Texts.{AreLines, IsLine, Tells}

-- a time is that of a tick, and what stands after a text, with lines of the rest of the events after it, are lines of all
pub record Stand (from : Moment) (device : List ℕ) (tick : ℕ) (time old new : List ℕ) (rest all : List Event) : Type 0 where
  pub tells : Tells (moment_of_tick from tick) time
  pub done : List ℕ
  pub behind : new ≡ old ++ done
  pub lines : (more : List ℕ) → AreLines from device rest more → AreLines from device all (done ++ more)

-- before the first line
pub none-yet : (from : Moment) (device : List ℕ) (tick : ℕ) (time old : List ℕ) (all : List Event) →
    Tells (moment_of_tick from tick) time → Stand from device tick time old old all all
none-yet from device tick time old all tells = record { tells = tells; done = []; behind = sym (append-nil old); lines = λ more are. are }

-- a line more
pub one-more : (from : Moment) (device : List ℕ) (tick then : ℕ) (time later old mid new : List ℕ) (event : Event)
    (held rest all : List Event) → Stand from device tick time old mid held all → held ≡ event ∷ rest → then ≡ event.tick →
    Tells (moment_of_tick from then) later → new ≡ mid ++ event_text device later event.code event.parameter →
    Stand from device then later old new rest all
one-more from device tick then time later old mid new event held rest all stand first same tells added =
    let line = event_text device later event.code event.parameter in
    let told : IsLine from device event line = record {
      time = later;
      tells = subst (λ (t : ℕ). Tells (moment_of_tick from t) later) same tells;
      text = refl;
    } in
    record {
      tells = tells;
      done = stand.done ++ line;
      behind = added ∙ ap (λ (text : List ℕ). text ++ line) stand.behind ∙ append_assoc old stand.done line;
      lines = λ more are. subst (λ (text : List ℕ). AreLines from device all text) (sym (append_assoc stand.done line more))
          (stand.lines (line ++ more) (subst (λ (es : List Event). AreLines from device es (line ++ more)) (sym first) (line, more, refl, told, are)));
    }

-- after the last line
pub all-told : (from : Moment) (device : List ℕ) (tick : ℕ) (time old new : List ℕ) (rest all : List Event) →
    Stand from device tick time old new rest all → rest ≡ [] →
    (lines : List ℕ) × (new ≡ old ++ lines) × AreLines from device all lines
all-told from device tick time old new rest all stand none = (
  stand.done,
  stand.behind,
  subst (λ (text : List ℕ). AreLines from device all text) (append-nil stand.done)
      (stand.lines [] (subst (λ (es : List Event). AreLines from device es []) (sym none) refl)),
)

-- what stands in for an event that is not there
abbrev pub no_event : Event
no_event = record { tick = 0; code = 0; parameter = 0 }

-- an event, and then the rest
pub event-first : (events : List Event) (i : ℕ) → i < length events → drop i events ≡ get_or events i no_event ∷ drop (i + 1) events
event-first events i lt = rw (add-one i) (drop-cons events i no_event lt)
