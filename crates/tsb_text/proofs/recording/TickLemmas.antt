-- Events have the number of the tick in force after their input.
use Rattle.std.proofs.Common.{◌≡◌, ℕ, ◌+◌, ◌-◌, ◌==◌, Bool, true, false, List, [], ◌∷◌, ◌++◌, map, flat_map, if◌then◌else◌, refl, nat_eq}
use Rattle.std.specs.Option.{option_eq}
use Rattle.std.specs.List.{All}
use Rattle.std.proofs.lemmas.List.Elements.{All-nil, All-cons}
use Rattle.tsb_types.specs.Events.{detectors_with, event, numbers_with, told, told_detectors}
use Rattle.tsb_types.specs.declared.event.Event.{Event}
use Rattle.tsb_types.specs.declared.event.TheConstants as codes
use Rattle.tsb_step.specs.declared.inputs.Input.{Input}
use Rattle.tsb_step.specs.declared.inputs.Input.TheVariants.{Tick}
use Rattle.tsb_step.specs.declared.log_form.Noted.{Noted}
use Rattle.tsb_step.specs.Events.{Found, Selected, View, events_between, events_of, found, if_differs, other_events, pattern_events, selection_events, selected, split_events, tick_events, view}
use Rattle.tsb_step.specs.State.{State}
use Rattle.tsb_step.specs.Step.{step}
use Rattle.tsb_types.specs.Lists.{run_from, or_number}

-- each of these events has this tick number
pub data AreAt (n : ℕ) : List Event → Type 0 where
  at-none : AreAt n []
  at-more : (e : Event) (es : List Event) → e.tick ≡ n → AreAt n es → AreAt n (e ∷ es)

at-append : (n : ℕ) (xs ys : List Event) → AreAt n xs → AreAt n ys → AreAt n (xs ++ ys)
at-append n [] ys a b = b
at-append n (x ∷ xs) ys (at-more e es is more) b = at-more x (xs ++ ys) is (at-append n xs ys more b)

at-map : (n code : ℕ) (ns : List ℕ) → AreAt n (map (λ k. event n code k) ns)
at-map n code [] = at-none
at-map n code (k ∷ ks) = at-more (event n code k) (map (λ k. event n code k) ks) refl (at-map n code ks)

at-told : (n code : ℕ) (f : ℕ → Bool) → AreAt n (told n code f)
at-told n code f = at-map n code (numbers_with f)

at-detectors : (n code : ℕ) (f : ℕ → Bool) → AreAt n (told_detectors n code f)
at-detectors n code f = at-map n code (detectors_with f)

at-one : (n code parameter : ℕ) → AreAt n (event n code parameter ∷ [])
at-one n code parameter = at-more (event n code parameter) [] refl at-none

at-if : (n : ℕ) (b : Bool) (xs ys : List Event) → AreAt n xs → AreAt n ys → AreAt n (if b then xs else ys)
at-if n true xs ys a b = a
at-if n false xs ys a b = b

at-differs : (n code before value : ℕ) → AreAt n (if_differs n code before value)
at-differs n code before value = at-if n (before == value) [] (event n code value ∷ []) at-none (at-one n code value)

at-flat : (n : ℕ) (f : ℕ → List Event) → ((p : ℕ) → AreAt n (f p)) → (ps : List ℕ) → AreAt n (flat_map f ps)
at-flat n f each [] = at-none
at-flat n f each (p ∷ ps) = at-append n (f p) (flat_map f ps) (each p) (at-flat n f each ps)

at-splits : (n : ℕ) (was is : Selected) → AreAt n (split_events n was is)
at-splits n was is = at-flat n _ (λ p. at-differs n (codes.SPLIT_CHANGES + p - 1) (was.split p) (is.split p)) (run_from 1 16)

at-pattern : (n : ℕ) (was is : Selected) → AreAt n (pattern_events n was is)
at-pattern n was is =
    at-append n _ (split_events n was is)
    (at-append n _ _ (at-append n _ _ selection (at-differs n codes.CYCLE_CHANGES was.cycle is.cycle)) (at-differs n codes.OFFSET_CHANGES was.offset is.offset))
    (at-splits n was is)
  where
    selection : AreAt n (selection_events n was is)
    selection =
        at-if n (option_eq nat_eq was.pattern is.pattern) [] (event n codes.PATTERN_CHANGES (or_number is.pattern codes.FREE) ∷ [])
        at-none (at-one n codes.PATTERN_CHANGES (or_number is.pattern codes.FREE))

at-tick : (n : ℕ) (f : Found) (was now : View) → AreAt n (tick_events n f was now)
at-tick n f was now = search (at-append, at-told, at-detectors, at-if, at-one, at-none, at-differs) depth 70

at-other : (n : ℕ) (noted : Noted) (was now : View) (was_selected now_selected : Selected) → AreAt n (other_events n noted was now was_selected now_selected)
at-other n noted was now was_selected now_selected = search (at-append, at-told, at-detectors, at-if, at-one, at-none, at-pattern, at-differs) depth 70

at-between : (noted : Noted) (s : State) (i : Input) (after : State) → AreAt after.now (events_between noted s i after)
at-between noted s (Tick row) after = at-tick after.now (found noted s row after) (view s) (view after)
at-between noted s i after = at-other after.now noted (view s) (view after) (selected s) (selected after)

pub at-of : (noted : Noted) (s : State) (i : Input) → AreAt (step s i).now (events_of noted s i)
unfolding events_of
at-of noted s i = at-between noted s i (step s i)

all-at : (n : ℕ) (es : List Event) → AreAt n es → All (λ (e : Event). e.tick ≡ n) es
all-at n [] at-none = All-nil (λ (e : Event). e.tick ≡ n)
all-at n (x ∷ xs) (at-more e es is more) = All-cons (λ (e : Event). e.tick ≡ n) x xs is (all-at n xs more)

pub events_have_their_tick : (noted : Noted) (s : State) (i : Input) → All (λ (e : Event). e.tick ≡ (step s i).now) (events_of noted s i)
events_have_their_tick noted s i = all-at (step s i).now (events_of noted s i) (at-of noted s i)
