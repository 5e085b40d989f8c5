-- Events added one after the other.
use Rattle.std.proofs.Common.{◌≡◌, ◌∙◌, ℕ, Bool, true, false, not, ◌&&◌, List, [], ◌∷◌, ◌++◌, map, filter, refl, sym, ap, append_assoc}
use Rattle.std.proofs.lemmas.List.{append-nil}
use Rattle.tsb_types.specs.declared.event.Event.{Event}
use Rattle.tsb_types.specs.declared.limits.TheConstants.{VEHICLE_DETECTORS}
use Rattle.tsb_types.specs.Events.{event, told, told_detectors, begins, numbers_with, detectors_with}
use Rattle.tsb_types.specs.Lists.{run_from}
use Rattle.tsb_types.proofs.NumberLemmas.{filter-none}

-- events added after those that were added
pub more : (old a b e f : List Event) → e ≡ old ++ a → f ≡ e ++ b → f ≡ old ++ (a ++ b)
more old a b e f one other = other ∙ ap (λ (es : List Event). es ++ b) one ∙ append_assoc old a b

-- found by another test that is the same
pub told-by : (old e : List Event) (tick code : ℕ) (f g : ℕ → Bool) → e ≡ old ++ told tick code f → f ≡ g → e ≡ old ++ told tick code g
told-by old e tick code f g is_told same = is_told ∙ ap (λ (test : ℕ → Bool). old ++ told tick code test) same

pub told_detectors-by : (old e : List Event) (tick code : ℕ) (f g : ℕ → Bool) → e ≡ old ++ told_detectors tick code f → f ≡ g →
    e ≡ old ++ told_detectors tick code g
told_detectors-by old e tick code f g is_told same = is_told ∙ ap (λ (test : ℕ → Bool). old ++ told_detectors tick code test) same

-- events of some numbers
abbrev of : ℕ → ℕ → List ℕ → List Event
of tick code ns = map (λ m. event tick code m) ns

-- the event of the least, and then those of the others
next : (e new : List Event) (tick code n : ℕ) (all others : List ℕ) → all ≡ n ∷ others → new ≡ e ++ event tick code n ∷ [] →
    new ++ of tick code others ≡ e ++ of tick code all
next e new tick code n all others least added =
    ap (λ (es : List Event). es ++ of tick code others) added
    ∙ append_assoc e (event tick code n ∷ []) (of tick code others)
    ∙ ap (λ (ns : List ℕ). e ++ of tick code ns) (sym least)

pub tell-next : (e new : List Event) (tick code n : ℕ) (s t : ℕ → Bool) → numbers_with s ≡ n ∷ numbers_with t →
    new ≡ e ++ event tick code n ∷ [] → new ++ told tick code t ≡ e ++ told tick code s
tell-next e new tick code n s t least added = next e new tick code n (numbers_with s) (numbers_with t) least added

pub tell_detectors-next : (e new : List Event) (tick code n : ℕ) (s t : ℕ → Bool) → detectors_with s ≡ n ∷ detectors_with t →
    new ≡ e ++ event tick code n ∷ [] → new ++ told_detectors tick code t ≡ e ++ told_detectors tick code s
tell_detectors-next e new tick code n s t least added = next e new tick code n (detectors_with s) (detectors_with t) least added

-- where none is left, all have their events
end : (e all : List Event) (tick code most : ℕ) (s : ℕ → Bool) → ((n : ℕ) → s n ≡ false) → e ++ of tick code (filter s (run_from 1 most)) ≡ all → e ≡ all
end e all tick code most s none is_told =
    sym (append-nil e)
    ∙ ap (λ (ns : List ℕ). e ++ of tick code ns) (sym (filter-none s 1 most (λ n from below. none n)))
    ∙ is_told

pub tell-end : (e all : List Event) (tick code : ℕ) (s : ℕ → Bool) → ((n : ℕ) → s n ≡ false) → e ++ told tick code s ≡ all → e ≡ all
tell-end e all tick code s none is_told = end e all tick code 16 s none is_told

pub tell_detectors-end : (e all : List Event) (tick code : ℕ) (s : ℕ → Bool) → ((n : ℕ) → s n ≡ false) → e ++ told_detectors tick code s ≡ all →
    e ≡ all
tell_detectors-end e all tick code s none is_told = end e all tick code VEHICLE_DETECTORS s none is_told

pub same-begins : (b : Bool) → (b && not b) ≡ false
same-begins true = refl
same-begins false = refl

-- where nothing changes, there is no event
none : (tick code most : ℕ) (f : ℕ → Bool) → of tick code (filter (begins f f) (run_from 1 most)) ≡ []
none tick code most f = ap (of tick code) (filter-none (begins f f) 1 most (λ n from below. same-begins (f n)))

pub none-told : (tick code : ℕ) (f : ℕ → Bool) → told tick code (begins f f) ≡ []
none-told tick code f = none tick code 16 f

pub none-told_detectors : (tick code : ℕ) (f : ℕ → Bool) → told_detectors tick code (begins f f) ≡ []
none-told_detectors tick code f = none tick code VEHICLE_DETECTORS f
