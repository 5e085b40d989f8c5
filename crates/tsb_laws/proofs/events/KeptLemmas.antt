-- The events of an input whose codes pass a test.
use Rattle.std.proofs.Common.{◌≡◌, ◌∙◌, ℕ, ◌<◌, ◌≤◌, ◌==◌, nat_le, nat_lt, Bool, true, false, ◌||◌, List, [], ◌∷◌, ◌++◌, map, filter, refl, ap, arith}
use Rattle.std.specs.List.{All, list_all}
use Rattle.std.proofs.lemmas.Bool.{and_parts, ne_eqb}
use Rattle.std.proofs.lemmas.Bool.Decides.{nat_tests}
use Rattle.std.proofs.lemmas.List.{append-nil}
use Rattle.std.proofs.lemmas.List.Elements.{All-head, All-tail, filter-append}
use Rattle.tsb_step.specs.tsb_types.Events.{event, told, told_detectors, numbers_with, detectors_with}
use Rattle.tsb_step.specs.tsb_types.Lists.{among}
use Rattle.tsb_step.specs.tsb_types.declared.event.Event.{Event}
use Rattle.tsb_events.proofs.OrderLemmas.{IsWithin, Span}

-- of these events, those whose codes pass a test are those
pub record Kept (by : ℕ → Bool) (es fs : List Event) : Type 0 where
  pub kept : filter (λ e. by e.code) es ≡ fs

-- ## One list after the other

pub both : {by : ℕ → Bool} {es fs gs hs : List Event} → Kept by es gs → Kept by fs hs → Kept by (es ++ fs) (gs ++ hs)
both {by = by} {es = es} {fs = fs} one other = record { kept = filter-append (λ e. by e.code) es fs ∙ λ i. one.kept i ++ other.kept i }

pub first-alone : {by : ℕ → Bool} {es fs gs : List Event} → Kept by es gs → Kept by fs [] → Kept by (es ++ fs) gs
first-alone {by = by} {es = es} {fs = fs} {gs = gs} one other =
    record { kept = filter-append (λ e. by e.code) es fs ∙ (λ i. one.kept i ++ other.kept i) ∙ append-nil gs }

pub second-alone : {by : ℕ → Bool} {es fs hs : List Event} → Kept by es [] → Kept by fs hs → Kept by (es ++ fs) hs
second-alone {by = by} {es = es} {fs = fs} {hs = hs} one other =
    record { kept = filter-append (λ e. by e.code) es fs ∙ λ i. one.kept i ++ other.kept i }

-- ## Events of one code

all-of-code : (by : ℕ → Bool) (tick code : ℕ) (ns : List ℕ) → by code ≡ true →
    filter (λ e. by e.code) (map (λ n. event tick code n) ns) ≡ map (λ n. event tick code n) ns
all-of-code by tick code [] passes = refl
all-of-code by tick code (n ∷ ns) passes = rw passes (ap (λ (es : List Event). event tick code n ∷ es) (all-of-code by tick code ns passes))

none-of-code : (by : ℕ → Bool) (tick code : ℕ) (ns : List ℕ) → by code ≡ false → filter (λ e. by e.code) (map (λ n. event tick code n) ns) ≡ []
none-of-code by tick code [] fails = refl
none-of-code by tick code (n ∷ ns) fails = rw fails (none-of-code by tick code ns fails)

pub all-told : (by : ℕ → Bool) (tick code : ℕ) (f : ℕ → Bool) → by code ≡ true → Kept by (told tick code f) (told tick code f)
all-told by tick code f passes = record { kept = all-of-code by tick code (numbers_with f) passes }

pub all-told_detectors : (by : ℕ → Bool) (tick code : ℕ) (f : ℕ → Bool) → by code ≡ true → Kept by (told_detectors tick code f) (told_detectors tick code f)
all-told_detectors by tick code f passes = record { kept = all-of-code by tick code (detectors_with f) passes }

pub none-told : (by : ℕ → Bool) (tick code : ℕ) (f : ℕ → Bool) → by code ≡ false → Kept by (told tick code f) []
none-told by tick code f fails = record { kept = none-of-code by tick code (numbers_with f) fails }

-- ## Events whose codes lie within bounds

-- no code of a list is one of those from a to below b
abbrev leaves_out : ℕ → ℕ → List ℕ → Bool
leaves_out a b ns = list_all (λ n. nat_lt n a || nat_le b n) ns

apart : (a b n c : ℕ) → (nat_lt n a || nat_le b n) ≡ true → a ≤ c → c < b → (n == c) ≡ false
apart a b n c e from below = ne_eqb n c (λ same. grind (arith, nat_tests))

pub not-among : (a b : ℕ) (ns : List ℕ) → leaves_out a b ns ≡ true → (c : ℕ) → a ≤ c → c < b → among c ns ≡ false
not-among a b [] e c from below = refl
not-among a b (n ∷ ns) e c from below =
    let parts = and_parts (nat_lt n a || nat_le b n) (leaves_out a b ns) e in
    rw (apart a b n c parts.0 from below) (not-among a b ns parts.1 c from below)

none-within : (by : ℕ → Bool) (tick a b : ℕ) (es : List Event) → ((c : ℕ) → a ≤ c → c < b → by c ≡ false) → All (IsWithin tick a b) es →
    filter (λ e. by e.code) es ≡ []
none-within by tick a b [] none all = refl
none-within by tick a b (e ∷ es) none all =
    let first : IsWithin tick a b e = All-head (IsWithin tick a b) e es all in
    rw (none e.code first.1 first.2) (none-within by tick a b es none (All-tail (IsWithin tick a b) e es all))

-- none is kept where no code from a to below b passes
pub none-of : {by : ℕ → Bool} {tick a b : ℕ} {es : List Event} → Span tick a b es → ((c : ℕ) → a ≤ c → c < b → by c ≡ false) → Kept by es []
none-of {by = by} {tick = tick} {a = a} {b = b} {es = es} span none = record { kept = none-within by tick a b es none span.within }
