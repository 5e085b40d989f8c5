-- What the display line of a state shows is what a log sees of that state.
use Rattle.std.proofs.Common.{◌≡◌, ◌∙◌, ℕ, ◌+◌, ◌<◌, ◌≤◌, nat_le, Bool, true, false, not, ◌&&◌, ◌||◌, zero, suc, Option, Some, None, is_some, if◌then◌else◌, refl, sym, ap, arith, inl, inr}
use Rattle.std.specs.List.{list_any}
use Rattle.std.proofs.lemmas.Bool.{and_parts, cases_Bool, cases_lt, true≢false}
use Rattle.std.proofs.lemmas.Bool.Decides.{nat_tests}
use Rattle.tsb_step.specs.tsb_types.declared.limits.TheConstants.{OVERLAPS, PREEMPTS}
use Rattle.tsb_step.specs.tsb_types.Intervals.{in_service, is_green, is_walk, is_clearance, is_dont_walk, is_yellow}
use Rattle.tsb_step.specs.tsb_types.Lists.{run_from}
use Rattle.tsb_step.specs.tsb_types.Sets.{has_number}
use Rattle.tsb_step.specs.tsb_types.declared.interval.Interval.{Interval}
use Rattle.tsb_step.specs.tsb_types.declared.interval.Interval.TheVariants as intervals
use Rattle.tsb_step.specs.tsb_types.declared.interval.PedestrianInterval.{PedestrianInterval}
use Rattle.tsb_step.specs.tsb_types.declared.interval.PedestrianInterval.TheVariants as parts
use Rattle.tsb_step.specs.tsb_types.declared.lamp.Aspect.{Aspect}
use Rattle.tsb_step.specs.tsb_types.declared.lamp.Aspect.TheVariants.{Dark, Red, Yellow, Green, FlashingRed, FlashingYellow}
use Rattle.tsb_step.specs.tsb_types.declared.lamp.PedestrianAspect.TheVariants as pedestrian_aspects
use Rattle.tsb_step.proofs.tsb_types.FirstLemmas.{first-any, first-none}
use Rattle.tsb_step.proofs.tsb_types.IntervalLemmas.{serves-green}
use Rattle.tsb_step.specs.tsb_heads.Colours as colours
use Rattle.tsb_step.specs.tsb_heads.Displays as displays
use Rattle.tsb_step.specs.tsb_heads.Displays.{flashed}
use Rattle.tsb_step.specs.tsb_heads.Heads.{aspect_of, pedestrian_aspect_of, vehicle_head}
use Rattle.tsb_step.specs.tsb_heads.Monitoring as monitor
use Rattle.tsb_step.specs.tsb_plan.Plan.{Plan, is_enabled}
use Rattle.tsb_step.specs.tsb_preempt.Promises.{stage_of}
use Rattle.tsb_step.specs.tsb_preempt.Service.{Service}
use Rattle.tsb_step.specs.tsb_rules.Rules.{broken_by_rings, first_broken, some_enabled}
use Rattle.tsb_step.specs.Events.{is_overlap, shown_interval, shown_part, view}
use Rattle.tsb_step.specs.Good.{IsGood}
use Rattle.tsb_step.specs.Signs.{display, shown, stage}
use Rattle.tsb_step.specs.State.{State, Tripped, interval, pedestrian_part}
use Rattle.tsb_text.specs.Answers.{preempt_in_service}
use Rattle.tsb_step.specs.Signs.{local}
use Rattle.tsb_field_display.specs.Events.{is_in_flash}
use Rattle.tsb_field_display.specs.Reading.{overlaps_in}
use Rattle.tsb_field_display.proofs.HeadLemmas.{Shows, line-shows}
use Rattle.tsb_laws.specs.Told.{signals}
use Rattle.tsb_laws.proofs.events.LineLemmas.{IsKnown, Sees, on_line}
use Rattle.tsb_laws.proofs.events.ServedLemmas.{AreKnown}

-- ## Vehicle heads

no-green : (a : Aspect) → monitor.is_green (flashed a) ≡ false
no-green Dark = refl
no-green Red = refl
no-green Yellow = refl
no-green Green = refl
no-green FlashingRed = refl
no-green FlashingYellow = refl

no-yellow : (a : Aspect) → colours.is_yellow (flashed a) ≡ false
no-yellow Dark = refl
no-yellow Red = refl
no-yellow Yellow = refl
no-yellow Green = refl
no-yellow FlashingRed = refl
no-yellow FlashingYellow = refl

steady-green : (on : Bool) (i : Interval) → (in_service i ≡ true → on ≡ true) → monitor.is_green (if on then aspect_of i else Dark) ≡ is_green i
steady-green true intervals.Red enabled = refl
steady-green true intervals.Green enabled = refl
steady-green true intervals.Yellow enabled = refl
steady-green true intervals.RedClear enabled = refl
steady-green false intervals.Red enabled = refl
steady-green false intervals.Green enabled = enabled refl
steady-green false intervals.Yellow enabled = refl
steady-green false intervals.RedClear enabled = refl

steady-yellow : (on : Bool) (i : Interval) → (in_service i ≡ true → on ≡ true) → colours.is_yellow (if on then aspect_of i else Dark) ≡ is_yellow i
steady-yellow true intervals.Red enabled = refl
steady-yellow true intervals.Green enabled = refl
steady-yellow true intervals.Yellow enabled = refl
steady-yellow true intervals.RedClear enabled = refl
steady-yellow false intervals.Red enabled = refl
steady-yellow false intervals.Green enabled = refl
steady-yellow false intervals.Yellow enabled = enabled refl
steady-yellow false intervals.RedClear enabled = refl

pub green-seen : (s : State) (p : ℕ) → (in_service (interval s p) ≡ true → is_enabled s.plan p ≡ true) →
    monitor.is_green ((display s).vehicle p) ≡ is_green (shown_interval s p)
unfolding display
green-seen s p enabled = go s.trip
  where
    go : (trip : Option Tripped) → monitor.is_green ((displays.display s.plan (record (shown s) { tripped = is_some trip })).vehicle p)
        ≡ is_green (if is_some trip then intervals.Red else interval s p)
    go (Some t) = no-green (vehicle_head s.plan (shown s) p)
    go None = steady-green (is_enabled s.plan p) (interval s p) enabled

pub yellow-seen : (s : State) (p : ℕ) → (in_service (interval s p) ≡ true → is_enabled s.plan p ≡ true) →
    colours.is_yellow ((display s).vehicle p) ≡ is_yellow (shown_interval s p)
unfolding display
yellow-seen s p enabled = go s.trip
  where
    go : (trip : Option Tripped) → colours.is_yellow ((displays.display s.plan (record (shown s) { tripped = is_some trip })).vehicle p)
        ≡ is_yellow (if is_some trip then intervals.Red else interval s p)
    go (Some t) = no-yellow (vehicle_head s.plan (shown s) p)
    go None = steady-yellow (is_enabled s.plan p) (interval s p) enabled

-- ## Pedestrian heads

lit-walk : (on has : Bool) (i : PedestrianInterval) → (is_dont_walk i ≡ false → on ≡ true) →
    colours.shows_walk (if on && (has || not (is_dont_walk i)) then pedestrian_aspect_of i else pedestrian_aspects.Dark) ≡ is_walk i
lit-walk true true parts.DontWalk enabled = refl
lit-walk true false parts.DontWalk enabled = refl
lit-walk false has parts.DontWalk enabled = refl
lit-walk true true parts.Walk enabled = refl
lit-walk true false parts.Walk enabled = refl
lit-walk false has parts.Walk enabled = enabled refl
lit-walk true true parts.PedestrianClear enabled = refl
lit-walk true false parts.PedestrianClear enabled = refl
lit-walk false has parts.PedestrianClear enabled = refl

lit-clearance : (on has : Bool) (i : PedestrianInterval) → (is_dont_walk i ≡ false → on ≡ true) →
    colours.shows_clearance (if on && (has || not (is_dont_walk i)) then pedestrian_aspect_of i else pedestrian_aspects.Dark) ≡ is_clearance i
lit-clearance true true parts.DontWalk enabled = refl
lit-clearance true false parts.DontWalk enabled = refl
lit-clearance false has parts.DontWalk enabled = refl
lit-clearance true true parts.Walk enabled = refl
lit-clearance true false parts.Walk enabled = refl
lit-clearance false has parts.Walk enabled = refl
lit-clearance true true parts.PedestrianClear enabled = refl
lit-clearance true false parts.PedestrianClear enabled = refl
lit-clearance false has parts.PedestrianClear enabled = enabled refl

pub walk-seen : (s : State) (p : ℕ) → (is_dont_walk (pedestrian_part s p) ≡ false → is_enabled s.plan p ≡ true) →
    colours.shows_walk ((display s).pedestrian p) ≡ is_walk (shown_part s p)
unfolding display
walk-seen s p enabled = go s.trip
  where
    go : (trip : Option Tripped) → colours.shows_walk ((displays.display s.plan (record (shown s) { tripped = is_some trip })).pedestrian p)
        ≡ is_walk (if is_some trip then parts.DontWalk else pedestrian_part s p)
    go (Some t) = refl
    go None = lit-walk (is_enabled s.plan p) _ (pedestrian_part s p) enabled

pub clearance-seen : (s : State) (p : ℕ) → (is_dont_walk (pedestrian_part s p) ≡ false → is_enabled s.plan p ≡ true) →
    colours.shows_clearance ((display s).pedestrian p) ≡ is_clearance (shown_part s p)
unfolding display
clearance-seen s p enabled = go s.trip
  where
    go : (trip : Option Tripped) → colours.shows_clearance ((displays.display s.plan (record (shown s) { tripped = is_some trip })).pedestrian p)
        ≡ is_clearance (if is_some trip then parts.DontWalk else pedestrian_part s p)
    go (Some t) = refl
    go None = lit-clearance (is_enabled s.plan p) _ (pedestrian_part s p) enabled

-- ## Overlaps

-- a line shows the first four, and a wide line all
few-alone : (is_wide : Bool) (o : ℕ) (shows sees : Bool) → 1 ≤ o → o ≤ OVERLAPS → (o ≤ overlaps_in is_wide → shows ≡ sees) →
    (overlaps_in is_wide < o → shows ≡ false) → shows ≡ ((is_wide || nat_le o 4) && (is_overlap o && sees))
few-alone true o shows sees from within low high =
    let first : nat_le 1 o ≡ true = grind (arith, nat_tests) in
    let last : nat_le o OVERLAPS ≡ true = grind (arith, nat_tests) in
    rw (first, last) (low within)
few-alone false o shows sees from within low high = elim (cases_Bool (nat_le o 4)) [
  | inl h ↦
      let small : o ≤ 4 = grind (arith, nat_tests) in
      let first : nat_le 1 o ≡ true = grind (arith, nat_tests) in
      let last : nat_le o OVERLAPS ≡ true = grind (arith, nat_tests) in
      rw (h, first, last) (low small)
  | inr h ↦ let large : 4 < o = grind (arith, nat_tests) in rw h (high large)
]

-- ## Flash

pub some-enabled : (plan : Plan) → first_broken plan ≡ None → some_enabled plan ≡ true
unfolding first_broken broken_by_rings
some-enabled plan none = elim (cases_Bool (some_enabled plan)) [
  | inl h ↦ h
  | inr h ↦ let bad = rw h at none in absurd cc
]

-- some of a longer run passes another test that what passes this one passes
any-in-longer : (f g : ℕ → Bool) (a m n : ℕ) → m ≤ n → ((p : ℕ) → a ≤ p → p < a + m → f p ≡ true → g p ≡ true) → list_any f (run_from a m) ≡ true →
    list_any g (run_from a n) ≡ true
unfolding run_from
any-in-longer f g a zero n few each e = absurd cc
any-in-longer f g a (suc m) zero few each e = absurd (omega (arith, few))
any-in-longer f g a (suc m) (suc n) few each e = elim (cases_Bool (f a)) [
  | inl h ↦ rw (each a (omega arith) (omega arith) h) refl
  | inr h ↦
      let rest : list_any f (run_from (a + 1) m) ≡ true = rw h at e in
      let later : list_any g (run_from (a + 1) n) ≡ true =
      any-in-longer f g (a + 1) m n (omega (arith, few)) (λ p from below. each p (omega (arith, from)) (omega (arith, below))) rest in
      elim (cases_Bool (g a)) [
        | inl k ↦ rw k refl
        | inr k ↦ rw k later
      ]
]

flashing-all : (on : Bool) (i : Interval) → colours.is_flashing (flashed (if on then aspect_of i else Dark)) ≡ on
flashing-all true intervals.Red = refl
flashing-all true intervals.Green = refl
flashing-all true intervals.Yellow = refl
flashing-all true intervals.RedClear = refl
flashing-all false i = refl

flashing-none : (on : Bool) (i : Interval) → colours.is_flashing (if on then aspect_of i else Dark) ≡ false
flashing-none true intervals.Red = refl
flashing-none true intervals.Green = refl
flashing-none true intervals.Yellow = refl
flashing-none true intervals.RedClear = refl
flashing-none false i = refl

-- in flash each enabled phase flashes, and otherwise none
flashing-seen : (s : State) (p : ℕ) → colours.is_flashing ((display s).vehicle p) ≡ (is_some s.trip && is_enabled s.plan p)
unfolding display
flashing-seen s p = go s.trip
  where
    go : (trip : Option Tripped) → colours.is_flashing ((displays.display s.plan (record (shown s) { tripped = is_some trip })).vehicle p)
        ≡ (is_some trip && is_enabled s.plan p)
    go (Some t) = flashing-all (is_enabled s.plan p) (interval s p)
    go None = flashing-none (is_enabled s.plan p) (interval s p)

-- arrows alone flash yellow
steady-of : (on : Bool) (i : Interval) → colours.is_flashing_yellow (if on then aspect_of i else Dark) ≡ false
steady-of true intervals.Red = refl
steady-of true intervals.Green = refl
steady-of true intervals.Yellow = refl
steady-of true intervals.RedClear = refl
steady-of false i = refl

steady-flash : (a : Aspect) → colours.is_flashing_yellow (flashed a) ≡ false
steady-flash Dark = refl
steady-flash Red = refl
steady-flash Yellow = refl
steady-flash Green = refl
steady-flash FlashingRed = refl
steady-flash FlashingYellow = refl

pub no-arrow-of-phases : (s : State) (p : ℕ) → colours.is_flashing_yellow ((display s).vehicle p) ≡ false
unfolding display
no-arrow-of-phases s p = go s.trip
  where
    go : (trip : Option Tripped) → colours.is_flashing_yellow ((displays.display s.plan (record (shown s) { tripped = is_some trip })).vehicle p) ≡ false
    go (Some t) = steady-flash (vehicle_head s.plan (shown s) p)
    go None = steady-of (is_enabled s.plan p) (interval s p)

flash-seen : (is_wide : Bool) (s : State) (served : Option ℕ) → Shows is_wide (display s) served (signals is_wide s) → s.plan.phase_count ≤ 16 → some_enabled s.plan ≡ true →
    is_in_flash (signals is_wide s) ≡ is_some s.trip
flash-seen is_wide s served shows few enabled = go s.trip refl
  where
    flashes : (p : ℕ) → 1 ≤ p → p ≤ 16 → has_number (signals is_wide s).vehicles.flashing p ≡ (is_some s.trip && is_enabled s.plan p)
    flashes p from within = shows.flashing p from within ∙ flashing-seen s p

    none : s.trip ≡ None → (p : ℕ) → has_number (signals is_wide s).vehicles.flashing p ≡ false
    none e zero = refl
    none e (suc k) = elim (cases_lt 16 (suc k)) [
      | inl above ↦ shows.few_flashing (suc k) above
      | inr within ↦ flashes (suc k) (omega arith) within ∙ ap (λ (t : Option Tripped). is_some t && is_enabled s.plan (suc k)) e
    ]

    go : (trip : Option Tripped) → s.trip ≡ trip → is_in_flash (signals is_wide s) ≡ is_some trip
    go None e = ap is_some (first-none (has_number (signals is_wide s).vehicles.flashing) (run_from 1 16) (none e))
    go (Some t) e =
        first-any (has_number (signals is_wide s).vehicles.flashing) (run_from 1 16)
        ∙ any-in-longer (is_enabled s.plan) (has_number (signals is_wide s).vehicles.flashing) 1 s.plan.phase_count 16 few
        (λ p from below on. flashes p from (omega (arith, below, few)) ∙ ap (λ (u : Option Tripped). is_some u && is_enabled s.plan p) e ∙ on) enabled

-- ## All of it

pub preempt-known : (s : State) → AreKnown s.preempts → IsKnown (stage s)
preempt-known s known = go s.preempts.service refl
  where
    go : (o : Option Service) → s.preempts.service ≡ o → IsKnown (stage_of o)
    go None e = tt
    go (Some x) e =
        let parts = and_parts (nat_le 1 x.preempt) (nat_le x.preempt PREEMPTS) (known.service x e) in
        let first : nat_le 1 x.preempt ≡ true = parts.0 in
        let last : nat_le x.preempt PREEMPTS ≡ true = parts.1 in
        (grind (arith, nat_tests), grind (arith, nat_tests))

pub sees : (is_wide : Bool) (s : State) → IsGood s → AreKnown s.preempts → ((p : ℕ) → in_service (interval s p) ≡ true → is_enabled s.plan p ≡ true) → s.plan.phase_count ≤ 16 →
    Sees (signals is_wide s) (on_line is_wide (view s)) (stage s)
unfolding view
sees is_wide s good served enabled few = record {
  greens = λ p from within. shows.greens p from within ∙ green-seen s p (enabled p);
  yellows = λ p from within. shows.yellows p from within ∙ yellow-seen s p (enabled p);
  walks = λ p from within. shows.walks p from within ∙ walk-seen s p (walking p);
  clearances = λ p from within. shows.clearances p from within ∙ clearance-seen s p (walking p);
  overlap_greens = λ o from within.
      few-alone is_wide o _ (monitor.is_green ((display s).overlap o)) from within (λ small. shows.overlap_greens o from small) (shows.few_overlap_greens o);
  overlap_yellows = λ o from within.
      few-alone is_wide o _ (colours.is_yellow ((display s).overlap o)) from within (λ small. shows.overlap_yellows o from small) (shows.few_overlap_yellows o);
  overlap_arrows = λ o from within.
      few-alone is_wide o _ (colours.is_flashing_yellow ((display s).overlap o)) from within (λ small. shows.overlap_arrows o from small) (shows.few_overlap_arrows o);
  preempt = shows.preempt;
  known = preempt-known s served;
  preempts = refl;
  flash = flash-seen is_wide s (preempt_in_service s) shows few (some-enabled s.plan good.plan.rules);
}
  where
    shows : Shows is_wide (display s) (preempt_in_service s) (signals is_wide s)
    shows = line-shows is_wide s.now (display s) (preempt_in_service s) (local s) (preempt-known s served)

    walking : (p : ℕ) → is_dont_walk (pedestrian_part s p) ≡ false → is_enabled s.plan p ≡ true
    walking p h = elim (cases_Bool (is_green (interval s p))) [
      | inl k ↦ enabled p (serves-green (interval s p) k)
      | inr k ↦ let stands : pedestrian_part s p ≡ parts.DontWalk = good.walks p k in absurd (true≢false (sym (ap is_dont_walk stands) ∙ h))
    ]
