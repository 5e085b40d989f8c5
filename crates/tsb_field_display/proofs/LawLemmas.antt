-- Events come of changes alone, and they tell which heads are lit.
use Rattle.std.proofs.Common.{◌≡◌, ◌∙◌, ℕ, ◌≤◌, ◌==◌, Bool, true, false, not, ◌&&◌, ◌||◌, List, [], ◌∷◌, ◌++◌, map, filter, Option, Some, None, is_some, if◌then◌else◌, refl, sym, ap, arith, inl, inr}
use Rattle.std.proofs.Math.Bool.{and-true}
use Rattle.std.proofs.lemmas.Bool.{cases_eq, cond_both, true≢false, ne_eqb}
use Rattle.tsb_types.specs.Lists.{run_from, among, is}
use Rattle.tsb_types.specs.Sets.{has_number}
use Rattle.tsb_types.proofs.RunLemmas.{among-run}
use Rattle.tsb_types.proofs.SetLemmas.{names-zero}
use Rattle.tsb_types.proofs.FirstLemmas.{first-none}
use Rattle.tsb_types.specs.declared.event.Event.{Event}
use Rattle.tsb_types.specs.declared.limits.TheConstants.{VEHICLE_DETECTORS}
use Rattle.tsb_field_display.specs.declared.shown.Shown.{Shown}
use Rattle.tsb_field_display.specs.declared.shown.Signals.{Signals}
use Rattle.tsb_field_display.specs.Shows.{nothing_lit, is_same, AreApart}
use Rattle.tsb_field_display.specs.Remaining.{changes_after}
use Rattle.tsb_types.specs.Events.{event, told, told_detectors, numbers_with, detectors_with, begins, ends, either}
use Rattle.tsb_field_display.specs.Events.{events_of, events_after, events_of_lines, vehicle_events, pedestrian_events, arrow_events, overlap_events, preempt_events, flash_events, is_in_flash, is_green, is_yellow, is_walk, is_clearance, is_overlap_green, is_overlap_yellow, is_overlap_arrow, is_overlap_lit}
use Rattle.tsb_field_display.specs.ReadBack.{said_or, lit_after, says_at, says_green, says_yellow, says_walk, says_clearance, says_overlap_green, says_overlap_yellow, says_overlap_arrow, says_flash}
use Rattle.tsb_field_display.specs.Laws.{AreAllApart, ComeOfChanges, TellTheHeads}
use Rattle.tsb_field_display.proofs.SameLemmas.{same-signals}
use Rattle.tsb_field_display.proofs.EventLemmas.{no-events}

-- ## Events come of changes

changes-first : (same : Bool) (before : Signals) (line : Shown) (lines : List Shown) → is_same before line.signals ≡ same →
    events_after before (changes_after before lines) ≡ events_after before lines →
    events_after line.signals (changes_after line.signals lines) ≡ events_after line.signals lines →
    events_after before (if same then changes_after before lines else line ∷ changes_after line.signals lines)
    ≡ events_of before line ++ events_after line.signals lines
changes-first true before line lines e one other =
    let alike : before ≡ line.signals = same-signals before line.signals e in
    one ∙ ap (λ (s : Signals). events_after s lines) alike
    ∙ ap (λ (es : List Event). es ++ events_after line.signals lines) (sym (no-events before line alike))
changes-first false before line lines e one other = ap (λ (es : List Event). events_of before line ++ es) other

changes-after : (before : Signals) (lines : List Shown) → events_after before (changes_after before lines) ≡ events_after before lines
changes-after before [] = refl
changes-after before (line ∷ lines) =
    changes-first (is_same before line.signals) before line lines refl (changes-after before lines) (changes-after line.signals lines)

pub come-of-changes : ComeOfChanges
come-of-changes [] = refl
come-of-changes (line ∷ lines) = ap (λ (es : List Event). events_of nothing_lit line ++ es) (changes-after line.signals lines)

-- ## What events say, one after the other

pub lit-append : (says : Event → Option Bool) (lit : Bool) (es fs : List Event) → lit_after says lit (es ++ fs) ≡ lit_after says (lit_after says lit es) fs
lit-append says lit [] fs = refl
lit-append says lit (e ∷ es) fs = lit-append says (said_or (says e) lit) es fs

-- events that say nothing
lit-silent : (says : Event → Option Bool) (lit : Bool) (tick code : ℕ) (ns : List ℕ) → ((n : ℕ) → says (event tick code n) ≡ None) →
    lit_after says lit (map (λ n. event tick code n) ns) ≡ lit
lit-silent says lit tick code [] silent = refl
lit-silent says lit tick code (n ∷ ns) silent =
    ap (λ (o : Option Bool). lit_after says (said_or o lit) (map (λ m. event tick code m) ns)) (silent n) ∙ lit-silent says lit tick code ns silent

-- what a code makes of it where one of its events is told of the head
abbrev pub effect : Option Bool → Bool → Bool → Bool
effect None on lit = lit
effect (Some b) on lit = if on then b else lit

effect-next : (said : Option Bool) (here on lit : Bool) → effect said on (said_or (if here then said else None) lit) ≡ effect said (here || on) lit
effect-next None true on lit = refl
effect-next None false on lit = refl
effect-next (Some b) true true lit = refl
effect-next (Some b) true false lit = refl
effect-next (Some b) false on lit = refl

lit-among : (by_code : ℕ → Option Bool) (p : ℕ) (lit : Bool) (tick code : ℕ) (ns : List ℕ) →
    lit_after (says_at by_code p) lit (map (λ n. event tick code n) ns) ≡ effect (by_code code) (among p ns) lit
lit-among by_code p lit tick code [] = sym (none (by_code code))
  where
    none : (said : Option Bool) → effect said false lit ≡ lit
    none None = refl
    none (Some b) = refl
lit-among by_code p lit tick code (n ∷ ns) =
    lit-among by_code p (said_or (if n == p then by_code code else None) lit) tick code ns ∙ effect-next (by_code code) (n == p) (among p ns) lit

filter-here : (t : Bool) (p n : ℕ) (ms : List ℕ) (was : Bool) → among p ms ≡ (t && was) → among p (if t then n ∷ ms else ms) ≡ (t && ((n == p) || was))
filter-here true p n ms was e = ap (λ (b : Bool). (n == p) || b) e
filter-here false p n ms was e = e

among-filter : (test : ℕ → Bool) (p : ℕ) (ns : List ℕ) → among p (filter test ns) ≡ (test p && among p ns)
among-filter test p [] = sym (and-false (test p))
  where
    and-false : (b : Bool) → (b && false) ≡ false
    and-false true = refl
    and-false false = refl
among-filter test p (n ∷ ns) = elim (cases_eq n p) [
  | inl same ↦ rw (ap test same) (filter-here (test p) p n (filter test ns) (among p ns) (among-filter test p ns))
  | inr other ↦
      cond_both (test n) (n ∷ filter test ns) (filter test ns) (λ (ms : List ℕ). among p ms ≡ (test p && ((n == p) || among p ns)))
      (λ _. rw (ne_eqb n p other) (among-filter test p ns)) (λ _. rw (ne_eqb n p other) (among-filter test p ns))
]

-- of a head, a code says it where its test passes
pub lit-told : (by_code : ℕ → Option Bool) (p : ℕ) (lit : Bool) (tick code : ℕ) (test : ℕ → Bool) → 1 ≤ p → p ≤ 16 →
    lit_after (says_at by_code p) lit (told tick code test) ≡ effect (by_code code) (test p) lit
lit-told by_code p lit tick code test from within =
    lit-among by_code p lit tick code (numbers_with test)
    ∙ ap (λ (b : Bool). effect (by_code code) b lit)
    (among-filter test p (run_from 1 16) ∙ ap (λ (b : Bool). test p && b) (among-run p 1 16 from (omega (arith, within))) ∙ and-true (test p))

-- of a vehicle detector too
lit-detectors : (by_code : ℕ → Option Bool) (d : ℕ) (lit : Bool) (tick code : ℕ) (test : ℕ → Bool) → 1 ≤ d → d ≤ VEHICLE_DETECTORS →
    lit_after (says_at by_code d) lit (told_detectors tick code test) ≡ effect (by_code code) (test d) lit
lit-detectors by_code d lit tick code test from within =
    lit-among by_code d lit tick code (detectors_with test)
    ∙ ap (λ (b : Bool). effect (by_code code) b lit)
    (among-filter test d (run_from 1 VEHICLE_DETECTORS) ∙ ap (λ (b : Bool). test d && b) (among-run d 1 VEHICLE_DETECTORS from (omega (arith, within)))
    ∙ and-true (test d))

-- ## What the events of a change say

-- events lead from what was lit to what is
pub record Leads (says : Event → Option Bool) (lit : Bool) (es : List Event) (last : Bool) : Type 0 where
  pub is_lit : lit_after says lit es ≡ last

pub is_lit_of : {says : Event → Option Bool} {lit last : Bool} {es : List Event} → Leads says lit es last → lit_after says lit es ≡ last
is_lit_of l = l.is_lit

pub after : {says : Event → Option Bool} {lit next last : Bool} {es fs : List Event} → Leads says lit es next → Leads says next fs last → Leads says lit (es ++ fs) last
after {says} {lit} {next} {last} {es} {fs} one other =
    record { is_lit = lit-append says lit es fs ∙ ap (λ (b : Bool). lit_after says b fs) one.is_lit ∙ other.is_lit }

leads : (says : Event → Option Bool) (lit : Bool) (es : List Event) (last : Bool) → lit_after says lit es ≡ last → Leads says lit es last
leads says lit es last e = record { is_lit = e }

pub leads-told : (by_code : ℕ → Option Bool) (p : ℕ) (lit : Bool) (tick code : ℕ) (test : ℕ → Bool) → 1 ≤ p → p ≤ 16 →
    Leads (says_at by_code p) lit (told tick code test) (effect (by_code code) (test p) lit)
leads-told by_code p lit tick code test from within = record { is_lit = lit-told by_code p lit tick code test from within }

pub leads-detectors : (by_code : ℕ → Option Bool) (d : ℕ) (lit : Bool) (tick code : ℕ) (test : ℕ → Bool) → 1 ≤ d → d ≤ VEHICLE_DETECTORS →
    Leads (says_at by_code d) lit (told_detectors tick code test) (effect (by_code code) (test d) lit)
leads-detectors by_code d lit tick code test from within = record { is_lit = lit-detectors by_code d lit tick code test from within }

-- what a code says nothing of stays as it is
pub leads-quiet : (by_code : ℕ → Option Bool) (p : ℕ) (lit : Bool) (tick code : ℕ) (ns : List ℕ) → by_code code ≡ None →
    Leads (says_at by_code p) lit (map (λ n. event tick code n) ns) lit
leads-quiet by_code p lit tick code ns none = record {
  is_lit = lit-among by_code p lit tick code ns ∙ ap (λ (said : Option Bool). effect said (among p ns) lit) none;
}

quiet : (by_code : ℕ → Option Bool) (p tick code n : ℕ) → by_code code ≡ None → says_at by_code p (event tick code n) ≡ None
quiet by_code p tick code n e = rw e (both (n == p))
  where
    both : (b : Bool) → (if b then (let none : Option Bool = None in none) else None) ≡ None
    both true = refl
    both false = refl

preempt-quiet : (says : Event → Option Bool) (lit : Bool) (before : Option ℕ) (tick : ℕ) (now : Option ℕ) →
    ((n : ℕ) → says (event tick 105 n) ≡ None) → Leads says lit (preempt_events before tick now) lit
preempt-quiet says lit before tick None silent = record { is_lit = refl }
preempt-quiet says lit before tick (Some n) silent = record {
  is_lit =
      cond_both (is n before) [] (event tick 105 n ∷ []) (λ (es : List Event). lit_after says lit es ≡ lit)
      (λ _. refl) (λ _. ap (λ (o : Option Bool). said_or o lit) (silent n));
}

flash-quiet : (says : Event → Option Bool) (lit before now : Bool) (tick : ℕ) → ((n : ℕ) → says (event tick 173 n) ≡ None) →
    Leads says lit (flash_events before tick now) lit
flash-quiet says lit true true tick silent = record { is_lit = refl }
flash-quiet says lit true false tick silent = record { is_lit = ap (λ (o : Option Bool). said_or o lit) (silent 2) }
flash-quiet says lit false true tick silent = record { is_lit = ap (λ (o : Option Bool). said_or o lit) (silent 6) }
flash-quiet says lit false false tick silent = record { is_lit = refl }

-- what the codes of vehicle heads, of pedestrian heads, of arrows and of overlaps make of it
abbrev by_vehicles : (ℕ → Option Bool) → ℕ → Signals → Signals → Bool → Bool
by_vehicles by_code p was now lit =
    effect (by_code 9) (ends (is_yellow was) (is_yellow now) p) (effect (by_code 8) (begins (is_yellow was) (is_yellow now) p)
    (effect (by_code 7) (ends (is_green was) (is_green now) p) (effect (by_code 1) (begins (is_green was) (is_green now) p) lit)))

abbrev by_pedestrians : (ℕ → Option Bool) → ℕ → Signals → Signals → Bool → Bool
by_pedestrians by_code p was now lit =
    effect (by_code 23) (ends (either (is_walk was) (is_clearance was)) (either (is_walk now) (is_clearance now)) p)
    (effect (by_code 22) (begins (is_clearance was) (is_clearance now) p) (effect (by_code 21) (begins (is_walk was) (is_walk now) p) lit))

abbrev by_arrows : (ℕ → Option Bool) → ℕ → Signals → Signals → Bool → Bool
by_arrows by_code p was now lit =
    effect (by_code 33) (ends (is_overlap_arrow was) (is_overlap_arrow now) p)
    (effect (by_code 32) (begins (is_overlap_arrow was) (is_overlap_arrow now) p) lit)

abbrev by_overlaps : (ℕ → Option Bool) → ℕ → Signals → Signals → Bool → Bool
by_overlaps by_code p was now lit =
    effect (by_code 64) (ends (is_overlap_lit was) (is_overlap_lit now) p)
    (effect (by_code 63) (begins (is_overlap_yellow was) (is_overlap_yellow now) p)
    (effect (by_code 61) (begins (is_overlap_green was) (is_overlap_green now) p) lit))

lit-vehicles : (by_code : ℕ → Option Bool) (p : ℕ) (was : Signals) (tick : ℕ) (now : Signals) (lit : Bool) → 1 ≤ p → p ≤ 16 →
    Leads (says_at by_code p) lit (vehicle_events was tick now) (by_vehicles by_code p was now lit)
lit-vehicles by_code p was tick now lit from within =
    after (after (after (leads-told by_code p lit tick 1 (begins (is_green was) (is_green now)) from within)
    (leads-told by_code p _ tick 7 (ends (is_green was) (is_green now)) from within))
    (leads-told by_code p _ tick 8 (begins (is_yellow was) (is_yellow now)) from within))
    (leads-told by_code p _ tick 9 (ends (is_yellow was) (is_yellow now)) from within)

lit-pedestrians : (by_code : ℕ → Option Bool) (p : ℕ) (was : Signals) (tick : ℕ) (now : Signals) (lit : Bool) → 1 ≤ p → p ≤ 16 →
    Leads (says_at by_code p) lit (pedestrian_events was tick now) (by_pedestrians by_code p was now lit)
lit-pedestrians by_code p was tick now lit from within =
    after (after (leads-told by_code p lit tick 21 (begins (is_walk was) (is_walk now)) from within)
    (leads-told by_code p _ tick 22 (begins (is_clearance was) (is_clearance now)) from within))
    (leads-told by_code p _ tick 23 (ends (either (is_walk was) (is_clearance was)) (either (is_walk now) (is_clearance now))) from within)

lit-arrows : (by_code : ℕ → Option Bool) (p : ℕ) (was : Signals) (tick : ℕ) (now : Signals) (lit : Bool) → 1 ≤ p → p ≤ 16 →
    Leads (says_at by_code p) lit (arrow_events was tick now) (by_arrows by_code p was now lit)
lit-arrows by_code p was tick now lit from within =
    after (leads-told by_code p lit tick 32 (begins (is_overlap_arrow was) (is_overlap_arrow now)) from within)
    (leads-told by_code p _ tick 33 (ends (is_overlap_arrow was) (is_overlap_arrow now)) from within)

lit-overlaps : (by_code : ℕ → Option Bool) (p : ℕ) (was : Signals) (tick : ℕ) (now : Signals) (lit : Bool) → 1 ≤ p → p ≤ 16 →
    Leads (says_at by_code p) lit (overlap_events was tick now) (by_overlaps by_code p was now lit)
lit-overlaps by_code p was tick now lit from within =
    after (after (leads-told by_code p lit tick 61 (begins (is_overlap_green was) (is_overlap_green now)) from within)
    (leads-told by_code p _ tick 63 (begins (is_overlap_yellow was) (is_overlap_yellow now)) from within))
    (leads-told by_code p _ tick 64 (ends (is_overlap_lit was) (is_overlap_lit now)) from within)

lit-change : (by_code : ℕ → Option Bool) (p : ℕ) (was : Signals) (now : Shown) (lit : Bool) → 1 ≤ p → p ≤ 16 → by_code 105 ≡ None → by_code 173 ≡ None →
    lit_after (says_at by_code p) lit (events_of was now)
    ≡ by_overlaps by_code p was now.signals (by_arrows by_code p was now.signals (by_pedestrians by_code p was now.signals
    (by_vehicles by_code p was now.signals lit)))
unfolding events_of
lit-change by_code p was now lit from within preempt flash = is_lit_of (
    after (after (after (after (after (lit-vehicles by_code p was now.tick now.signals lit from within)
    (lit-pedestrians by_code p was now.tick now.signals _ from within))
    (lit-arrows by_code p was now.tick now.signals _ from within))
    (lit-overlaps by_code p was now.tick now.signals _ from within))
    (preempt-quiet (says_at by_code p) _ was.preempt now.tick now.signals.preempt (λ n. quiet by_code p now.tick 105 n preempt)))
    (flash-quiet (says_at by_code p) _ (is_in_flash was) (is_in_flash now.signals) now.tick (λ n. quiet by_code p now.tick 173 n flash)))

flash-said : (was now : Bool) (tick : ℕ) → lit_after says_flash was (flash_events was tick now) ≡ now
flash-said true true tick = refl
flash-said true false tick = refl
flash-said false true tick = refl
flash-said false false tick = refl

flashes : (was now : Bool) (tick : ℕ) → Leads says_flash was (flash_events was tick now) now
flashes was now tick = record { is_lit = flash-said was now tick }

lit-flash : (was : Signals) (now : Shown) → lit_after says_flash (is_in_flash was) (events_of was now) ≡ is_in_flash now.signals
unfolding events_of
lit-flash was now =
    let silent : (code : ℕ) (test : ℕ → Bool) → (code == 173) ≡ false → Leads says_flash (is_in_flash was) (told now.tick code test) (is_in_flash was) =
    λ code test other. record { is_lit = lit-silent says_flash (is_in_flash was) now.tick code (numbers_with test) (λ n. rw other refl) } in
    is_lit_of (after (after (after (after (after (after (after (after (silent 1 _ refl) (silent 7 _ refl)) (silent 8 _ refl)) (silent 9 _ refl))
    (after (after (silent 21 _ refl) (silent 22 _ refl)) (silent 23 _ refl)))
    (after (silent 32 _ refl) (silent 33 _ refl)))
    (after (after (silent 61 _ refl) (silent 63 _ refl)) (silent 64 _ refl)))
    (preempt-quiet says_flash (is_in_flash was) was.preempt now.tick now.signals.preempt (λ n. refl)))
    (flashes (is_in_flash was) (is_in_flash now.signals) now.tick))

-- ## Colours, one by one

pub begun-or-ended : (was now : Bool) → (if was && not now then false else (if now && not was then true else was)) ≡ now
begun-or-ended true true = refl
begun-or-ended true false = refl
begun-or-ended false true = refl
begun-or-ended false false = refl

-- of two colours of which a head shows at most one, the first and the second
first-colour : (w c nw nc : Bool) → (w ≡ true → c ≡ false) → (nw ≡ true → nc ≡ false) →
    (if (w || c) && not (nw || nc) then false else (if nc && not c then false else (if nw && not w then true else w))) ≡ nw
first-colour true true nw nc a b = absurd (true≢false (a refl))
first-colour true false true true a b = absurd (true≢false (b refl))
first-colour true false true false a b = refl
first-colour true false false true a b = refl
first-colour true false false false a b = refl
first-colour false c true true a b = absurd (true≢false (b refl))
first-colour false true true false a b = refl
first-colour false false true false a b = refl
first-colour false true false true a b = refl
first-colour false false false true a b = refl
first-colour false true false false a b = refl
first-colour false false false false a b = refl

second-colour : (w c nw nc : Bool) → (w ≡ true → c ≡ false) → (nw ≡ true → nc ≡ false) →
    (if (w || c) && not (nw || nc) then false else (if nc && not c then true else (if nw && not w then false else c))) ≡ nc
second-colour true true nw nc a b = absurd (true≢false (a refl))
second-colour true false true true a b = absurd (true≢false (b refl))
second-colour true false true false a b = refl
second-colour true false false true a b = refl
second-colour true false false false a b = refl
second-colour false c true true a b = absurd (true≢false (b refl))
second-colour false true true false a b = refl
second-colour false false true false a b = refl
second-colour false true false true a b = refl
second-colour false false false true a b = refl
second-colour false true false false a b = refl
second-colour false false false false a b = refl

-- three colours, and an overlap shows at most one of them
abbrev OneColour : Bool → Bool → Bool → Type 0
OneColour w c a = (w ≡ true → c ≡ false) × ((w ≡ true → a ≡ false) × (c ≡ true → a ≡ false))

one-colour : (s : Signals) → AreApart s → (o : ℕ) → OneColour (is_overlap_green s o) (is_overlap_yellow s o) (is_overlap_arrow s o)
one-colour s apart o = (apart.overlaps o, (apart.green_arrows o, apart.yellow_arrows o))

first-of-three : (w c a nw nc na : Bool) → OneColour w c a → OneColour nw nc na →
    (if ((w || c) || a) && not ((nw || nc) || na) then false else (if nc && not c then false else (if nw && not w then true else (if na && not a then false else w)))) ≡ nw
first-of-three true true a nw nc na o n = absurd (true≢false (o.0 refl))
first-of-three true false true nw nc na o n = absurd (true≢false (o.1.0 refl))
first-of-three false true true nw nc na o n = absurd (true≢false (o.1.1 refl))
first-of-three true false false true true na o n = absurd (true≢false (n.0 refl))
first-of-three true false false true false true o n = absurd (true≢false (n.1.0 refl))
first-of-three true false false false true true o n = absurd (true≢false (n.1.1 refl))
first-of-three true false false true false false o n = refl
first-of-three true false false false true false o n = refl
first-of-three true false false false false true o n = refl
first-of-three true false false false false false o n = refl
first-of-three false true false true true na o n = absurd (true≢false (n.0 refl))
first-of-three false true false true false true o n = absurd (true≢false (n.1.0 refl))
first-of-three false true false false true true o n = absurd (true≢false (n.1.1 refl))
first-of-three false true false true false false o n = refl
first-of-three false true false false true false o n = refl
first-of-three false true false false false true o n = refl
first-of-three false true false false false false o n = refl
first-of-three false false true true true na o n = absurd (true≢false (n.0 refl))
first-of-three false false true true false true o n = absurd (true≢false (n.1.0 refl))
first-of-three false false true false true true o n = absurd (true≢false (n.1.1 refl))
first-of-three false false true true false false o n = refl
first-of-three false false true false true false o n = refl
first-of-three false false true false false true o n = refl
first-of-three false false true false false false o n = refl
first-of-three false false false true true na o n = absurd (true≢false (n.0 refl))
first-of-three false false false true false true o n = absurd (true≢false (n.1.0 refl))
first-of-three false false false false true true o n = absurd (true≢false (n.1.1 refl))
first-of-three false false false true false false o n = refl
first-of-three false false false false true false o n = refl
first-of-three false false false false false true o n = refl
first-of-three false false false false false false o n = refl

second-of-three : (w c a nw nc na : Bool) → OneColour w c a → OneColour nw nc na →
    (if ((w || c) || a) && not ((nw || nc) || na) then false else (if nc && not c then true else (if nw && not w then false else (if na && not a then false else c)))) ≡ nc
second-of-three true true a nw nc na o n = absurd (true≢false (o.0 refl))
second-of-three true false true nw nc na o n = absurd (true≢false (o.1.0 refl))
second-of-three false true true nw nc na o n = absurd (true≢false (o.1.1 refl))
second-of-three true false false true true na o n = absurd (true≢false (n.0 refl))
second-of-three true false false true false true o n = absurd (true≢false (n.1.0 refl))
second-of-three true false false false true true o n = absurd (true≢false (n.1.1 refl))
second-of-three true false false true false false o n = refl
second-of-three true false false false true false o n = refl
second-of-three true false false false false true o n = refl
second-of-three true false false false false false o n = refl
second-of-three false true false true true na o n = absurd (true≢false (n.0 refl))
second-of-three false true false true false true o n = absurd (true≢false (n.1.0 refl))
second-of-three false true false false true true o n = absurd (true≢false (n.1.1 refl))
second-of-three false true false true false false o n = refl
second-of-three false true false false true false o n = refl
second-of-three false true false false false true o n = refl
second-of-three false true false false false false o n = refl
second-of-three false false true true true na o n = absurd (true≢false (n.0 refl))
second-of-three false false true true false true o n = absurd (true≢false (n.1.0 refl))
second-of-three false false true false true true o n = absurd (true≢false (n.1.1 refl))
second-of-three false false true true false false o n = refl
second-of-three false false true false true false o n = refl
second-of-three false false true false false true o n = refl
second-of-three false false true false false false o n = refl
second-of-three false false false true true na o n = absurd (true≢false (n.0 refl))
second-of-three false false false true false true o n = absurd (true≢false (n.1.0 refl))
second-of-three false false false false true true o n = absurd (true≢false (n.1.1 refl))
second-of-three false false false true false false o n = refl
second-of-three false false false false true false o n = refl
second-of-three false false false false false true o n = refl
second-of-three false false false false false false o n = refl

-- ## Of lines

abbrev Follows : (Event → Option Bool) → (Signals → Bool) → Type 0
Follows says shows = (was : Signals) (now : Shown) → AreApart was → AreApart now.signals →
    lit_after says (shows was) (events_of was now) ≡ shows now.signals

follow : (says : Event → Option Bool) (shows : Signals → Bool) → Follows says shows → (was : Signals) (lines : List Shown) (line : Shown) →
    AreApart was → AreAllApart (lines ++ line ∷ []) → lit_after says (shows was) (events_after was (lines ++ line ∷ [])) ≡ shows line.signals
follow says shows step was [] line apart all =
    is_lit_of (after (leads says (shows was) (events_of was line) (shows line.signals) (step was line apart all.0))
    (leads says (shows line.signals) [] (shows line.signals) refl))
follow says shows step was (next ∷ lines) line apart all =
    is_lit_of (after (leads says (shows was) (events_of was next) (shows next.signals) (step was next apart all.0))
    (leads says (shows next.signals) (events_after next.signals (lines ++ line ∷ [])) (shows line.signals)
    (follow says shows step next.signals lines line all.0 all.1)))

none-apart : AreApart nothing_lit
none-apart = record {
  pedestrians = λ n e. names-zero n;
  overlaps = λ n e. names-zero n;
  green_arrows = λ n e. names-zero n;
  yellow_arrows = λ n e. names-zero n;
}

-- where nothing is lit at first
followed : (says : Event → Option Bool) (shows : Signals → Bool) → Follows says shows → shows nothing_lit ≡ false → (lines : List Shown) (line : Shown) →
    AreAllApart (lines ++ line ∷ []) → lit_after says false (events_of_lines (lines ++ line ∷ [])) ≡ shows line.signals
followed says shows step dark lines line all =
    ap (λ (b : Bool). lit_after says b (events_of_lines (lines ++ line ∷ []))) (sym dark) ∙ follow says shows step nothing_lit lines line none-apart all

pub tell-the-heads : TellTheHeads
tell-the-heads lines line all = record {
  green = λ p from within. followed (says_at says_green p) (λ s. is_green s p) (λ was now a b.
      lit-change says_green p was now (is_green was p) from within refl refl ∙ begun-or-ended (is_green was p) (is_green now.signals p))
      (names-zero p) lines line all;
  yellow = λ p from within. followed (says_at says_yellow p) (λ s. is_yellow s p) (λ was now a b.
      lit-change says_yellow p was now (is_yellow was p) from within refl refl ∙ begun-or-ended (is_yellow was p) (is_yellow now.signals p))
      (names-zero p) lines line all;
  walk = λ p from within. followed (says_at says_walk p) (λ s. is_walk s p) (λ was now a b.
      lit-change says_walk p was now (is_walk was p) from within refl refl
      ∙ first-colour (is_walk was p) (is_clearance was p) (is_walk now.signals p) (is_clearance now.signals p) (a.pedestrians p) (b.pedestrians p))
      (names-zero p) lines line all;
  clearance = λ p from within. followed (says_at says_clearance p) (λ s. is_clearance s p) (λ was now a b.
      lit-change says_clearance p was now (is_clearance was p) from within refl refl
      ∙ second-colour (is_walk was p) (is_clearance was p) (is_walk now.signals p) (is_clearance now.signals p) (a.pedestrians p) (b.pedestrians p))
      (names-zero p) lines line all;
  overlap_green = λ o from within. followed (says_at says_overlap_green o) (λ s. is_overlap_green s o) (λ was now a b.
      lit-change says_overlap_green o was now (is_overlap_green was o) from (omega (arith, within)) refl refl
      ∙ first-of-three (is_overlap_green was o) (is_overlap_yellow was o) (is_overlap_arrow was o)
      (is_overlap_green now.signals o) (is_overlap_yellow now.signals o) (is_overlap_arrow now.signals o) (one-colour was a o) (one-colour now.signals b o))
      (names-zero o) lines line all;
  overlap_yellow = λ o from within. followed (says_at says_overlap_yellow o) (λ s. is_overlap_yellow s o) (λ was now a b.
      lit-change says_overlap_yellow o was now (is_overlap_yellow was o) from (omega (arith, within)) refl refl
      ∙ second-of-three (is_overlap_green was o) (is_overlap_yellow was o) (is_overlap_arrow was o)
      (is_overlap_green now.signals o) (is_overlap_yellow now.signals o) (is_overlap_arrow now.signals o) (one-colour was a o) (one-colour now.signals b o))
      (names-zero o) lines line all;
  overlap_arrow = λ o from within. followed (says_at says_overlap_arrow o) (λ s. is_overlap_arrow s o) (λ was now a b.
      lit-change says_overlap_arrow o was now (is_overlap_arrow was o) from (omega (arith, within)) refl refl
      ∙ begun-or-ended (is_overlap_arrow was o) (is_overlap_arrow now.signals o))
      (names-zero o) lines line all;
  flash = followed says_flash is_in_flash (λ was now a b. lit-flash was now)
      (ap (λ (o : Option ℕ). is_some o) (first-none (has_number nothing_lit.vehicles.flashing) (run_from 1 16) names-zero)) lines line all;
}
