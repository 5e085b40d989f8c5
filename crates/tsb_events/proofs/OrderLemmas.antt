-- The events of one input are in order.
use Rattle.std.proofs.Common.{◌≡◌, ℕ, ◌+◌, ◌-◌, ◌<◌, ◌≤◌, ◌==◌, nat_eq, nat_le, Bool, true, not, ◌&&◌, zero, suc, List, [], ◌∷◌, ◌++◌, map, filter, flat_map, refl, arith, inl, inr, subst}
use Rattle.std.proofs.lemmas.Bool.{cases_Bool, le-leb}
use Rattle.std.specs.Option.{option_eq}
use Rattle.std.proofs.lemmas.Bool.Decides.{nat_tests}
use Rattle.std.specs.List.{All}
use Rattle.std.proofs.lemmas.List.Elements.{All-nil, All-cons, All-head, All-tail, All-append, All-weaker}
use Rattle.tsb_types.specs.Lists.{or_number, run_from}
use Rattle.tsb_types.specs.Events.{event, told, told_detectors}
use Rattle.tsb_types.specs.declared.limits.TheConstants.{VEHICLE_DETECTORS}
use Rattle.tsb_types.specs.declared.event.Event.{Event}
use Rattle.tsb_types.specs.declared.event.TheConstants as codes
use Rattle.tsb_types.specs.declared.row.Row.{Row}
use Rattle.tsb_step.specs.declared.inputs.Input.{Input}
use Rattle.tsb_step.specs.declared.inputs.Input.TheVariants.{Tick}
use Rattle.tsb_step.specs.declared.log_form.LogForm.{LogForm}
use Rattle.tsb_step.specs.tsb_coord.declared.cycle.CycleState.{CycleState}
use Rattle.tsb_step.specs.tsb_coord.declared.cycle.CycleState.TheVariants as cycles
use Rattle.tsb_step.specs.tsb_coord.Cycle.{number_of}
use Rattle.tsb_step.specs.Events as events
use Rattle.tsb_step.specs.declared.log_form.Noted.{Noted}
use Rattle.tsb_step.specs.Events.{View, Found, Selected, events_of, found, view, selected}
use Rattle.tsb_step.specs.State.{State}
use Rattle.tsb_step.specs.Step.{step}
use Rattle.tsb_events.specs.Order.{StandsBefore, AreInOrder}

-- ## Events of a tick whose codes lie within bounds

-- it is of this tick, with a code from one number up to below another
abbrev pub IsWithin : ℕ → ℕ → ℕ → Event → Type 0
IsWithin tick low high e = (e.tick ≡ tick) × (low ≤ e.code) × (e.code < high)

pub record Span (tick low high : ℕ) (es : List Event) : Type 0 where
  pub rises : low ≤ high
  pub order : AreInOrder es
  pub within : All (IsWithin tick low high) es

order-append : (P Q : Event → Type 0) (es fs : List Event) → ((e f : Event) → P e → Q f → StandsBefore e f) → All P es → All Q fs →
    AreInOrder es → AreInOrder fs → AreInOrder (es ++ fs)
order-append P Q [] fs before all each one other = other
order-append P Q (e ∷ es) fs before all each one other = (
  All-append (StandsBefore e) es fs one.0 (All-weaker Q (StandsBefore e) (λ f q. before e f (All-head P e es all) q) fs each),
  order-append P Q es fs before (All-tail P e es all) each one.1 other,
)

lower-first : (tick a b c d : ℕ) → b ≤ c → (e f : Event) → IsWithin tick a b e → IsWithin tick c d f → StandsBefore e f
lower-first tick a b c d apart e f one other =
    let same : e.tick ≡ f.tick = omega (arith, one.0, other.0) in
    let less : e.code < f.code = omega (arith, one.2, other.1, apart) in
    (same, inl less)

low-enough : (b c : ℕ) → nat_le b c ≡ true → b ≤ c
low-enough b c e = grind (arith, nat_tests)

-- those of lower codes, and then those of higher codes
joined : {tick a b c d : ℕ} {es fs : List Event} → Span tick a b es → Span tick c d fs → nat_le b c ≡ true → Span tick a d (es ++ fs)
joined {tick = tick} {a = a} {b = b} {c = c} {d = d} {es = es} {fs = fs} one other test =
    let apart : b ≤ c = low-enough b c test in
    let first : a ≤ b = one.rises in
    let second : c ≤ d = other.rises in
    record {
      rises = omega (arith, apart, first, second);
      order = order-append (IsWithin tick a b) (IsWithin tick c d) es fs (lower-first tick a b c d apart) one.within other.within one.order other.order;
      within = All-append (IsWithin tick a d) es fs
          (All-weaker (IsWithin tick a b) (IsWithin tick a d) (λ e h. (h.0, h.1, omega (arith, h.2, apart, second))) es one.within)
          (All-weaker (IsWithin tick c d) (IsWithin tick a d) (λ e h. (h.0, omega (arith, h.1, apart, first), h.2)) fs other.within);
    }

-- ## Events of one code

-- it has this tick, this code, and a parameter from a on
abbrev IsFrom : ℕ → ℕ → ℕ → Event → Type 0
IsFrom tick code a e = (e.tick ≡ tick) × (e.code ≡ code) × (a ≤ e.parameter)

record Told (tick code a : ℕ) (es : List Event) : Type 0 where
  order : AreInOrder es
  each : All (IsFrom tick code a) es

later : (tick code a : ℕ) (e : Event) → IsFrom tick code (a + 1) e → IsFrom tick code a e
later tick code a e h = (h.0, h.1, omega (arith, h.2))

then-later : (tick code a : ℕ) (es : List Event) → Told tick code (a + 1) es → Told tick code a (event tick code a ∷ es)
then-later tick code a es rest = record {
  order = (
    All-weaker (IsFrom tick code (a + 1)) (StandsBefore (event tick code a))
        (λ e h. (omega (arith, h.0), inr (omega (arith, h.1), omega (arith, h.2)))) es rest.each,
    rest.order,
  );
  each = All-cons (IsFrom tick code a) (event tick code a) es (refl, refl, omega arith)
      (All-weaker (IsFrom tick code (a + 1)) (IsFrom tick code a) (later tick code a) es rest.each);
}

told-from : (tick code : ℕ) (f : ℕ → Bool) (a n : ℕ) → Told tick code a (map (λ k. event tick code k) (filter f (run_from a n)))
unfolding run_from
told-from tick code f a zero = record { order = tt; each = All-nil (IsFrom tick code a) }
told-from tick code f a (suc n) = elim (cases_Bool (f a)) [
  | inl passes ↦ rw passes (then-later tick code a (map (λ k. event tick code k) (filter f (run_from (a + 1) n))) (told-from tick code f (a + 1) n))
  | inr fails ↦
      let rest : Told tick code (a + 1) (map (λ k. event tick code k) (filter f (run_from (a + 1) n))) = told-from tick code f (a + 1) n in
      rw fails (record { order = rest.order; each = All-weaker (IsFrom tick code (a + 1)) (IsFrom tick code a) (later tick code a) _ rest.each })
]

of-code : (tick code most : ℕ) (f : ℕ → Bool) → Span tick code (suc code) (map (λ k. event tick code k) (filter f (run_from 1 most)))
of-code tick code most f =
    let those : Told tick code 1 (map (λ k. event tick code k) (filter f (run_from 1 most))) = told-from tick code f 1 most in
    record {
      rises = omega arith;
      order = those.order;
      within = All-weaker (IsFrom tick code 1) (IsWithin tick code (suc code))
          (λ e h. (h.0, omega (arith, h.1), omega (arith, h.1))) (map (λ k. event tick code k) (filter f (run_from 1 most))) those.each;
    }

pub one-code : (tick code : ℕ) (f : ℕ → Bool) → Span tick code (suc code) (told tick code f)
one-code tick code f = of-code tick code 16 f

pub code-of-detectors : (tick code : ℕ) (f : ℕ → Bool) → Span tick code (suc code) (told_detectors tick code f)
code-of-detectors tick code f = of-code tick code VEHICLE_DETECTORS f

one-event : (tick code n : ℕ) → Span tick code (suc code) (event tick code n ∷ [])
one-event tick code n = record {
  rises = omega arith;
  order = (All-nil (StandsBefore (event tick code n)), tt);
  within = All-cons (IsWithin tick code (suc code)) (event tick code n) [] (refl, omega arith, omega arith) (All-nil (IsWithin tick code (suc code)));
}

no-event : (tick code : ℕ) → Span tick code (suc code) []
no-event tick code = record { rises = omega arith; order = tt; within = All-nil (IsWithin tick code (suc code)) }

-- ## Group by group

pub green-span : (tick : ℕ) (v w : View) → Span tick 0 3 (events.green_events tick v w)
green-span tick v w =
    joined (joined (one-code tick codes.PHASE_ON _) (one-code tick codes.GREEN_BEGINS _) refl) (one-code tick codes.CONFLICT_BEGINS _) refl

pub ending-span : (tick : ℕ) (f : Found) → Span tick 3 7 (events.ending_events tick f)
ending-span tick f =
    joined (joined (joined (one-code tick codes.MINIMUM_COMPLETE _) (one-code tick codes.GAP_OUT _) refl) (one-code tick codes.MAX_OUT _) refl)
    (one-code tick codes.FORCE_OFF _) refl

pub clearing-span : (tick : ℕ) (v w : View) → Span tick 7 13 (events.clearing_events tick v w)
clearing-span tick v w =
    joined (joined (joined (joined (joined (one-code tick codes.GREEN_ENDS _) (one-code tick codes.YELLOW_BEGINS _) refl) (one-code tick
    codes.YELLOW_ENDS _) refl) (one-code tick codes.RED_CLEARANCE_BEGINS _) refl) (one-code tick codes.RED_CLEARANCE_ENDS _) refl) (one-code
    tick codes.PHASE_OFF _) refl

pub pedestrian-span : (tick : ℕ) (v w : View) → Span tick 21 24 (events.pedestrian_events tick v w)
pedestrian-span tick v w =
    joined (joined (one-code tick codes.WALK_BEGINS _) (one-code tick codes.CLEARANCE_BEGINS _) refl) (one-code tick codes.DONT_WALK_BEGINS
    _) refl

pub crossing-span : (tick : ℕ) (v w : View) → Span tick 31 32 (events.crossing_events tick v w)
crossing-span tick v w = elim (cases_Bool (v.crosses && not w.crosses)) [
  | inl h ↦ rw h (one-event tick codes.BARRIER_CROSSED w.side)
  | inr h ↦ rw h (no-event tick codes.BARRIER_CROSSED)
]

pub arrow-span : (tick : ℕ) (v w : View) → Span tick 32 34 (events.arrow_events tick v w)
arrow-span tick v w = joined (one-code tick codes.ARROW_BEGINS _) (one-code tick codes.ARROW_ENDS _) refl

pub call-span : (tick : ℕ) (form : LogForm) (v w : View) → Span tick 43 46 (events.call_events tick form v w)
call-span tick form v w =
    joined (joined (one-code tick codes.CALL_COMES _) (one-code tick codes.CALL_GOES _) refl) (one-code tick codes.PEDESTRIAN_CALL_COMES _)
    refl

pub overlap-span : (tick : ℕ) (v w : View) → Span tick 61 66 (events.overlap_events tick v w)
overlap-span tick v w =
    joined (joined (joined (joined (one-code tick codes.OVERLAP_GREEN_BEGINS _) (one-code tick codes.OVERLAP_TRAIL_BEGINS _) refl)
    (one-code tick codes.OVERLAP_YELLOW_BEGINS _) refl) (one-code tick codes.OVERLAP_RED_BEGINS _) refl) (one-code tick codes.OVERLAP_OFF _) refl

pub vehicle-span : (tick : ℕ) (noted : Noted) (row : Row) (v w : View) → Span tick 81 83 (events.vehicle_events tick noted row v w)
vehicle-span tick noted row v w = joined (code-of-detectors tick codes.VEHICLE_OFF _) (code-of-detectors tick codes.VEHICLE_ON _) refl

pub alarm-span : (tick : ℕ) (v w : View) → Span tick 83 85 (events.alarm_events tick v w)
alarm-span tick v w = joined (code-of-detectors tick codes.ALARM_GOES _) (code-of-detectors tick codes.ALARM_COMES _) refl

pub button-span : (tick : ℕ) (f : Found) → Span tick 89 91 (events.button_events tick f)
button-span tick f = joined (one-code tick codes.PEDESTRIAN_OFF _) (one-code tick codes.PEDESTRIAN_ON _) refl

pub request-span : (tick : ℕ) (last row : Row) (v w : View) → Span tick 102 105 (events.request_events tick last row v w)
request-span tick last row v w = joined (one-code tick codes.PREEMPT_ON _) (one-code tick codes.PREEMPT_OFF _) refl

pub preempt-span : (tick : ℕ) (v w : View) → Span tick 105 108 (events.preempt_events tick v w)
preempt-span tick v w =
    joined (joined (one-code tick codes.PREEMPT_ENTERS _) (one-code tick codes.TRACK_BEGINS _) refl) (one-code tick codes.DWELL_BEGINS _)
    refl

pub flash-span : (tick : ℕ) (v w : View) → Span tick 173 174 (events.flash_events tick v w)
flash-span tick v w = elim (cases_Bool (w.flashes && not v.flashes)) [
  | inl h ↦ rw h (one-event tick codes.FLASH_CHANGES codes.FLASH)
  | inr h ↦ elim (cases_Bool (v.flashes && not w.flashes)) [
    | inl k ↦ rw (h, k) (one-event tick codes.FLASH_CHANGES codes.NO_FLASH)
    | inr k ↦ rw (h, k) (no-event tick codes.FLASH_CHANGES)
  ]
]

-- ## The selected pattern

differs-span : (tick code before value : ℕ) → Span tick code (suc code) (events.if_differs tick code before value)
differs-span tick code before value = elim (cases_Bool (before == value)) [
  | inl h ↦ rw h (no-event tick code)
  | inr h ↦ rw h (one-event tick code value)
]

-- codes from one number on, a code for each of n numbers
flat-span : (tick base : ℕ) (f : ℕ → List Event) (a n : ℕ) → ((k : ℕ) → 1 ≤ k → Span tick (base + k - 1) (base + k) (f k)) → 1 ≤ a →
    Span tick (base + a - 1) (base + a - 1 + n) (flat_map f (run_from a n))
unfolding run_from
flat-span tick base f a zero each from = record { rises = omega arith; order = tt; within = All-nil (IsWithin tick (base + a - 1) (base + a - 1 + 0)) }
flat-span tick base f a (suc n) each from =
    let rest : Span tick (base + (a + 1) - 1) (base + (a + 1) - 1 + n) (flat_map f (run_from (a + 1) n)) =
    flat-span tick base f (a + 1) n each (omega arith) in
    let apart : nat_le (base + a) (base + (a + 1) - 1) ≡ true = le-leb (base + a) (base + (a + 1) - 1) (omega arith) in
    let all : Span tick (base + a - 1) (base + (a + 1) - 1 + n) (f a ++ flat_map f (run_from (a + 1) n)) = joined (each a from) rest apart in
    let end : base + (a + 1) - 1 + n ≡ base + a - 1 + suc n = omega (arith, from) in
    subst (λ (top : ℕ). Span tick (base + a - 1) top (f a ++ flat_map f (run_from (a + 1) n))) end all

split-span : (tick : ℕ) (s t : Selected) → Span tick 134 150 (events.split_events tick s t)
split-span tick s t =
    flat-span tick codes.SPLIT_CHANGES (λ p. events.if_differs tick (codes.SPLIT_CHANGES + p - 1) (s.split p) (t.split p)) 1 16
    (λ k from.
    let top : suc (codes.SPLIT_CHANGES + k - 1) ≡ codes.SPLIT_CHANGES + k = omega (arith, from) in
    subst (λ (top : ℕ). Span tick (codes.SPLIT_CHANGES + k - 1) top (events.if_differs tick (codes.SPLIT_CHANGES + k - 1) (s.split k) (t.split k))) top
    (differs-span tick (codes.SPLIT_CHANGES + k - 1) (s.split k) (t.split k)))
    (omega arith)

selection-span : (tick : ℕ) (s t : Selected) → Span tick 131 132 (events.selection_events tick s t)
selection-span tick s t = elim (cases_Bool (option_eq nat_eq s.pattern t.pattern)) [
  | inl h ↦ rw h (no-event tick codes.PATTERN_CHANGES)
  | inr h ↦ rw h (one-event tick codes.PATTERN_CHANGES (or_number t.pattern codes.FREE))
]

pub pattern-span : (tick : ℕ) (s t : Selected) → Span tick 131 150 (events.pattern_events tick s t)
pattern-span tick s t =
    joined (joined (joined (selection-span tick s t) (differs-span tick codes.CYCLE_CHANGES s.cycle t.cycle) refl)
    (differs-span tick codes.OFFSET_CHANGES s.offset t.offset) refl) (split-span tick s t) refl

-- ## How the local counter goes

below-zero : (c : CycleState) → number_of c < codes.CYCLE_ZERO
below-zero cycles.Free = omega arith
below-zero cycles.InStep = omega arith
below-zero cycles.Adds = omega arith
below-zero cycles.Subtracts = omega arith
below-zero cycles.Dwells = omega arith

-- a state, and then local zero
state-and-zero : (tick n : ℕ) → n < codes.CYCLE_ZERO → Span tick codes.CYCLE_STATE_CHANGES (suc codes.CYCLE_STATE_CHANGES)
    (event tick codes.CYCLE_STATE_CHANGES n ∷ event tick codes.CYCLE_STATE_CHANGES codes.CYCLE_ZERO ∷ [])
state-and-zero tick n below = record {
  rises = omega arith;
  order = (
    All-cons (StandsBefore (event tick codes.CYCLE_STATE_CHANGES n)) (event tick codes.CYCLE_STATE_CHANGES codes.CYCLE_ZERO) [] (refl, inr (refl, below))
        (All-nil (StandsBefore (event tick codes.CYCLE_STATE_CHANGES n))),
    (All-nil (StandsBefore (event tick codes.CYCLE_STATE_CHANGES codes.CYCLE_ZERO)), tt),
  );
  within = All-cons (IsWithin tick codes.CYCLE_STATE_CHANGES (suc codes.CYCLE_STATE_CHANGES)) (event tick codes.CYCLE_STATE_CHANGES n)
      (event tick codes.CYCLE_STATE_CHANGES codes.CYCLE_ZERO ∷ []) (refl, omega arith, omega arith)
      (All-cons (IsWithin tick codes.CYCLE_STATE_CHANGES (suc codes.CYCLE_STATE_CHANGES)) (event tick codes.CYCLE_STATE_CHANGES codes.CYCLE_ZERO) [] (refl, omega arith, omega arith)
      (All-nil (IsWithin tick codes.CYCLE_STATE_CHANGES (suc codes.CYCLE_STATE_CHANGES))));
}

pub cycle-span : (tick : ℕ) (v w : View) → Span tick 150 151 (events.cycle_events tick v w)
cycle-span tick v w = differs-span tick codes.CYCLE_STATE_CHANGES (number_of v.cycle) (number_of w.cycle)

pub zero-span : (tick : ℕ) (f : Found) (v w : View) → Span tick 150 151 (events.cycle_events tick v w ++ events.zero_events tick f)
zero-span tick f v w = elim (cases_Bool f.zero) [
  | inl z ↦ elim (cases_Bool (number_of v.cycle == number_of w.cycle)) [
    | inl h ↦ rw (z, h) (one-event tick codes.CYCLE_STATE_CHANGES codes.CYCLE_ZERO)
    | inr h ↦ rw (z, h) (state-and-zero tick (number_of w.cycle) (below-zero w.cycle))
  ]
  | inr z ↦ elim (cases_Bool (number_of v.cycle == number_of w.cycle)) [
    | inl h ↦ rw (z, h) (no-event tick codes.CYCLE_STATE_CHANGES)
    | inr h ↦ rw (z, h) (one-event tick codes.CYCLE_STATE_CHANGES (number_of w.cycle))
  ]
]

-- ## All groups

ticks-span : (tick : ℕ) (f : Found) (v w : View) → Span tick 0 174 (events.tick_events tick f v w)
ticks-span tick f v w =
    joined (joined (joined (joined (joined (joined (joined (joined (joined (joined (joined (joined (joined (joined (joined (joined (joined (green-span tick v w)
    (ending-span tick f) refl) (clearing-span tick v w) refl) (pedestrian-span tick v w) refl) (crossing-span tick v w) refl) (arrow-span tick v w) refl) (call-span
    tick f.noted.form v w) refl) (overlap-span tick v w) refl) (vehicle-span tick f.noted f.row v w) refl) (alarm-span tick v w) refl)
    (button-span tick f) refl) (request-span tick f.noted.row f.row v w) refl) (preempt-span tick v w) refl) (one-code tick codes.PRESENCE_EXCEEDED _) refl) (one-code tick codes.EXIT_BEGINS _) refl)
    (zero-span tick f v w) refl) (one-code tick codes.YIELD_POINT _) refl) (flash-span tick v w) refl

others-span : (tick : ℕ) (noted : Noted) (v w : View) (s t : Selected) → Span tick 0 174 (events.other_events tick noted v w s t)
others-span tick noted v w s t =
    joined (joined (joined (joined (joined (joined (joined (joined (joined (joined (joined (joined (joined (green-span tick v w) (clearing-span tick v w) refl)
    (pedestrian-span tick v w) refl) (arrow-span tick v w) refl) (call-span tick noted.form v w) refl) (overlap-span tick v w) refl) (vehicle-span tick noted noted.row v w)
    refl) (alarm-span tick v w) refl) (request-span tick noted.row noted.row v w) refl) (preempt-span tick v w) refl) (one-code tick codes.EXIT_BEGINS _) refl) (pattern-span tick s t) refl) (cycle-span tick v w) refl) (flash-span tick v w) refl

pub ticks-in-order : (tick : ℕ) (f : Found) (v w : View) → AreInOrder (events.tick_events tick f v w)
ticks-in-order tick f v w = (ticks-span tick f v w).order

pub others-in-order : (tick : ℕ) (noted : Noted) (v w : View) (s t : Selected) → AreInOrder (events.other_events tick noted v w s t)
others-in-order tick noted v w s t = (others-span tick noted v w s t).order

-- ## Those of an input

inputs-span : (noted : Noted) (s : State) (i : Input) → Span (step s i).now 0 174 (events_of noted s i)
unfolding events_of
inputs-span noted s (Tick row) =
    let after : State = step s (Tick row) in ticks-span after.now (found noted s row after) (view s) (view after)
inputs-span noted s i = let after : State = step s i in others-span after.now noted (view s) (view after) (selected s) (selected after)

pub inputs-in-order : (noted : Noted) (s : State) (i : Input) → AreInOrder (events_of noted s i)
inputs-in-order noted s i = (inputs-span noted s i).order

pub events-have-the-tick : (noted : Noted) (s : State) (i : Input) → All (λ e. e.tick ≡ (step s i).now) (events_of noted s i)
events-have-the-tick noted s i =
    All-weaker (IsWithin (step s i).now 0 174) (λ e. e.tick ≡ (step s i).now) (λ e h. h.0) (events_of noted s i) (inputs-span noted s i).within
