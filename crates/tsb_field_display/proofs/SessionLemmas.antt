-- The events of a session are in order, and each is told once.
use Rattle.std.proofs.Common.{◌≡◌, ◌∙◌, ℕ, ◌+◌, ◌<◌, ◌≤◌, Bool, true, false, not, ◌&&◌, zero, suc, List, [], ◌∷◌, ◌++◌, map, filter, leb, ltb, Option, Some, None, refl, sym, ap, arith, inl, inr}
use Rattle.std.proofs.lemmas.Bool.{and_parts, cond_both, leb-true, ltb-true}
use Rattle.std.specs.List.{All, list_all}
use Rattle.std.proofs.lemmas.List.Elements.{All-nil, All-cons, All-head, All-tail, All-append, All-weaker, All-map, All-filter}
use Rattle.tsb_types.specs.Lists.{run_from, is}
use Rattle.tsb_types.specs.Sets.{all_off}
use Rattle.tsb_types.specs.declared.row.Row.{Row}
use Rattle.tsb_log_text.specs.declared.log.LogRow.{LogRow}
use Rattle.tsb_log_text.specs.Logs as logs
use Rattle.tsb_types.specs.declared.event.Event.{Event}
use Rattle.tsb_field_display.specs.declared.shown.Shown.{Shown}
use Rattle.tsb_field_display.specs.declared.shown.Signals.{Signals}
use Rattle.tsb_field_display.specs.Shows.{nothing_lit}
use Rattle.tsb_types.specs.declared.limits.TheConstants.{VEHICLE_DETECTORS}
use Rattle.tsb_types.specs.Events.{event, told, told_detectors, numbers_with, detectors_with}
use Rattle.tsb_field_display.specs.Events.{events_of, events_after, events_of_lines, preempt_events, flash_events, is_in_flash}
use Rattle.tsb_field_display.specs.Remaining.{Rises}
use Rattle.tsb_field_display.specs.Inputs.{events_of_row, events_behind, events_of_rows}
use Rattle.tsb_field_display.specs.Merge.{session_events}
use Rattle.tsb_field_display.specs.SessionLaws.{IsBefore, AreInOrder, RowsRise, StandInOrder, AreAllTold, is_of_input}
use Rattle.tsb_field_display.proofs.OrderLemmas.{merged-order, keep-other, keep-it}

-- ## What all events are

record Each (P : Event → Type 0) (es : List Event) : Type 0 where
  all : All P es

join : {P : Event → Type 0} {es fs : List Event} → Each P es → Each P fs → Each P (es ++ fs)
join {P} {es} {fs} one other = record { all = All-append P es fs one.all other.all }

none : (P : Event → Type 0) → Each P []
none P = record { all = All-nil P }

single : (P : Event → Type 0) (e : Event) → P e → Each P (e ∷ [])
single P e it = record { all = All-cons P e [] it (All-nil P) }

any-number : (Q : ℕ → Type 0) → ((n : ℕ) → Q n) → (ns : List ℕ) → All Q ns
any-number Q q [] = All-nil Q
any-number Q q (n ∷ ns) = All-cons Q n ns (q n) (any-number Q q ns)

each-of : (P : Event → Type 0) (tick code : ℕ) (ns : List ℕ) → ((n : ℕ) → P (event tick code n)) → Each P (map (λ n. event tick code n) ns)
each-of P tick code ns it = record { all = All-map P (λ n. event tick code n) ns (any-number (λ n. P (event tick code n)) it ns) }

each-told : (P : Event → Type 0) (tick code : ℕ) (test : ℕ → Bool) → ((n : ℕ) → P (event tick code n)) → Each P (told tick code test)
each-told P tick code test it = each-of P tick code (numbers_with test) it

each-detectors : (P : Event → Type 0) (tick code : ℕ) (test : ℕ → Bool) → ((n : ℕ) → P (event tick code n)) → Each P (told_detectors tick code test)
each-detectors P tick code test it = each-of P tick code (detectors_with test) it

each-preempt : (P : Event → Type 0) (before now : Option ℕ) (tick : ℕ) → ((n : ℕ) → P (event tick 105 n)) → Each P (preempt_events before tick now)
each-preempt P before None tick it = none P
each-preempt P before (Some n) tick it =
    cond_both (is n before) [] (event tick 105 n ∷ []) (λ (es : List Event). Each P es) (λ _. none P) (λ _. single P (event tick 105 n) (it n))

each-flash : (P : Event → Type 0) (before now : Bool) (tick : ℕ) → ((n : ℕ) → P (event tick 173 n)) → Each P (flash_events before tick now)
each-flash P true true tick it = none P
each-flash P true false tick it = single P (event tick 173 2) (it 2)
each-flash P false true tick it = single P (event tick 173 6) (it 6)
each-flash P false false tick it = none P

each-line : (before : Signals) (now : Shown) → Each (λ e. is_of_input e ≡ false) (events_of before now)
unfolding events_of
each-line before now =
    let P : Event → Type 0 = λ e. is_of_input e ≡ false in
    let t : ℕ = now.tick in
    join (join (join (join (join
    (join (join (join (each-told P t 1 _ (λ n. refl)) (each-told P t 7 _ (λ n. refl))) (each-told P t 8 _ (λ n. refl))) (each-told P t 9 _ (λ n. refl)))
    (join (join (each-told P t 21 _ (λ n. refl)) (each-told P t 22 _ (λ n. refl))) (each-told P t 23 _ (λ n. refl))))
    (join (each-told P t 32 _ (λ n. refl)) (each-told P t 33 _ (λ n. refl))))
    (join (join (each-told P t 61 _ (λ n. refl)) (each-told P t 63 _ (λ n. refl))) (each-told P t 64 _ (λ n. refl))))
    (each-preempt P before.preempt now.signals.preempt t (λ n. refl)))
    (each-flash P (is_in_flash before) (is_in_flash now.signals) t (λ n. refl))

each-row : (before : Row) (now : LogRow) → Each (λ e. is_of_input e ≡ true) (events_of_row before now)
unfolding events_of_row
each-row before now =
    let P : Event → Type 0 = λ e. is_of_input e ≡ true in
    let t : ℕ = now.tick in
    join (join
    (join (each-detectors P t 81 _ (λ n. refl)) (each-detectors P t 82 _ (λ n. refl)))
    (join (each-told P t 89 _ (λ n. refl)) (each-told P t 90 _ (λ n. refl))))
    (join (each-told P t 102 _ (λ n. refl)) (each-told P t 104 _ (λ n. refl)))

each-after : (before : Signals) (lines : List Shown) → Each (λ e. is_of_input e ≡ false) (events_after before lines)
each-after before [] = none (λ e. is_of_input e ≡ false)
each-after before (line ∷ lines) = join (each-line before line) (each-after line.signals lines)

each-behind : (before : Row) (rows : List LogRow) → Each (λ e. is_of_input e ≡ true) (events_behind before rows)
each-behind before [] = none (λ e. is_of_input e ≡ true)
each-behind before (row ∷ rows) = join (each-row before row) (each-behind row.row rows)

not-test : (es : List Event) → All (λ e. is_of_input e ≡ true) es → All (λ e. not (is_of_input e) ≡ false) es
not-test es all = All-weaker (λ e. is_of_input e ≡ true) (λ e. not (is_of_input e) ≡ false) (λ e one. ap not one) es all

is-test : (es : List Event) → All (λ e. is_of_input e ≡ false) es → All (λ e. not (is_of_input e) ≡ true) es
is-test es all = All-weaker (λ e. is_of_input e ≡ false) (λ e. not (is_of_input e) ≡ true) (λ e one. ap not one) es all

pub all-told : AreAllTold
unfolding session_events
all-told changes rows =
    let lines = events_of_lines changes in
    let inputs = events_of_rows rows in
    let of_lines : All (λ e. is_of_input e ≡ false) lines = (each-after nothing_lit changes).all in
    let of_rows : All (λ e. is_of_input e ≡ true) inputs = (each-behind all_off rows).all in (
      keep-other is_of_input lines inputs of_lines of_rows,
      keep-it (λ e. not (is_of_input e)) lines inputs (is-test lines of_lines) (not-test inputs of_rows),
    )

-- ## Order

record IsIn (at from to : ℕ) (e : Event) : Type 0 where
  tick : e.tick ≡ at
  low : from ≤ e.code
  high : e.code ≤ to

-- events of one tick, with codes from low to high, in order
record IsBlock (at low high : ℕ) (es : List Event) : Type 0 where
  within : All (IsIn at low high) es
  order : AreInOrder es

order-append : (es fs : List Event) → AreInOrder es → AreInOrder fs → All (λ e. All (IsBefore e) fs) es → AreInOrder (es ++ fs)
order-append [] fs one other all = other
order-append (e ∷ es) fs one other all = (
  All-append (IsBefore e) es fs one.0 (All-head (λ x. All (IsBefore x) fs) e es all),
  order-append es fs one.1 other (All-tail (λ x. All (IsBefore x) fs) e es all),
)

by-code : (at a b c d : ℕ) (e f : Event) → b < c → IsIn at a b e → IsIn at c d f → IsBefore e f
by-code at a b c d e f gap one other = inr (one.tick ∙ sym other.tick, inl (omega (arith, gap, one.high, other.low)))

widen-high : (at a b d : ℕ) (e : Event) → b ≤ d → IsIn at a b e → IsIn at a d e
widen-high at a b d e le it = record { tick = it.tick; low = it.low; high = omega (arith, le, it.high) }

widen-low : (at a c d : ℕ) (e : Event) → a ≤ c → IsIn at c d e → IsIn at a d e
widen-low at a c d e le it = record { tick = it.tick; low = omega (arith, le, it.low); high = it.high }

block-join : {at a b c d : ℕ} {es fs : List Event} → a ≤ c → b < c → b ≤ d → IsBlock at a b es → IsBlock at c d fs → IsBlock at a d (es ++ fs)
block-join {at} {a} {b} {c} {d} {es} {fs} low gap high one other = record {
  within = All-append (IsIn at a d) es fs
      (All-weaker (IsIn at a b) (IsIn at a d) (λ e it. widen-high at a b d e high it) es one.within)
      (All-weaker (IsIn at c d) (IsIn at a d) (λ e it. widen-low at a c d e low it) fs other.within);
  order = order-append es fs one.order other.order
      (All-weaker (IsIn at a b) (λ e. All (IsBefore e) fs)
      (λ e it. All-weaker (IsIn at c d) (IsBefore e) (λ f there. by-code at a b c d e f gap it there) fs other.within) es one.within);
}

block-none : (at low high : ℕ) → IsBlock at low high []
block-none at low high = record { within = All-nil (IsIn at low high); order = tt }

block-single : (at code n : ℕ) → IsBlock at code code (event at code n ∷ [])
block-single at code n = record {
  within = All-cons (IsIn at code code) (event at code n) [] (record { tick = refl; low = omega arith; high = omega arith }) (All-nil (IsIn at code code));
  order = (All-nil (IsBefore (event at code n)), tt);
}

above-run : (b a n : ℕ) → b < a → All (λ m. b < m) (run_from a n)
unfolding run_from
above-run b a zero lt = All-nil (λ m. b < m)
above-run b a (suc n) lt = All-cons (λ m. b < m) a (run_from (a + 1) n) lt (above-run b (a + 1) n (omega (arith, lt)))

run-order : (at code : ℕ) (test : ℕ → Bool) (a n : ℕ) → AreInOrder (map (λ m. event at code m) (filter test (run_from a n)))
unfolding run_from
run-order at code test a zero = tt
run-order at code test a (suc n) =
    let rest = filter test (run_from (a + 1) n) in
    let E = λ (m : ℕ). event at code m in
    cond_both (test a) (a ∷ rest) rest (λ (ns : List ℕ). AreInOrder (map E ns))
    (λ _. (
      All-map (IsBefore (E a)) E rest
          (All-weaker (λ m. a < m) (λ m. IsBefore (E a) (E m)) (λ m lt. inr (refl, inr (refl, lt))) rest
          (All-filter test (λ m. a < m) (run_from (a + 1) n) (above-run a (a + 1) n (omega arith)))),
      run-order at code test (a + 1) n,
    ))
    (λ _. run-order at code test (a + 1) n)

block-run : (at code : ℕ) (test : ℕ → Bool) (most : ℕ) → IsBlock at code code (map (λ n. event at code n) (filter test (run_from 1 most)))
block-run at code test most = record {
  within = (each-of (IsIn at code code) at code (filter test (run_from 1 most)) (λ n. record { tick = refl; low = omega arith; high = omega arith })).all;
  order = run-order at code test 1 most;
}

block-told : (at code : ℕ) (test : ℕ → Bool) → IsBlock at code code (told at code test)
block-told at code test = block-run at code test 16

block-detectors : (at code : ℕ) (test : ℕ → Bool) → IsBlock at code code (told_detectors at code test)
block-detectors at code test = block-run at code test VEHICLE_DETECTORS

block-preempt : (before now : Option ℕ) (at : ℕ) → IsBlock at 105 105 (preempt_events before at now)
block-preempt before None at = block-none at 105 105
block-preempt before (Some n) at =
    cond_both (is n before) [] (event at 105 n ∷ []) (λ (es : List Event). IsBlock at 105 105 es) (λ _. block-none at 105 105) (λ _. block-single at 105 n)

block-flash : (before now : Bool) (at : ℕ) → IsBlock at 173 173 (flash_events before at now)
block-flash true true at = block-none at 173 173
block-flash true false at = block-single at 173 2
block-flash false true at = block-single at 173 6
block-flash false false at = block-none at 173 173

next : {at a b c d : ℕ} {es fs : List Event} → leb a c && (ltb b c && leb b d) ≡ true → IsBlock at a b es → IsBlock at c d fs → IsBlock at a d (es ++ fs)
next {at} {a} {b} {c} {d} test one other =
    let parts = and_parts (leb a c) (ltb b c && leb b d) test in
    let more = and_parts (ltb b c) (leb b d) parts.1 in
    block-join (leb-true a c parts.0) (ltb-true b c more.0) (leb-true b d more.1) one other

block-line : (before : Signals) (now : Shown) → IsBlock now.tick 1 173 (events_of before now)
unfolding events_of
block-line before now =
    let t : ℕ = now.tick in
    next refl (next refl (next refl (next refl (next refl
    (next refl (next refl (next refl (block-told t 1 _) (block-told t 7 _)) (block-told t 8 _)) (block-told t 9 _))
    (next refl (next refl (block-told t 21 _) (block-told t 22 _)) (block-told t 23 _)))
    (next refl (block-told t 32 _) (block-told t 33 _)))
    (next refl (next refl (block-told t 61 _) (block-told t 63 _)) (block-told t 64 _)))
    (block-preempt before.preempt now.signals.preempt t))
    (block-flash (is_in_flash before) (is_in_flash now.signals) t)

block-row : (before : Row) (now : LogRow) → IsBlock now.tick 81 104 (events_of_row before now)
unfolding events_of_row
block-row before now =
    let t : ℕ = now.tick in
    next refl (next refl
    (next refl (block-detectors t 81 _) (block-detectors t 82 _))
    (next refl (block-told t 89 _) (block-told t 90 _)))
    (next refl (block-told t 102 _) (block-told t 104 _))

later-block : (t at low high : ℕ) (es : List Event) → t < at → IsBlock at low high es → All (λ e. t < e.tick) es
later-block t at low high es lt block =
    All-weaker (IsIn at low high) (λ e. t < e.tick) (λ e it. omega (arith, lt, it.tick)) es block.within

block-first : (at low high : ℕ) (es fs : List Event) → IsBlock at low high es → AreInOrder fs → All (λ e. at < e.tick) fs → AreInOrder (es ++ fs)
block-first at low high es fs block order later =
    order-append es fs block.order order
    (All-weaker (IsIn at low high) (λ e. All (IsBefore e) fs)
    (λ e it. All-weaker (λ f. at < f.tick) (IsBefore e) (λ f lt. inl (omega (arith, lt, it.tick))) fs later) es block.within)

later-lines : (t : ℕ) (before : Signals) (lines : List Shown) → list_all (λ later. ltb t later.tick) lines ≡ true → All (λ e. t < e.tick) (events_after before lines)
later-lines t before [] all = All-nil (λ e. t < e.tick)
later-lines t before (line ∷ lines) all =
    let parts = and_parts (ltb t line.tick) (list_all (λ later. ltb t later.tick) lines) all in
    All-append (λ e. t < e.tick) (events_of before line) (events_after line.signals lines)
    (later-block t line.tick 1 173 (events_of before line) (ltb-true t line.tick parts.0) (block-line before line))
    (later-lines t line.signals lines parts.1)

lines-order : (before : Signals) (lines : List Shown) → Rises lines → AreInOrder (events_after before lines)
lines-order before [] rises = tt
lines-order before (line ∷ lines) rises =
    block-first line.tick 1 173 (events_of before line) (events_after line.signals lines) (block-line before line)
    (lines-order line.signals lines rises.1) (later-lines line.tick line.signals lines rises.0)

later-rows : (t last : ℕ) (before : Row) (rows : List LogRow) → t ≤ last → logs.Rises last rows → All (λ e. t < e.tick) (events_behind before rows)
later-rows t last before [] le rises = All-nil (λ e. t < e.tick)
later-rows t last before (row ∷ rows) le rises =
    let lt : last < row.tick = rises.0 in
    All-append (λ e. t < e.tick) (events_of_row before row) (events_behind row.row rows)
    (later-block t row.tick 81 104 (events_of_row before row) (omega (arith, le, lt)) (block-row before row))
    (later-rows t row.tick row.row rows (omega (arith, le, lt)) rises.1)

rows-order-from : (last : ℕ) (before : Row) (rows : List LogRow) → logs.Rises last rows → AreInOrder (events_behind before rows)
rows-order-from last before [] rises = tt
rows-order-from last before (row ∷ rows) rises =
    block-first row.tick 81 104 (events_of_row before row) (events_behind row.row rows) (block-row before row)
    (rows-order-from row.tick row.row rows rises.1) (later-rows row.tick row.tick row.row rows (omega arith) rises.1)

rows-order : (before : Row) (rows : List LogRow) → RowsRise rows → AreInOrder (events_behind before rows)
rows-order before [] rises = tt
rows-order before (row ∷ rows) rises =
    block-first row.tick 81 104 (events_of_row before row) (events_behind row.row rows) (block-row before row)
    (rows-order-from row.tick row.row rows rises) (later-rows row.tick row.tick row.row rows (omega arith) rises)

pub stand-in-order : StandInOrder
unfolding session_events
stand-in-order changes rows lines_rise rows_rise =
    merged-order (events_of_lines changes) (events_of_rows rows) (lines-order nothing_lit changes lines_rise) (rows-order all_off rows rows_rise)
    (each-after nothing_lit changes).all (each-behind all_off rows).all
