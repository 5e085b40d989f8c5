-- Rows that are sorted within a window.
use Rattle.std.proofs.Common.{◌≡◌, ℕ, zero, suc, ◌-◌, ◌*◌, ◌<◌, ◌≤◌, nat_lt, nat_le, max, Bool, true, false, List, [], ◌∷◌, ◌++◌, length, refl, sym, ap, ◌∙◌, arith, subst, inl, inr, Option, Some, None, Result, Ok, Err, if◌then◌else◌}
use Rattle.std.proofs.lemmas.Bool.{cases_lt, lt-ltb, le-ltb}
use Rattle.tsb_event_text.specs.declared.rows.EventRow.{EventRow}
use Rattle.tsb_field_log.specs.declared.inputs.InputEvent.{InputEvent}
use Rattle.tsb_field_log.specs.declared.inputs.Signal.{Signal}
use Rattle.tsb_field_log.specs.Inputs.{signal_of}
use Rattle.tsb_field_log.specs.Streets.{tick_at}
use Rattle.tsb_field_log.specs.Pushed.{rows_before}
use Rattle.tsb_log_text.specs.tsb_types.declared.limits.TheConstants.{TICKS}
use Rattle.tsb_field_streams.specs.Order.{IsInOrderFrom, first_before, first_of, placed, placed_all, rest_before, rest_of, sorted, time_of}
use Rattle.tsb_field_streams.proofs.OrderLemmas.{AllFrom, first-stays, stay-in-order}
use Rattle.tsb_field_streams.specs.declared.error.FilterError.{FilterError}
use Rattle.tsb_field_streams.specs.declared.error.FilterError.TheVariants.{TimeOrder, TooManyRows, PastEnd, LogTooLarge}
use Rattle.tsb_log_text.specs.declared.read.TheConstants.{LIMIT}
use Rattle.tsb_field_streams.specs.Filtering.{Given, Stand, bound_of, disorder, lateness, most_held, next_after, start, text_by, wire_place, with_count, with_counted, with_due, with_event, with_events, with_given, with_held, with_in_order, with_next, with_nexts, with_signal, with_used, with_wire}
use Rattle.tsb_field_streams.specs.Lines.{ended}
use Rattle.tsb_field_streams.specs.SortLaws.{AreWithin, TellTheSameInOrder, TellWhatSortedRowsTell, rows_behind, rows_taken, told, unsorted}

-- ## What is held makes no difference to a row that is taken in order

-- other rows are held, and the latest row was of another moment
abbrev put : List EventRow → ℕ → Stand → Stand
put held latest s = record s { held = held; latest = latest }

abbrev carry : List EventRow → ℕ → Result Stand FilterError → Result Stand FilterError
carry held latest (Ok s) = Ok (put held latest s)
carry held latest (Err e) = Err e

events-carry : (g : Given) (h : List EventRow) (l : ℕ) (s : Stand) (es : List InputEvent) → with_events g (put h l s) es ≡ carry h l (with_events g s es)
events-carry g h l s es =
    elim (nat_lt LIMIT (length (text_by g (rows_before g.from g.wires es)))) as (λ b. (if b then Err LogTooLarge else Ok (record (put h l s) { events = es })) ≡ carry h l (if b then Err LogTooLarge else Ok (record s { events = es })))
    [ true ↦ refl | false ↦ refl ]

event-carry : (g : Given) (h : List EventRow) (l : ℕ) (s : Stand) (e : InputEvent) → with_event g (put h l s) e ≡ carry h l (with_event g s e)
event-carry g h l s e =
    elim (nat_lt TICKS (tick_at g.from e.nanos)) as (λ b. (if b then Err PastEnd else with_events g (put h l s) (s.events ++ e ∷ [])) ≡ carry h l (if b then Err PastEnd else with_events g s (s.events ++ e ∷ [])))
    [ true ↦ refl | false ↦ events-carry g h l s (s.events ++ e ∷ []) ]

wire-carry : (g : Given) (h : List EventRow) (l : ℕ) (s : Stand) (row : EventRow) (signal : Signal) (place : Option ℕ) → with_wire g (put h l s) row signal place ≡ carry h l (with_wire g s row signal place)
wire-carry g h l s row signal None = refl
wire-carry g h l s row signal (Some place) =
    event-carry g h l (with_used s place) (record { nanos = row.moment.nanos; kind = signal.kind; channel = row.parameter; on = signal.on })

signal-carry : (g : Given) (h : List EventRow) (l : ℕ) (s : Stand) (row : EventRow) (signal : Option Signal) → with_signal g (put h l s) row signal ≡ carry h l (with_signal g s row signal)
signal-carry g h l s row None = refl
signal-carry g h l s row (Some signal) = wire-carry g h l s row signal (wire_place g.wires signal.kind row.parameter)

in-order-carry : (g : Given) (h : List EventRow) (l : ℕ) (s : Stand) (row : EventRow) → with_in_order g 0 (put h l s) row ≡ carry h l (with_in_order g 0 s row)
in-order-carry g h l s row =
    elim (nat_lt row.moment.nanos s.last) as (λ b. (if b then Err (TimeOrder (disorder 0 s row.moment.nanos)) else with_signal g (put h l (with_count s row.moment.nanos)) row (signal_of row.code))
    ≡ carry h l (if b then Err (TimeOrder (disorder 0 s row.moment.nanos)) else with_signal g (with_count s row.moment.nanos) row (signal_of row.code)))
    [ true ↦ refl | false ↦ signal-carry g h l (with_count s row.moment.nanos) row (signal_of row.code) ]

-- and stays as it was
kept : (g : Given) (s y : Stand) (row : EventRow) → with_in_order g 0 s row ≡ Ok y → (y.held ≡ s.held) × (y.latest ≡ s.latest)
kept g s y row is =
    let same : Ok y ≡ Ok (put s.held s.latest y) = sym is ∙ in-order-carry g s.held s.latest s row ∙ ap (carry s.held s.latest) is in
    let so : y ≡ put s.held s.latest y = cc in
    (ap (λ (t : Stand). t.held) so, ap (λ (t : Stand). t.latest) so)

-- ## At the end

abbrev nexts_behind : Given → ℕ → Result Stand FilterError → Result Stand FilterError
nexts_behind g n (Err e) = Err e
nexts_behind g n (Ok s) = with_nexts g n s

nexts-none : (g : Given) (r : Result Stand FilterError) → nexts_behind g 0 r ≡ r
nexts-none g (Ok s) = refl
nexts-none g (Err e) = refl

nexts-one : (g : Given) (n : ℕ) (r : Result Stand FilterError) → next_after g (nexts_behind g n r) ≡ nexts_behind g (suc n) r
nexts-one g n (Ok s) = refl
nexts-one g n (Err e) = refl

-- the first one that is held comes first
nexts-first : (g : Given) (n : ℕ) (s : Stand) → with_nexts g (suc n) s ≡ nexts_behind g n (with_next g s)
nexts-first g zero s = sym (nexts-none g (with_next g s))
nexts-first g (suc n) s = ap (next_after g) (nexts-first g n s) ∙ nexts-one g n (with_next g s)

-- rows in order, behind what was taken
abbrev behind : Given → Result Stand FilterError → List EventRow → Result Stand FilterError
behind g r rows = told (rows_behind (unsorted g) r rows)

-- what is held is taken at the end as rows in order are
flush : (g : Given) (held : List EventRow) (s : Stand) → s.held ≡ held → told (with_nexts g (length held) s) ≡ behind g (Ok (put [] 0 s)) held
flush g [] s is = refl
flush g (x ∷ held) s is =
    ap told (nexts-first g (length held) s ∙ ap (nexts_behind g (length held)) (first ∙ in-order-carry g held s.latest s x))
    ∙ goes (with_in_order g 0 s x) (λ y. flush g held (put held s.latest y) refl)
    ∙ ap (λ (r : Result Stand FilterError). behind g r held) (sym (in-order-carry g [] 0 s x))
  where
    first : with_next g s ≡ with_in_order g 0 (put held s.latest s) x
    first = ap (λ (rows : List EventRow). with_given g 0 (record s { held = rest_of rows }) (first_of rows)) is

    goes : (q : Result Stand FilterError) → ((y : Stand) → told (with_nexts g (length held) (put held s.latest y)) ≡ behind g (Ok (put [] 0 y)) held)
        → told (nexts_behind g (length held) (carry held s.latest q)) ≡ behind g (carry [] 0 q) held
    goes (Err e) more = refl
    goes (Ok y) more = more y

-- ## From row to row

-- what comes of rows behind what was taken, where no line follows
abbrev after : Given → Result Stand FilterError → List EventRow → Result Stand FilterError
after g r rows = ended g (rows_behind g r rows)

abbrev Fits : Given → Result Stand FilterError → List EventRow → Type 0
Fits g r rows = after g r rows ≡ Err (TooManyRows 0) → ⊥

-- what is due is before all rows that may still come
due-first : (seconds latest moment : ℕ) (rows : List EventRow) → moment < bound_of latest seconds → AreWithin seconds latest rows → AllFrom moment rows
due-first seconds latest moment [] lt within = tt
due-first seconds latest moment (row ∷ rows) lt within = (
  let le : bound_of latest seconds ≤ time_of row = within.0 in omega (arith, le, lt),
  due-first seconds (max latest (time_of row)) moment rows (later latest (time_of row) lt) within.1,
)
  where
    later : (a b : ℕ) → moment < a - seconds * 1000000000 → moment < max a b - seconds * 1000000000
    later a b below = omega (arith, below)

-- what comes of these rows being held, where the first one may be due
abbrev due_of : Given → ℕ → Stand → List EventRow → Result Stand FilterError
due_of g seconds s rows = with_given g 0 (record s { held = rest_before (bound_of s.latest seconds) rows }) (first_before (bound_of s.latest seconds) rows)

-- the first one that is held is taken where it is due
due-taken : (g : Given) (seconds : ℕ) (rows : List EventRow) (s : Stand)
    → ((t : Stand) → t.latest ≡ s.latest → Fits g (Ok t) rows → told (after g (Ok t) rows) ≡ behind g (Ok (put [] 0 t)) (placed_all t.held rows))
    → AreWithin seconds s.latest rows → (held : List EventRow) → s.held ≡ held → Fits g (with_due g 0 s seconds) rows
    → told (after g (with_due g 0 s seconds) rows) ≡ behind g (Ok (put [] 0 s)) (placed_all held rows)
due-taken g seconds rows s more within held is fits =
    ap (λ (r : Result Stand FilterError). told (after g r rows)) whole ∙ goes held (λ bad. fits (ap (λ (r : Result Stand FilterError). after g r rows) whole ∙ bad))
  where
    whole : with_due g 0 s seconds ≡ due_of g seconds s held
    whole = ap (due_of g seconds s) is

    taken : (x : EventRow) (held : List EventRow) (q : Result Stand FilterError) → Fits g (carry held s.latest q) rows
        → told (after g (carry held s.latest q) rows) ≡ behind g (carry [] 0 q) (placed_all held rows)
    taken x held (Err e) fits = refl
    taken x held (Ok y) fits = more (put held s.latest y) refl fits

    goes : (held : List EventRow) → Fits g (due_of g seconds s held) rows → told (after g (due_of g seconds s held) rows) ≡ behind g (Ok (put [] 0 s)) (placed_all held rows)
    goes [] fits = more (record s { held = [] }) refl fits
    goes (x ∷ held) fits = elim (cases_lt (time_of x) (bound_of s.latest seconds)) [
      | inr waits ↦
          let is : due_of g seconds s (x ∷ held) ≡ Ok (put (x ∷ held) s.latest s) =
          ap (λ (b : Bool). with_given g 0 (record s { held = if b then held else x ∷ held }) (if b then Some x else None)) (le-ltb (time_of x) (bound_of s.latest seconds) waits) in
          ap (λ (r : Result Stand FilterError). told (after g r rows)) is
          ∙ more (put (x ∷ held) s.latest s) refl (λ bad. fits (ap (λ (r : Result Stand FilterError). after g r rows) is ∙ bad))
      | inl is_due ↦
          let is : due_of g seconds s (x ∷ held) ≡ with_in_order g 0 (put held s.latest s) x =
          ap (λ (b : Bool). with_given g 0 (record s { held = if b then held else x ∷ held }) (if b then Some x else None)) (lt-ltb (time_of x) (bound_of s.latest seconds) is_due) in
          let all : due_of g seconds s (x ∷ held) ≡ carry held s.latest (with_in_order g 0 s x) = is ∙ in-order-carry g held s.latest s x in
          ap (λ (r : Result Stand FilterError). told (after g r rows)) all
          ∙ taken x held (with_in_order g 0 s x) (λ bad. fits (ap (λ (r : Result Stand FilterError). after g r rows) all ∙ bad))
          ∙ ap (λ (r : Result Stand FilterError). behind g r (placed_all held rows)) (sym (in-order-carry g [] 0 s x))
          ∙ ap (behind g (Ok (put [] 0 s))) (sym (first-stays x held rows (due-first seconds s.latest (time_of x) rows is_due within)))
    ]

-- a row within the window is held, where there is room
row-held : (g : Given) (seconds : ℕ) (s : Stand) (row : EventRow) → g.window ≡ Some seconds → bound_of s.latest seconds ≤ time_of row
    → with_counted g 0 s row g.window ≡ (if nat_le (most_held g.window) (length s.held) then Err (TooManyRows 0) else with_due g 0 (with_held s row) seconds)
row-held g seconds s row window within =
    ap (with_counted g 0 s row) window
    ∙ ap (λ (b : Bool). if b then Err (TimeOrder (lateness 0 s row.moment.nanos seconds)) else if nat_le (most_held g.window) (length s.held) then Err (TooManyRows 0) else with_due g 0 (with_held s row) seconds)
    (le-ltb (time_of row) (bound_of s.latest seconds) within)

sorts : (g : Given) (seconds : ℕ) → g.window ≡ Some seconds → (rows : List EventRow) (s : Stand) → AreWithin seconds s.latest rows → Fits g (Ok s) rows
    → told (after g (Ok s) rows) ≡ behind g (Ok (put [] 0 s)) (placed_all s.held rows)
sorts g seconds window [] s within fits = flush g s.held s refl
sorts g seconds window (row ∷ rows) s within fits =
    ap (λ (r : Result Stand FilterError). told (after g r rows)) (row-held g seconds s row window within.0)
    ∙ goes (nat_le (most_held g.window) (length s.held)) (λ bad. fits (ap (λ (r : Result Stand FilterError). after g r rows) (row-held g seconds s row window within.0) ∙ bad))
    (λ t same more. sorts g seconds window rows t (subst (λ (n : ℕ). AreWithin seconds n rows) (sym same) within.1) more)
  where
    goes : (full : Bool) → Fits g (if full then Err (TooManyRows 0) else with_due g 0 (with_held s row) seconds) rows
        → ((t : Stand) → t.latest ≡ max s.latest (time_of row) → Fits g (Ok t) rows → told (after g (Ok t) rows) ≡ behind g (Ok (put [] 0 t)) (placed_all t.held rows))
        → told (after g (if full then Err (TooManyRows 0) else with_due g 0 (with_held s row) seconds) rows) ≡ behind g (Ok (put [] 0 s)) (placed_all (placed row s.held) rows)
    goes true fits more = absurd (fits refl)
    goes false fits more = due-taken g seconds rows (with_held s row) more within.1 (placed row s.held) refl fits

-- ## Rows in order

-- where rows are in order, none is held
none-held : (g : Given) (rows : List EventRow) (s : Stand) → s.held ≡ [] → ended (unsorted g) (rows_behind (unsorted g) (Ok s) rows) ≡ rows_behind (unsorted g) (Ok s) rows
none-held g [] s none = ap (λ (held : List EventRow). with_nexts (unsorted g) (length held) s) none
none-held g (row ∷ rows) s none = goes (with_in_order g 0 s row) refl (none-held g rows)
  where
    goes : (r : Result Stand FilterError) → with_in_order g 0 s row ≡ r
        → ((y : Stand) → y.held ≡ [] → ended (unsorted g) (rows_behind (unsorted g) (Ok y) rows) ≡ rows_behind (unsorted g) (Ok y) rows)
        → ended (unsorted g) (rows_behind (unsorted g) r rows) ≡ rows_behind (unsorted g) r rows
    goes (Err e) is more = refl
    goes (Ok y) is more = more y ((kept g s y row is).0 ∙ none)

pub sorted-rows : TellWhatSortedRowsTell
sorted-rows g seconds rows window within fits =
    sorts g seconds window rows (start g) within fits ∙ ap told (sym (none-held g (sorted rows) (start g) refl))

-- rows in order lie within each window
in-window : (seconds latest moment : ℕ) (rows : List EventRow) → latest ≤ moment → IsInOrderFrom moment rows → AreWithin seconds latest rows
in-window seconds latest moment [] le order = tt
in-window seconds latest moment (row ∷ rows) le order =
    let first : moment ≤ time_of row = order.0 in (
      below (time_of row) first,
      in-window seconds (max latest (time_of row)) (time_of row) rows (omega (arith, le, first)) order.1,
    )
  where
    below : (n : ℕ) → moment ≤ n → latest - seconds * 1000000000 ≤ n
    below n more = omega (arith, le, more)

pub in-order-rows : TellTheSameInOrder
in-order-rows g seconds rows window order fits =
    sorted-rows g seconds rows window (in-window seconds 0 0 rows (omega arith) order) fits
    ∙ ap (λ (these : List EventRow). told (rows_taken (unsorted g) these)) (stay-in-order rows order)
