-- What a filter takes, from line to line.
use Rattle.std.proofs.Common.{Option, ◌≡◌, ℕ, ◌+◌, ◌-◌, ◌<◌, ◌≤◌, nat_lt, Bool, true, false, nat_le, List, [], ◌∷◌, ◌++◌, length, length-append, refl, sym, ap, ◌∙◌, arith, subst, Some, None, Result, Ok, Err, if◌then◌else◌}
use Rattle.std.proofs.lemmas.Bool.{leb-false, leb-true, lt-ltb, le-ltb}
use Rattle.std.proofs.lemmas.List.{append-nil}
use Rattle.tsb_log_text.specs.declared.log.LogRow.{LogRow}
use Rattle.tsb_log_text.specs.tsb_types.declared.limits.TheConstants.{TICKS}
use Rattle.tsb_event_text.specs.Faults.{fault_of}
use Rattle.tsb_event_text.specs.Wide.{is_passed, wide_of}
use Rattle.tsb_event_text.specs.declared.wide.WideRow.{WideRow}
use Rattle.tsb_event_text.specs.declared.columns.Columns.{Columns}
use Rattle.tsb_event_text.specs.declared.rows.EventRow.{EventRow}
use Rattle.tsb_event_text.specs.Rows.{row_of}
use Rattle.tsb_event_text.specs.declared.time_forms.TimeForm.{TimeForm}
use Rattle.tsb_event_text.specs.declared.time_forms.TimeForm.TheVariants.{YearFirst}
use Rattle.tsb_field_log.specs.declared.inputs.Wire.{Wire}
use Rattle.tsb_field_log.specs.declared.inputs.Signal.{Signal}
use Rattle.tsb_field_log.specs.declared.inputs.InputEvent.{InputEvent}
use Rattle.tsb_field_log.specs.declared.street.Street.{Street}
use Rattle.tsb_field_log.specs.declared.street.KnownRows.{KnownRows}
use Rattle.tsb_field_log.specs.Inputs.{signal_of}
use Rattle.tsb_field_log.specs.Changes.{changes}
use Rattle.tsb_field_log.specs.Streets.{tick_at, rows_in}
use Rattle.tsb_field_log.specs.Pushed.{last_tick, rows_before}
use Rattle.tsb_field_log.specs.Taken.{HasTaken}
use Rattle.tsb_field_log.proofs.PushedLemmas.{last-push, order-last}
use Rattle.tsb_field_streams.specs.declared.error.FilterError.{FilterError}
use Rattle.tsb_field_streams.specs.declared.error.FilterError.TheVariants.{TimeOrder, TooManyRows, LogTooLarge}
use Rattle.tsb_field_streams.specs.declared.filter.Filter.{Filter}
use Rattle.tsb_field_log.specs.Wires.{form_of_wires}
use Rattle.tsb_log_text.specs.ListText.{text_in}
use Rattle.tsb_log_text.specs.declared.form.RowForm.{RowForm}
use Rattle.tsb_log_text.specs.declared.read.TheConstants.{LIMIT}
use Rattle.tsb_log_text.proofs.WrittenLemmas.{append-in, none-in}
use Rattle.tsb_field_streams.specs.Filtering.{Given, Stand, bound_of, disorder, lateness, most_held, with_count, with_due, with_event, with_held, with_in_order, with_formed, with_late, with_noted, with_other_line, with_passed, with_row_line, with_signal, with_some_row, with_wide, with_zone, may_be_plain, text_by}
use Rattle.tsb_field_streams.specs.Standing.{StandsAt, Takes}

pub none_known : (g : Given) → length (text_by g (rows_before g.from g.wires [])) ≡ 0
unfolding changes
none_known g = ap length (none-in (form_of_wires g.wires))

-- ## Moments

-- a form of times that is known changes nothing else
pub stands_formed : (g : Given) (s : Stand) (f : Filter) (form : TimeForm) → StandsAt g s f → StandsAt g (record s { times = Some form }) (record f { times = Some form })
stands_formed g s f form at = record {
  reading = at.reading;
  device = at.device;
  wires = at.wires;
  columns = at.columns;
  times = refl;
  zoned = at.zoned;
  counted = at.counted;
  first = at.first;
  last = at.last;
  gaps = at.gaps;
  devices = at.devices;
  strays = at.strays;
  used = at.used;
  others = at.others;
  unwired = at.unwired;
  passed = at.passed;
  found = at.found;
  street = at.street;
  behind = at.behind;
  form = at.form;
  bytes = at.bytes;
  few = at.few;
  held = at.held;
  most = at.most;
  latest = at.latest;
}

-- ## An event of an input

-- an event that was pushed lies within the ticks of a bench
within : (from : ℕ) (wires : List Wire) (es : List InputEvent) (e : InputEvent) (street : Street) → HasTaken from wires (es ++ e ∷ []) street → tick_at from e.nanos ≤ TICKS
within from wires es e street t =
    let last : last_tick from (es ++ e ∷ []) ≡ tick_at from e.nanos = last-push from es e in
    let most : last_tick from (es ++ e ∷ []) ≤ TICKS = order-last from 0 (es ++ e ∷ []) t.ordered in
    omega (arith, last, most)

pub event-large : (g : Given) (s : Stand) (e : InputEvent) (street : Street) → HasTaken g.from g.wires (s.events ++ e ∷ []) street
    → LIMIT < length (text_by g (rows_before g.from g.wires (s.events ++ e ∷ []))) → with_event g s e ≡ Err LogTooLarge
event-large g s e street t large =
    rw (le-ltb TICKS (tick_at g.from e.nanos) (within g.from g.wires s.events e street t), lt-ltb LIMIT (length (text_by g (rows_before g.from g.wires (s.events ++ e ∷ [])))) large) refl

pub event-taken : (g : Given) (s : Stand) (e : InputEvent) (street : Street) → HasTaken g.from g.wires (s.events ++ e ∷ []) street
    → length (text_by g (rows_before g.from g.wires (s.events ++ e ∷ []))) ≤ LIMIT → with_event g s e ≡ Ok (record s { events = s.events ++ e ∷ [] })
event-taken g s e street t few =
    rw (le-ltb TICKS (tick_at g.from e.nanos) (within g.from g.wires s.events e street t), le-ltb LIMIT (length (text_by g (rows_before g.from g.wires (s.events ++ e ∷ [])))) few) refl

-- how many bytes are known with these rows behind those that were known
pub bytes-then : (g : Given) (s : Stand) (f : Filter) (rows : KnownRows) (all : List LogRow) (known : ℕ) → StandsAt g s f
    → all ≡ rows_before g.from g.wires s.events ++ rows_in rows → known ≡ f.bytes + length (text_in f.form (rows_in rows)) → length (text_by g all) ≡ known
bytes-then g s f rows all known at grown is =
    let form : RowForm = form_of_wires g.wires in
    let were : f.bytes ≡ length (text_in form (rows_before g.from g.wires s.events)) = at.bytes in
    let new : length (text_in f.form (rows_in rows)) ≡ length (text_in form (rows_in rows)) = ap (λ (it : RowForm). length (text_in it (rows_in rows))) at.form in
    let both : length (text_in form (rows_before g.from g.wires s.events) ++ text_in form (rows_in rows)) ≡ length (text_in form (rows_before g.from g.wires s.events)) + length (text_in form (rows_in rows)) =
    length-append (text_in form (rows_before g.from g.wires s.events)) (text_in form (rows_in rows)) in
    ap (λ (them : List LogRow). length (text_in form them)) grown ∙ ap length (append-in form (rows_before g.from g.wires s.events) (rows_in rows)) ∙ omega (arith, were, new, both, is)

-- ## Whether there is room for the rows that become known

-- there is none
pub all-large : (g : Given) (s : Stand) (f : Filter) (rows : KnownRows) (size : ℕ) (all : List LogRow) → StandsAt g s f → all ≡ rows_before g.from g.wires s.events ++ rows_in rows
    → size ≡ length (text_in f.form (rows_in rows)) → nat_le size (LIMIT - f.bytes) ≡ false → LIMIT < length (text_by g all)
all-large g s f rows size all at grown sized room =
    let known : length (text_by g all) ≡ f.bytes + size = bytes-then g s f rows all (f.bytes + size) at grown (ap (λ (n : ℕ). f.bytes + n) sized) in
    let over : LIMIT - f.bytes < size = leb-false size (LIMIT - f.bytes) room in
    let few : f.bytes ≤ LIMIT = at.few in
    omega (arith, known, over, few)

-- there is
pub all-fit : (g : Given) (s : Stand) (f : Filter) (rows : KnownRows) (size : ℕ) (all : List LogRow) → StandsAt g s f → all ≡ rows_before g.from g.wires s.events ++ rows_in rows
    → size ≡ length (text_in f.form (rows_in rows)) → nat_le size (LIMIT - f.bytes) ≡ true → length (text_by g all) ≤ LIMIT
all-fit g s f rows size all at grown sized room =
    let known : length (text_by g all) ≡ f.bytes + size = bytes-then g s f rows all (f.bytes + size) at grown (ap (λ (n : ℕ). f.bytes + n) sized) in
    let within : size ≤ LIMIT - f.bytes = leb-true size (LIMIT - f.bytes) room in
    let few : f.bytes ≤ LIMIT = at.few in
    omega (arith, known, within, few)

-- an event of the last moment is in no earlier tick
pub not-later : (g : Given) (s : Stand) (f : Filter) (e : InputEvent) → StandsAt g s f → s.last ≡ e.nanos → last_tick g.from s.events ≤ tick_at g.from e.nanos
not-later g s f e at last = subst (λ (n : ℕ). last_tick g.from s.events ≤ tick_at g.from n) last at.behind

-- an event for whose rows there is no room
pub event-kept : (g : Given) (s : Stand) (f : Filter) (e : InputEvent) (rows : KnownRows) (street : Street) (size : ℕ) (now : Filter) → StandsAt g s f
    → HasTaken g.from g.wires (s.events ++ e ∷ []) street → rows_before g.from g.wires (s.events ++ e ∷ []) ≡ rows_before g.from g.wires s.events ++ rows_in rows
    → size ≡ length (text_in f.form (rows_in rows)) → nat_le size (LIMIT - f.bytes) ≡ false → Takes g s (with_event g s e) (Err LogTooLarge) now
event-kept g s f e rows street size now at taken grown sized room =
    let all : List LogRow = rows_before g.from g.wires (s.events ++ e ∷ []) in
    let large : with_event g s e ≡ Err LogTooLarge = event-large g s e street taken (all-large g s f rows size all at grown sized room) in
    subst (λ (come : Result Stand FilterError). Takes g s come (Err LogTooLarge) now) (sym large) refl

-- an event for whose rows there is room
pub event-stands : (g : Given) (s : Stand) (f : Filter) (e : InputEvent) (rows : KnownRows) (street : Street) (size : ℕ) → StandsAt g s f → s.last ≡ e.nanos
    → HasTaken g.from g.wires (s.events ++ e ∷ []) street → rows_before g.from g.wires (s.events ++ e ∷ []) ≡ rows_before g.from g.wires s.events ++ rows_in rows
    → size ≡ length (text_in f.form (rows_in rows)) → nat_le size (LIMIT - f.bytes) ≡ true → Takes g s (with_event g s e) (Ok rows) (record f { bytes = f.bytes + size; street = street })
event-stands g s f e rows street size at last taken grown sized room =
    let all : List LogRow = rows_before g.from g.wires (s.events ++ e ∷ []) in
    let known : length (text_by g all) ≡ f.bytes + size = bytes-then g s f rows all (f.bytes + size) at grown (ap (λ (n : ℕ). f.bytes + n) sized) in
    let fits : length (text_by g all) ≤ LIMIT = all-fit g s f rows size all at grown sized room in
    subst (λ (come : Result Stand FilterError). Takes g s come (Ok rows) (record f { bytes = f.bytes + size; street = street })) (sym (event-taken g s e street taken fits)) (
      record {
        reading = at.reading;
        device = at.device;
        wires = at.wires;
        columns = at.columns;
        times = at.times;
        zoned = at.zoned;
        counted = at.counted;
        first = at.first;
        last = at.last;
        gaps = at.gaps;
        devices = at.devices;
        strays = at.strays;
        used = at.used;
        others = at.others;
        unwired = at.unwired;
        passed = at.passed;
        found = at.found;
        street = taken;
        behind = let now : last_tick g.from (s.events ++ e ∷ []) ≡ tick_at g.from e.nanos = last-push g.from s.events e in
            let same : tick_at g.from s.last ≡ tick_at g.from e.nanos = ap (tick_at g.from) last in
            omega (arith, now, same);
        form = at.form;
        bytes = sym known;
        few = omega (arith, known, fits);
        held = at.held;
        most = at.most;
        latest = at.latest;
      },
      grown,
    )

-- a row that is in order is taken by what it says
pub row-takes : (g : Given) (number : ℕ) (s : Stand) (row : EventRow) (signal : Signal) (given : Result KnownRows FilterError) (f : Filter) → s.last ≤ row.moment.nanos
    → signal_of row.code ≡ Some signal → Takes g (with_count s row.moment.nanos) (with_signal g (with_count s row.moment.nanos) row (Some signal)) given f
    → Takes g s (with_in_order g number s row) given f
row-takes g number s row signal given f later told takes =
    let in_order : nat_lt row.moment.nanos s.last ≡ false = le-ltb row.moment.nanos s.last later in
    let fault : Result Stand FilterError = Err (TimeOrder (disorder number s row.moment.nanos)) in
    let is : with_in_order g number s row ≡ with_signal g (with_count s row.moment.nanos) row (Some signal) =
    ap (λ (b : Bool). if b then fault else with_signal g (with_count s row.moment.nanos) row (signal_of row.code)) in_order
    ∙ ap (with_signal g (with_count s row.moment.nanos) row) told in
    subst (λ (come : Result Stand FilterError). Takes g s come given f) (sym is) takes

-- a row that is in order and says nothing of an input
pub row-passes : (g : Given) (number : ℕ) (s : Stand) (row : EventRow) (rows : KnownRows) (f : Filter) → s.last ≤ row.moment.nanos → signal_of row.code ≡ None → rows_in rows ≡ []
    → StandsAt g (with_count s row.moment.nanos) f → Takes g s (with_in_order g number s row) (Ok rows) f
row-passes g number s row rows f later told none stands =
    let in_order : nat_lt row.moment.nanos s.last ≡ false = le-ltb row.moment.nanos s.last later in
    let fault : Result Stand FilterError = Err (TimeOrder (disorder number s row.moment.nanos)) in
    let is : with_in_order g number s row ≡ Ok (with_count s row.moment.nanos) =
    ap (λ (b : Bool). if b then fault else with_signal g (with_count s row.moment.nanos) row (signal_of row.code)) in_order
    ∙ ap (with_signal g (with_count s row.moment.nanos) row) told in
    subst (λ (come : Result Stand FilterError). Takes g s come (Ok rows) f) (sym is) (stands, known)
  where
    known : rows_before g.from g.wires s.events ≡ rows_before g.from g.wires s.events ++ rows_in rows
    known = sym (ap (λ (v : List LogRow). rows_before g.from g.wires s.events ++ v) none ∙ append-nil (rows_before g.from g.wires s.events))

-- a plain row, of a device that is noted
pub plain-takes : (g : Given) (number : ℕ) (s : Stand) (text : List ℕ) (columns : Columns) (row : EventRow) (given : Result KnownRows FilterError) (f : Filter) → may_be_plain s.times ≡ true
    → row_of columns g.device text ≡ Some row → Takes g s (with_formed g number (with_noted g s columns text) YearFirst row) given f → Takes g s (with_row_line g number s columns text) given f
plain-takes g number s text columns row given f plain spelled takes =
    subst (λ (come : Result Stand FilterError). Takes g s come given f) (sym is) takes
  where
    is : with_row_line g number s columns text ≡ with_formed g number (with_noted g s columns text) YearFirst row
    is =
        ap (λ (b : Bool). if b then with_some_row g number s columns text (row_of columns g.device text) else with_other_line g number s columns text) plain
        ∙ ap (with_some_row g number s columns text) spelled

-- a row as exports have it, of a device that is noted, and of a zone
pub wide-takes : (g : Given) (number : ℕ) (s : Stand) (text : List ℕ) (columns : Columns) (row : WideRow) (given : Result KnownRows FilterError) (f : Filter) → is_passed text ≡ false
    → wide_of columns s.times g.zone g.device text ≡ Some row
    → Takes g s (with_wide g number (with_zone g (with_noted g s columns text) columns text (Some row)) (fault_of columns s.times text) (Some row)) given f
    → Takes g s (with_other_line g number s columns text) given f
wide-takes g number s text columns row given f passed spelled takes =
    subst (λ (come : Result Stand FilterError). Takes g s come given f) (sym is) takes
  where
    is : with_other_line g number s columns text ≡ with_wide g number (with_zone g (with_noted g s columns text) columns text (Some row)) (fault_of columns s.times text) (Some row)
    is =
        ap (λ (b : Bool). if b then with_passed s else with_wide g number (with_zone g (with_noted g s columns text) columns text (wide_of columns s.times g.zone g.device text)) (fault_of columns s.times text) (wide_of columns s.times g.zone g.device text)) passed
        ∙ ap (λ (found : Option WideRow). with_wide g number (with_zone g (with_noted g s columns text) columns text found) (fault_of columns s.times text) found) spelled

-- ## Rows that are held

-- a row that is not too late, and for which there is room, is held
pub late-takes : (g : Given) (number : ℕ) (s : Stand) (row : EventRow) (seconds bound : ℕ) (given : Result KnownRows FilterError) (f : Filter) → bound ≡ bound_of s.latest seconds → bound ≤ row.moment.nanos
    → nat_le (most_held g.window) (length s.held) ≡ false → Takes g (with_held s row) (with_due g number (with_held s row) seconds) given f → Takes g s (with_late g number s row seconds) given f
late-takes g number s row seconds bound given f is in_time room takes =
    let fault : Result Stand FilterError = Err (TimeOrder (lateness number s row.moment.nanos seconds)) in
    let due : Result Stand FilterError = with_due g number (with_held s row) seconds in
    let early : bound_of s.latest seconds ≤ row.moment.nanos = subst (λ (n : ℕ). n ≤ row.moment.nanos) is in_time in
    let is : with_late g number s row seconds ≡ due =
    ap (λ (b : Bool). if b then fault else if nat_le (most_held g.window) (length s.held) then Err (TooManyRows number) else due) (le-ltb row.moment.nanos (bound_of s.latest seconds) early)
    ∙ ap (λ (b : Bool). if b then Err (TooManyRows number) else due) room in
    subst (λ (come : Result Stand FilterError). Takes g s come given f) (sym is) takes
