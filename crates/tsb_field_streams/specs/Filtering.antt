-- What lines of events come to, one after another: the events of inputs that they tell, what they leave out, or the first
-- fault.
use Rattle.std.specs.Prelude.{ℕ, zero, suc, ◌+◌, ◌-◌, ◌*◌, ◌==◌, ◌&&◌, ◌||◌, min, max, nat_le, filter, nat_lt, not, position, replicate, set, Bool, true, false, List, [], ◌∷◌, ◌++◌, length, if◌then◌else◌, Option, Some, None, Result, Ok, Err}
use Rattle.tsb_log_text.specs.tsb_types.declared.limits.TheConstants.{TICKS}
use Rattle.tsb_log_text.specs.ListText.{text_in}
use Rattle.tsb_log_text.specs.declared.log.LogRow.{LogRow}
use Rattle.tsb_log_text.specs.declared.read.TheConstants.{LIMIT}
use Rattle.tsb_lines.specs.Lines.{is_skipped}
use Rattle.tsb_event_text.specs.declared.columns.Columns.{Columns}
use Rattle.tsb_event_text.specs.declared.rows.EventRow.{EventRow}
use Rattle.tsb_event_text.specs.Columns.{header_of, usual_of}
use Rattle.tsb_event_text.specs.Rows.{row_of}
use Rattle.tsb_event_text.specs.declared.faults.RowFault.{RowFault}
use Rattle.tsb_event_text.specs.declared.faults.RowFault.TheVariants.{Lacks}
use Rattle.tsb_event_text.specs.declared.columns.Column.TheVariants.{Device}
use Rattle.tsb_event_text.specs.declared.time_forms.TimeForm.{TimeForm}
use Rattle.tsb_event_text.specs.declared.time_forms.TimeForm.TheVariants.{YearFirst, Seconds, Milliseconds}
use Rattle.tsb_event_text.specs.declared.wide.WideRow.{WideRow}
use Rattle.tsb_event_text.specs.declared.zones.Zone.{Zone}
use Rattle.tsb_event_text.specs.Faults.{fault_of, is_preface}
use Rattle.tsb_event_text.specs.TimeForms.{is_there}
use Rattle.tsb_event_text.specs.Wide.{is_passed, wide_of}
use Rattle.tsb_field_log.specs.declared.inputs.InputKind.{InputKind}
use Rattle.tsb_field_log.specs.declared.inputs.Signal.{Signal}
use Rattle.tsb_field_log.specs.declared.inputs.Wire.{Wire}
use Rattle.tsb_field_log.specs.declared.inputs.InputEvent.{InputEvent}
use Rattle.tsb_field_log.specs.Inputs.{signal_of}
use Rattle.tsb_field_log.specs.Mapping.{leads_from}
use Rattle.tsb_field_log.specs.Wires.{form_of_wires}
use Rattle.tsb_field_log.specs.Streets.{tick_at}
use Rattle.tsb_field_log.specs.Pushed.{last_tick, rows_before}
use Rattle.tsb_field_streams.specs.Order.{first_before, first_of, placed, rest_before, rest_of}
use Rattle.tsb_field_streams.specs.declared.error.Disorder.{Disorder}
use Rattle.tsb_field_streams.specs.declared.error.FilterError.{FilterError}
use Rattle.tsb_field_streams.specs.declared.error.FilterError.TheVariants.{LongLine, Malformed, TimeOrder, TooManyRows, PastEnd, LogTooLarge}
use Rattle.tsb_field_streams.specs.declared.filter.channels.Channel.{Channel}
use Rattle.tsb_field_streams.specs.declared.filter.channels.Channels.{Channels}
use Rattle.tsb_field_streams.specs.declared.filter.devices.Devices.{Devices}
use Rattle.tsb_field_streams.specs.declared.filter.gaps.Gaps.{Gaps}
use Rattle.tsb_field_streams.specs.declared.filter.Summary.{Summary}
use Rattle.tsb_field_streams.specs.declared.filter.TheConstants.{LINE}
use Rattle.tsb_field_streams.specs.declared.filter.gaps.TheConstants.{GAP}
use Rattle.tsb_field_streams.specs.declared.filter.late.TheConstants.{MOST_HELD}
use Rattle.tsb_field_streams.specs.declared.filter.zones.TheConstants.{ELSEWHERE}
use Rattle.tsb_field_streams.specs.Channels.{with_channel}
use Rattle.tsb_field_streams.specs.declared.filter.channels.TheConstants.{NO_CHANNELS}
use Rattle.tsb_field_streams.specs.Devices.{with_some_device}
use Rattle.tsb_field_streams.specs.declared.filter.devices.TheConstants.{NO_DEVICES}

-- what a filter is asked for: the moment at which tick 1 begins, the device whose rows count, the form of times, the zone
-- by which moments are told, how many seconds a row may be behind the latest one above it where rows are sorted, and the
-- wires
pub record Given : Type 0 where
  pub from : ℕ
  pub device : Option (List ℕ)
  pub times : Option TimeForm
  pub zone : Option Zone
  pub window : Option ℕ
  pub wires : List Wire

-- what is known after some lines: where the columns stand, the form of times, whether a row that counts said its zone where none is asked for, how many rows counted, the moments of the
-- first and the last of them, the gaps between them, the devices of rows where none is asked for, for each wire whether it is the first of its channel and had an event,
-- how many rows were of other devices, how many events had no wire, the first channels of these, and how many lines were passed over, and the events of inputs. Where rows are
-- sorted, all this is told of those that were taken: others are held, in the order of time, and the latest row was of this
-- moment
pub record Stand : Type 0 where
  pub columns : Option Columns
  pub times : Option TimeForm
  pub zoned : Bool
  pub counted : ℕ
  pub first : ℕ
  pub last : ℕ
  pub gaps : Gaps
  pub devices : Devices
  pub used : List Bool
  pub others : ℕ
  pub unwired : ℕ
  pub strays : Channels
  pub passed : ℕ
  pub events : List InputEvent
  pub held : List EventRow
  pub latest : ℕ

-- before the first line
abbrev pub start : Given → Stand
start g = record {
  columns = None;
  times = g.times;
  zoned = false;
  counted = 0;
  first = 0;
  last = 0;
  gaps = record { count = 0; begin = 0; end = 0 };
  devices = NO_DEVICES;
  used = replicate (length g.wires) false;
  others = 0;
  unwired = 0;
  strays = NO_CHANNELS;
  passed = 0;
  events = [];
  held = [];
  latest = 0;
}

-- what is counted fits 32 bits: a count stays at the greatest
abbrev pub one_more : ℕ → ℕ
one_more n = min (n + 1) 4294967295

-- the text of these rows, in the form of a log by the wires
abbrev pub text_by : Given → List LogRow → List ℕ
text_by g rows = text_in (form_of_wires g.wires) rows

-- these events, where the log of what they make known is not too large
abbrev pub with_events : Given → Stand → List InputEvent → Result Stand FilterError
with_events g s events =
    if nat_lt LIMIT (length (text_by g (rows_before g.from g.wires events))) then Err LogTooLarge else Ok (record s { events = events })

-- one more event of an input, which has to lie within the ticks of a bench
abbrev pub with_event : Given → Stand → InputEvent → Result Stand FilterError
with_event g s event = if nat_lt TICKS (tick_at g.from event.nanos) then Err PastEnd else with_events g s (s.events ++ event ∷ [])

-- the first wire of this kind and from this channel
abbrev pub wire_place : List Wire → InputKind → ℕ → Option ℕ
wire_place wires kind channel = position (leads_from kind channel) wires

-- the channel of this wire has had an event
abbrev pub with_used : Stand → ℕ → Stand
with_used s place = record s { used = if nat_lt place (length s.used) then set s.used place true else s.used }

-- an event of a channel from which no wire leads is counted
abbrev pub with_unwired : Stand → Channel → Stand
with_unwired s channel = record s { unwired = one_more s.unwired; strays = with_channel s.strays channel }

-- an event of an input, where a wire leads from its channel; else it is counted
abbrev pub with_wire : Given → Stand → EventRow → Signal → Option ℕ → Result Stand FilterError
with_wire g s row signal None = Ok (with_unwired s (record { kind = signal.kind; number = row.parameter }))
with_wire g s row signal (Some place) =
    with_event g (with_used s place) (record { nanos = row.moment.nanos; kind = signal.kind; channel = row.parameter; on = signal.on })

-- what the code of a row says: of no input it is passed over
abbrev pub with_signal : Given → Stand → EventRow → Option Signal → Result Stand FilterError
with_signal g s row None = Ok s
with_signal g s row (Some signal) = with_wire g s row signal (wire_place g.wires signal.kind row.parameter)

-- gaps, and a time without a row that counts, between these moments: it is a gap where it has a minute
abbrev pub with_gap : Gaps → ℕ → ℕ → Gaps
with_gap gaps begin end =
    if nat_lt (end - begin) GAP then gaps
    else if nat_lt (gaps.end - gaps.begin) (end - begin) then record { count = one_more gaps.count; begin = begin; end = end }
    else record { count = one_more gaps.count; begin = gaps.begin; end = gaps.end }

-- gaps up to a row of this moment, where so many counted, with these gaps, and the last of them was of that moment
abbrev pub gaps_before : ℕ → Gaps → ℕ → ℕ → Gaps
gaps_before counted gaps last moment = if counted == 0 then gaps else with_gap gaps last moment

-- one more row counts, of this moment
abbrev pub with_count : Stand → ℕ → Stand
with_count s moment = record s {
  counted = one_more s.counted;
  first = if s.counted == 0 then moment else s.first;
  last = moment;
  gaps = gaps_before s.counted s.gaps s.last moment;
}

-- the place of the column that has the times
abbrev pub time_place : Option Columns → ℕ
time_place None = 0
time_place (Some columns) = columns.time

-- a row of this moment, on the line with this number, is earlier than the last that counted
abbrev pub disorder : ℕ → Stand → ℕ → Disorder
disorder number s moment = record { line = number; moment = moment; last = s.last; column = time_place s.columns; within = None }

-- a row that counts is no earlier than the one taken before it
abbrev pub with_in_order : Given → ℕ → Stand → EventRow → Result Stand FilterError
with_in_order g number s row =
    if nat_lt row.moment.nanos s.last then Err (TimeOrder (disorder number s row.moment.nanos))
    else with_signal g (with_count s row.moment.nanos) row (signal_of row.code)

-- ## Rows that are a little out of order

-- how many rows may be held
abbrev pub most_held : Option ℕ → ℕ
most_held None = 0
most_held (Some seconds) = MOST_HELD

-- the moment before which no row may come any more, where the latest one was of this moment
abbrev pub bound_of : ℕ → ℕ → ℕ
bound_of latest seconds = latest - seconds * 1000000000

-- the row on the line with this number, of this moment, is further behind the latest one than so many seconds
abbrev pub lateness : ℕ → Stand → ℕ → ℕ → Disorder
lateness number s moment seconds =
    record { line = number; moment = moment; last = s.latest; column = time_place s.columns; within = Some seconds }

-- one more row is held
abbrev pub with_held : Stand → EventRow → Stand
with_held s row = record s { held = placed row s.held; latest = max s.latest row.moment.nanos }

-- this row is taken, where there is one
abbrev pub with_given : Given → ℕ → Stand → Option EventRow → Result Stand FilterError
with_given g number s None = Ok s
with_given g number s (Some row) = with_in_order g number s row

-- the first row that is held is taken, where no row that may still come is before it
abbrev pub with_due : Given → ℕ → Stand → ℕ → Result Stand FilterError
with_due g number s seconds =
    with_given g number (record s { held = rest_before (bound_of s.latest seconds) s.held }) (first_before (bound_of s.latest seconds) s.held)

-- a row that counts, where it may be so many seconds behind the latest one: it is held
abbrev pub with_late : Given → ℕ → Stand → EventRow → ℕ → Result Stand FilterError
with_late g number s row seconds =
    if nat_lt row.moment.nanos (bound_of s.latest seconds) then Err (TimeOrder (lateness number s row.moment.nanos seconds))
    else if nat_le (most_held g.window) (length s.held) then Err (TooManyRows number)
    else with_due g number (with_held s row) seconds

-- the first row that is held is taken, where no line follows: it is no earlier than the one taken before it
abbrev pub with_next : Given → Stand → Result Stand FilterError
with_next g s = with_given g 0 (record s { held = rest_of s.held }) (first_of s.held)

-- what follows after that
abbrev pub next_after : Given → Result Stand FilterError → Result Stand FilterError
next_after g (Err e) = Err e
next_after g (Ok s) = with_next g s

-- so many rows that are held are taken, where no line follows
abbrev pub with_nexts : Given → ℕ → Stand → Result Stand FilterError
with_nexts g zero s = Ok s
with_nexts g (suc count) s = next_after g (with_nexts g count s)

-- all of them
abbrev pub with_rest : Given → Stand → Result Stand FilterError
with_rest g s = with_nexts g (length s.held) s

-- ## Rows

-- a row that counts, in order or sorted
abbrev pub with_counted : Given → ℕ → Stand → EventRow → Option ℕ → Result Stand FilterError
with_counted g number s row None = with_in_order g number s row
with_counted g number s row (Some seconds) = with_late g number s row seconds

-- a row: one of another device is counted
abbrev pub with_row : Given → ℕ → Stand → EventRow → Result Stand FilterError
with_row g number s row =
    if not row.ours then Ok (record s { others = one_more s.others }) else with_counted g number s row g.window

-- a row whose time has this form
abbrev pub with_formed : Given → ℕ → Stand → TimeForm → EventRow → Result Stand FilterError
with_formed g number s form row = with_row g number (record s { times = Some form }) row

-- a line that is passed over is counted
abbrev pub with_passed : Stand → Result Stand FilterError
with_passed s = Ok (record s { passed = one_more s.passed })

-- a parameter that is no number counts as 0, where none is needed
abbrev pub parameter_or : Bool → Option ℕ → Option ℕ
parameter_or needed (Some parameter) = Some parameter
parameter_or true None = None
parameter_or false None = Some 0

-- the parameter of a row, which is needed where it counts and its code is of an input
abbrev pub parameter_of : WideRow → Option ℕ
parameter_of row = parameter_or (row.ours && is_there (signal_of row.code)) row.parameter

-- the device of a row on this line is known, where none is asked for
abbrev pub with_noted : Given → Stand → Columns → List ℕ → Stand
with_noted g s columns text = record s { devices = with_some_device g.device s.devices columns text }

-- no zone is asked for
abbrev pub is_unasked : Option Zone → Bool
is_unasked None = true
is_unasked (Some zone) = false

-- times of this form have a clock, which a zone may follow
abbrev pub is_of_clock : TimeForm → Bool
is_of_clock Seconds = false
is_of_clock Milliseconds = false
is_of_clock form = true

-- a row says its zone: by the clock of a zone that no row can say it has another moment
abbrev pub says_zone : WideRow → Option WideRow → Bool
says_zone row None = false
says_zone row (Some other) = is_of_clock row.form && not (other.moment.nanos == row.moment.nanos)

-- the row on this line counts and says its zone, where none is asked for
abbrev pub is_zoned : Given → Stand → Columns → List ℕ → WideRow → Bool
is_zoned g s columns text row = row.ours && (is_unasked g.zone && says_zone row (wide_of columns s.times (Some ELSEWHERE) g.device text))

-- whether a row says its zone is known, where this line spells one
abbrev pub with_zone : Given → Stand → Columns → List ℕ → Option WideRow → Stand
with_zone g s columns text None = s
with_zone g s columns text (Some row) = record s { zoned = s.zoned || is_zoned g s columns text row }

-- a row as exports have it, with this parameter
abbrev pub with_parameter : Given → ℕ → Stand → RowFault → WideRow → Option ℕ → Result Stand FilterError
with_parameter g number s why row None = Err (Malformed number why)
with_parameter g number s why row (Some parameter) =
    with_formed g number s row.form (record { ours = row.ours; moment = row.moment; code = row.code; parameter = parameter })

-- a row as exports have it, where a line spells one, or else this fault
abbrev pub with_wide : Given → ℕ → Stand → RowFault → Option WideRow → Result Stand FilterError
with_wide g number s why None = Err (Malformed number why)
with_wide g number s why (Some row) = with_parameter g number s why row (parameter_of row)

-- a line that is no plain row, with its columns in these places
abbrev pub with_other_line : Given → ℕ → Stand → Columns → List ℕ → Result Stand FilterError
with_other_line g number s columns text =
    if is_passed text then with_passed s
    else with_wide g number (with_zone g (with_noted g s columns text) columns text (wide_of columns s.times g.zone g.device text)) (fault_of columns s.times text) (wide_of columns s.times g.zone g.device text)

-- a plain row, where a line spells one
abbrev pub with_some_row : Given → ℕ → Stand → Columns → List ℕ → Option EventRow → Result Stand FilterError
with_some_row g number s columns text None = with_other_line g number s columns text
with_some_row g number s columns text (Some row) = with_formed g number (with_noted g s columns text) YearFirst row

-- times may have the plain form: they do, or no form is known yet
abbrev pub may_be_plain : Option TimeForm → Bool
may_be_plain None = true
may_be_plain (Some YearFirst) = true
may_be_plain (Some form) = false

-- a line that is a row, with its columns in these places
abbrev pub with_row_line : Given → ℕ → Stand → Columns → List ℕ → Result Stand FilterError
with_row_line g number s columns text =
    if may_be_plain s.times then with_some_row g number s columns text (row_of columns g.device text)
    else with_other_line g number s columns text

-- a header, which has a column of the device where one is asked for
abbrev pub with_header : Given → ℕ → Stand → Columns → Result Stand FilterError
with_header g number s columns =
    if is_there g.device && not (is_there columns.device) then Err (Malformed number (Lacks Device))
    else Ok (record s { columns = Some columns })

-- where no header came: a header, a line before it, or the first row, with its columns in the usual places
abbrev pub with_first : Given → ℕ → Stand → List ℕ → Option Columns → Result Stand FilterError
with_first g number s text (Some columns) = with_header g number s columns
with_first g number s text None =
    if is_preface text then with_passed s
    else with_row_line g number (record s { columns = Some (usual_of text) }) (usual_of text) text

-- a line that is not skipped
abbrev pub with_text : Given → ℕ → Stand → List ℕ → Option Columns → Result Stand FilterError
with_text g number s text None = with_first g number s text (header_of text)
with_text g number s text (Some columns) = with_row_line g number s columns text

-- a line without a byte order mark
abbrev pub with_unmarked : Given → ℕ → Stand → List ℕ → Result Stand FilterError
with_unmarked g number s text = if is_skipped text then Ok s else with_text g number s text s.columns

-- without the byte order mark of UTF-8
abbrev pub without_mark : List ℕ → List ℕ
without_mark [] = []
without_mark (a ∷ []) = a ∷ []
without_mark (a ∷ b ∷ []) = a ∷ b ∷ []
without_mark (a ∷ b ∷ c ∷ text) = if a == 239 then (if b == 187 then (if c == 191 then text else a ∷ b ∷ c ∷ text) else a ∷ b ∷ c ∷ text) else a ∷ b ∷ c ∷ text

-- the text of a line: the first may begin with a byte order mark
abbrev pub text_of : ℕ → List ℕ → List ℕ
text_of number line = if number == 1 then without_mark line else line

-- the line with this number, counted from 1
unfoldable pub with_line : Given → ℕ → Stand → List ℕ → Result Stand FilterError
with_line g number s line =
    if nat_lt LINE (length line) then Err (LongLine number) else with_unmarked g number s (text_of number line)

-- ## What was read

-- how many of these are true
abbrev pub how_many : List Bool → ℕ
how_many flags = length (filter (λ flag. flag) flags)

-- an input had an event from tick 1 on: the last one, as they come in the order of time
abbrev pub is_heard : ℕ → List InputEvent → Bool
is_heard from events = nat_lt 0 (last_tick from events)

-- what was read by some lines: what was left out, the form of times, whether they said zones where none is asked for, the rows that counted with the moments of the first and
-- the last of them and the gaps between them, the devices of rows, the first channels without an input that had an event, how many channels that lead to an input had one, and whether an input had one from tick 1 on
abbrev pub summary_at : Given → Stand → Summary
summary_at g s = record {
  left_out = record { of_other_devices = s.others; without_input = s.unwired; passed = s.passed; found = is_there s.columns };
  times = s.times;
  zoned = s.zoned;
  rows = s.counted;
  first = s.first;
  last = s.last;
  gaps = s.gaps;
  devices = s.devices;
  unwired = s.strays;
  channels = how_many s.used;
  heard = is_heard g.from s.events;
}
