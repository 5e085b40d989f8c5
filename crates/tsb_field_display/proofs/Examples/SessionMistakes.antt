-- One-line mistakes, each with an example that tells it from the definition.
use Rattle.std.proofs.Common.{◌≡◌, ℕ, ◌*◌, ◌+◌, true, false, List, [], ◌∷◌, ◌++◌, Option, Some, None, if◌then◌else◌, codes, filter, refl, ap, arith}
use Rattle.tsb_event_text.specs.declared.columns.Separator.TheVariants.{Comma}
use Rattle.tsb_event_text.specs.declared.rows.EventRow.{EventRow}
use Rattle.tsb_event_text.specs.declared.times.Moment.{Moment}
use Rattle.tsb_event_text.specs.Columns.{header_by, header_of, usual_columns}
use Rattle.tsb_event_text.specs.Events.{can_be_written, event_row_text}
use Rattle.tsb_event_text.specs.Rows.{row_of}
use Rattle.tsb_event_text.proofs.EventLemmas.{read-again}
use Rattle.tsb_types.specs.declared.event.Event.{Event}
use Rattle.tsb_types.specs.Events.{event}
use Rattle.tsb_field_display.specs.SessionLaws.{is_of_input}
use Rattle.tsb_field_display.specs.Merge.{ahead_of, comes_before, merged}
use Rattle.tsb_field_display.specs.Texts.{Tells}
use Rattle.tsb_field_display.specs.Ticks.{moment_of_tick}

-- a head that becomes green at tick 2, and detectors that go on at ticks 1 and 3
abbrev pub head : List Event
head = event 2 1 4 ∷ []

abbrev pub inputs : List Event
inputs = event 1 82 4 ∷ event 3 82 5 ∷ []

as_defined : merged head inputs ≡ event 1 82 4 ∷ event 2 1 4 ∷ event 3 82 5 ∷ []
as_defined = refl

-- ## The events of inputs after all others

behind : head ++ inputs ≡ event 2 1 4 ∷ event 1 82 4 ∷ event 3 82 5 ∷ []
behind = refl

out_of_order : comes_before (event 2 1 4) (event 1 82 4) ≡ false
out_of_order = refl

-- ## The first event that does not come before another is left out

abbrev pub rest_without : Event → List Event → List Event
rest_without e [] = []
rest_without e (y ∷ ys) = if comes_before y e then rest_without e ys else ys

abbrev pub merged_without : List Event → List Event → List Event
merged_without [] others = others
merged_without (e ∷ es) others = ahead_of e others ++ e ∷ merged_without es (rest_without e others)

lost : filter is_of_input (merged_without head inputs) ≡ event 1 82 4 ∷ []
lost = refl

kept : filter is_of_input (merged head inputs) ≡ inputs
kept = refl

-- ## Code and parameter change places in a line

abbrev code_of : Option EventRow → ℕ
code_of (Some row) = row.code
code_of None = 0

-- detector 5 goes on; the line is read as an event of code 5
other_event : (device time : List ℕ) (moment : Moment) → can_be_written device ≡ true → Tells moment time
    → code_of (row_of usual_columns None (event_row_text device time 5 82)) ≡ 5
other_event device time moment can told = ap code_of (read-again device time moment 5 82 None can told.plain told.read (omega arith) (omega arith))

-- ## Tick 1 begins a tenth of a second after `from`

abbrev moment_of_tick_late : Moment → ℕ → Moment
moment_of_tick_late from tick = record { nanos = from.nanos + tick * 100000000 }

first_tick : (from : Moment) → (moment_of_tick from 1).nanos ≡ from.nanos
first_tick from = omega arith

first_tick_not : (from : Moment) → (moment_of_tick_late from 1).nanos ≡ from.nanos + 100000000
first_tick_not from = refl

-- ## The header has code and parameter in the other order

would_change_places : header_of (codes "SignalID,Timestamp,EventParam,EventCode") ≡ Some (record { device = Some 0; time = 1; code = 3; parameter = 2; separator = Comma })
unfolding header_of header_by
would_change_places = refl
