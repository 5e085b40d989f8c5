-- Lines are read again.
use Rattle.std.proofs.Common.{◌≡◌, Some, codes, refl}
use Rattle.tsb_event_text.specs.Columns.{header_by, header_of, usual_columns}
use Rattle.tsb_event_text.specs.Events.{event_row_text}
use Rattle.tsb_event_text.proofs.TakenLemmas.{read-and-taken}
use Rattle.tsb_field_display.specs.SessionLaws.{HeaderIsRead, LinesAreRead}
use Rattle.tsb_field_display.specs.Ticks.{moment_of_tick}

pub is_usual : header_of (codes "SignalID,Timestamp,EventCode,EventParam") ≡ Some usual_columns
unfolding header_of header_by
is_usual = refl

pub header-read : HeaderIsRead
header-read = (codes "SignalID,Timestamp,EventCode,EventParam", refl, is_usual)

pub lines-read : LinesAreRead
lines-read from device line event asked can told code parameter =
    let read = read-and-taken device told.time (moment_of_tick from event.tick) event.code event.parameter asked can told.tells.plain told.tells.read code parameter in
    (event_row_text device told.time event.code event.parameter, told.text, read.0, read.1)
