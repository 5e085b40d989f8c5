-- A line that is written and read again, computed.
use Rattle.std.proofs.Common.{◌≡◌, ℕ, ◌*◌, ◌++◌, [], ◌∷◌, List, Some, true, ap, refl, arith, codes, pos, ◌+ℤ◌, unsigned_abs, ℤ}
use Rattle.jiff_core.proofs.DateLemmas.{days_from_civil-max}
use Rattle.tsb_event_text.specs.declared.times.Moment.{Moment}
use Rattle.tsb_event_text.specs.declared.written.TheConstants.{LAST_DAY}
use Rattle.tsb_event_text.specs.Columns.{usual_columns}
use Rattle.tsb_event_text.specs.Rows.{row_of}
use Rattle.tsb_event_text.specs.Times.{day_number, moment_of}
use Rattle.tsb_event_text.specs.Written.{time_head}
use Rattle.tsb_event_text.specs.Events.{can_be_written, event_row_text}
use Rattle.tsb_event_text.proofs.EventLemmas.{head-plain, plain-join, read-again}
use Rattle.tsb_event_text.proofs.WrittenLemmas.{head-read}

-- the last day that is written
last-day : day_number 9999 12 31 ≡ LAST_DAY
last-day = ap (λ (z : ℤ). unsigned_abs (z +ℤ pos 4371587)) days_from_civil-max

-- `9999-12-31 00:00:00.0`
abbrev midnight : List ℕ
midnight = time_head 9999 12 31 0 ++ 48 ∷ []

abbrev moment : Moment
moment = record { nanos = 7304483 * 86400 * 1000000000 }

midnight-is : moment_of midnight ≡ Some moment
midnight-is = head-read 9999 12 31 0 LAST_DAY (48 ∷ []) (omega arith) (omega arith) (omega arith) (omega arith) refl last-day

-- a device with a comma can be written, and the line of its event is read again
named : can_be_written (codes "Main, 5th") ≡ true
named = refl

read-so : row_of usual_columns (Some (codes "Main, 5th")) (event_row_text (codes "Main, 5th") midnight 82 3)
    ≡ Some (record { ours = true; moment = moment; code = 82; parameter = 3 })
read-so = read-again (codes "Main, 5th") midnight moment 82 3 (Some (codes "Main, 5th")) named
    (plain-join (time_head 9999 12 31 0) (48 ∷ []) (head-plain 9999 12 31 0) ((λ e. omega (arith, e)), (λ e. omega (arith, e)), tt))
    midnight-is (omega arith) (omega arith)
