-- What words of `tsb_field` may ask for.
use Rattle.std.specs.Prelude.{ℕ, ◌&&◌, nat_le, Bool, List, Option, Some, None, option_map, if◌then◌else◌, codes}
use Rattle.tsb_lines.specs.Words.{number_of}
use Rattle.tsb_event_text.specs.declared.times.Moment.{Moment}
use Rattle.tsb_field_log.specs.declared.inputs.Wire.{Wire}
use Rattle.tsb_words.specs.declared.field_files.options.TheConstants.{MOST_SECONDS, MOST_WINDOW}
use Rattle.tsb_words.specs.declared.field_files.Asked.{Asked}
use Rattle.tsb_words.specs.declared.field_files.LogAsked.{LogAsked}
use Rattle.tsb_words.specs.declared.field_files.Manner.{Manner}
use Rattle.tsb_words.specs.declared.field_files.RecordManner.{RecordManner}
use Rattle.tsb_words.specs.declared.field_files.Asked.TheVariants as asks

-- what words of `log` ask for, by the text of the device's name
pub record LogWish : Type 0 where
  pub from : Moment
  pub device : Option (List ℕ)
  pub wires : List Wire
  pub manner : Manner
  -- the file of the plan that the detectors have, where events are of their outputs
  pub as_outputs : Option (List ℕ)

-- what words may ask for, by the text of each name
pub data Wish : Type 0 where
  -- a log from a moment on, of a device or of each, on some wires, read in some manner; of outputs, where a plan is named
  log : LogWish → Wish
  -- a record from this moment on, of this device, with the plan and the log in these files, in this manner
  recording : Moment → List ℕ → List ℕ → List ℕ → RecordManner → Wish
  -- events from this moment on, of this device, with the log in this file, of wide display lines or of others
  events : Moment → List ℕ → Option (List ℕ) → Bool → Wish
  -- a diagram with the log in this file, of wide display lines or of others, with this title and so many seconds a line. It
  -- begins at this moment, and has the ends of greens in the event log of this file.
  diagram : Option (List ℕ) → Bool → Option (List ℕ) → Option ℕ → Option Moment → Option (List ℕ) → Wish
  -- a review of the plan in this file
  reviewing : List ℕ → Wish
  -- what the schedule of the plan in this file runs in the week that begins with this moment: a picture, or else a table
  weekly : List ℕ → ℕ → Bool → Wish
  -- the worksheet of the plan in this file
  worksheet : List ℕ → Wish
  -- the card of the plan in this file, or what the card in the other one has otherwise, where one is named
  card : List ℕ → Option (List ℕ) → Wish

-- the time of day at which a week begins
abbrev pub midnight : List ℕ
midnight = codes "00:00:00"

-- so many seconds, where a line of a diagram may show them: from 1 on
abbrev pub seconds_at : Option ℕ → Option ℕ
seconds_at None = None
seconds_at (Some n) = if nat_le 1 n && nat_le n MOST_SECONDS then Some n else None

-- the seconds that digits spell
abbrev pub seconds_of : List ℕ → Option ℕ
seconds_of digits = seconds_at (number_of digits)

-- so many seconds, where rows may be late by them: from 1 on
abbrev pub window_at : Option ℕ → Option ℕ
window_at None = None
window_at (Some n) = if nat_le 1 n && nat_le n MOST_WINDOW then Some n else None

-- the seconds of a window that digits spell
abbrev pub window_of : List ℕ → Option ℕ
window_of digits = window_at (number_of digits)

-- what was answered of `log`
abbrev pub seen_log : LogAsked → LogWish
seen_log asked = record {
  from = asked.from;
  device = option_map (λ name. name.now) asked.device;
  wires = asked.wires.items;
  manner = asked.manner;
  as_outputs = option_map (λ name. name.now) asked.as_outputs;
}

-- what was answered, by the text of each name
abbrev pub seen : Asked → Wish
seen (asks.Log asked) = log (seen_log asked)
seen (asks.Record asked) = recording asked.from asked.device.now asked.plan.now asked.log.now asked.manner
seen (asks.Events asked) = events asked.from asked.device.now (option_map (λ name. name.now) asked.log) asked.is_wide
seen (asks.Diagram asked) =
    diagram (option_map (λ name. name.now) asked.log) asked.is_wide (option_map (λ name. name.now) asked.title) asked.seconds_per_line asked.from
    (option_map (λ name. name.now) asked.events)
seen (asks.Review plan) = reviewing plan.now
seen (asks.Schedule plan week svg) = weekly plan.now week svg
seen (asks.Worksheet plan) = worksheet plan.now
seen (asks.Card plan against) = card plan.now (option_map (λ name. name.now) against)
