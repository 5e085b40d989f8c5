-- What a diagram is made of: how it is laid out, and what it draws of a session.
use Rattle.std.specs.Prelude.{ℕ, List, Option}
use Rattle.tsb_event_text.specs.declared.times.Moment.{Moment}
use Rattle.tsb_field_display.specs.declared.shown.Shown.{Shown}
use Rattle.tsb_log_text.specs.declared.log.LogRow.{LogRow}
use Rattle.tsb_field_diagram.specs.declared.ends.GreenEnd.{GreenEnd}

-- the title above the lines, how many seconds a line is asked to show, and the moment at which tick 1 begins, where the
-- axis has the time of day
pub record Form : Type 0 where
  pub title : List ℕ
  pub seconds : ℕ
  pub from : Option Moment

-- the display lines that show something new, the last tick, the rows of a log of inputs, and the ends of greens
pub record Session : Type 0 where
  pub changes : List Shown
  pub last : Option ℕ
  pub rows : List LogRow
  pub ends : List GreenEnd
