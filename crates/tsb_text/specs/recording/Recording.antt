-- How far a record has come: what its own calls tell one another.
use Rattle.std.specs.Prelude.{◌≡◌, ℕ, List, Option, Some, None}
use Rattle.tsb_types.specs.declared.event.Event.{Event}
use Rattle.tsb_step.specs.declared.inputs.Input.{Input}
use Rattle.tsb_step.specs.declared.log_form.LogForm.{LogForm}
use Rattle.tsb_step.specs.declared.log_form.Noted.{Noted}
use Rattle.tsb_log_text.specs.declared.log.LogRow.{LogRow}
use Rattle.tsb_text.specs.Answers.{Setup}
use Rattle.tsb_text.specs.Obeyed.{OnCourse, Stands}
use Rattle.tsb_text.specs.Rows.{row_in_force}
use Rattle.tsb_text.specs.Stops.{Stopped as StoppedLine, stop_in}
use Rattle.tsb_text.specs.declared.recording.Outcome.{Outcome}
use Rattle.tsb_text.specs.declared.recording.Outcome.TheVariants.{Events, Stopped}

-- what a log of this form has noted before the tick after this one
abbrev pub noted_at : LogForm → List LogRow → ℕ → Noted
noted_at form rows tick = record { form = form; row = row_in_force rows tick }

-- a command or a line was carried out, which leaves these inputs; and this is wrong with it, if anything
abbrev pub Left : {F : Type 0} → F → Setup → List LogRow → OnCourse → (F → List Input → Type 0) → Type 0
Left fault given log course Leaves = (left : List Input) × Stands given log course left × Leaves fault left

-- what a record gives that was ended by this line, or by none with these events told
abbrev pub IsOutcome : Outcome → Option StoppedLine → List Event → Type 0
IsOutcome (Events all) stop events = (stop ≡ None) × (all.items ≡ events)
IsOutcome (Stopped line) stop events = stop ≡ stop_in (Some line)
