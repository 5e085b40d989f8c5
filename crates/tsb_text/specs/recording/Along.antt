-- What the inputs of a run tell. Inputs are piled up, the newest first; what they tell stands the oldest first.
use Rattle.std.specs.Prelude.{◌≡◌, ◌⊎◌, ◌<◌, ℕ, List, [], ◌∷◌, ◌++◌, length}
use Rattle.tsb_types.specs.declared.event.Event.{Event}
use Rattle.tsb_step.specs.tsb_plan.Plan.{Plan}
use Rattle.tsb_step.specs.declared.inputs.Input.{Input}
use Rattle.tsb_step.specs.declared.inputs.Input.TheVariants.{Tick}
use Rattle.tsb_step.specs.declared.log_form.LogForm.{LogForm}
use Rattle.tsb_step.specs.declared.log_form.Noted.{Noted}
use Rattle.tsb_step.specs.Events.{events_of}
use Rattle.tsb_step.specs.Runs.{replay}
use Rattle.tsb_text.specs.kept.Kept.{last_row}
use Rattle.tsb_text.specs.recording.Told.{Stored, Telling, nothing_told, with_events, with_mark}

-- what a log of this form has noted after these inputs
abbrev pub noted_after : LogForm → List Input → Noted
noted_after form is = record { form = form; row = last_row is }

-- the events of all inputs from power-up, each told where it came
abbrev pub told_along : LogForm → Plan → List Input → List Event
told_along form plan [] = []
told_along form plan (i ∷ is) = told_along form plan is ++ events_of (noted_after form is) (replay plan is) i

-- ## What is kept of them

-- an input has told these events, with this tick in force before it
abbrev pub with_input : Input → ℕ → List Event → Telling → Telling
with_input (Tick row) tick news told = with_events news told
with_input i tick news told = with_mark tick news told

-- there is no memory to keep that an input has told these events: no room for them, or for its mark
abbrev pub Wants : Input → List Event → Stored → Type 0
Wants (Tick row) news kept = kept.event_room < length news
Wants i news kept = (kept.event_room < length news) ⊎ (kept.mark_room ≡ 0)

-- the events and the marks of all inputs from power-up
abbrev pub telling : LogForm → Plan → List Input → Telling
telling form plan [] = nothing_told
telling form plan (i ∷ is) =
    with_input i (replay plan is).now (events_of (noted_after form is) (replay plan is) i) (telling form plan is)
