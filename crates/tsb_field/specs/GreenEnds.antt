-- The ends of greens in the event log of a diagram, and why it has none.
use Rattle.std.specs.Prelude.{◌≡◌, ◌⊎◌, ℕ, List, [], Option, Result, Ok, Err, Vec, codes}
use Rattle.tsb_program.specs.Read.{IsFront}
use Rattle.tsb_program.specs.Told.{FailsFile, FailsToReadFile}
use Rattle.tsb_program.specs.tsb_lines.Seen.{Seen, Tells}
use Rattle.tsb_program.specs.declared.read.ReadError.{ReadError}
use Rattle.tsb_program.specs.declared.read.ReadError.TheVariants as faults
use Rattle.tsb_event_text.specs.declared.times.Moment.{Moment}
use Rattle.tsb_field_diagram.specs.Ends.{ends_of}
use Rattle.tsb_field_diagram.specs.declared.ends.EndsError.{EndsError}
use Rattle.tsb_field_diagram.specs.declared.ends.EndsError.TheVariants.{Memory, TooLarge, Malformed}
use Rattle.tsb_field_diagram.specs.declared.ends.GreenEnd.{GreenEnd}
use Rattle.tsb_field_streams.specs.declared.error.FilterError.{FilterError}
use Rattle.tsb_field_streams.specs.declared.error.FilterError.TheVariants as filters
use Rattle.tsb_field.specs.LogEnds.{TellsFault}

-- the file has a text with these ends of greens from a moment on
abbrev pub HasEnds : Moment → Option (List ℕ) → List GreenEnd → Type 0
HasEnds from known ends = (text : List ℕ) × IsFront known 67108865 text × (ends_of from text ≡ Ok ends)

-- the file has a text that is no event log, for this fault
abbrev pub RefusesEnds : Moment → Option (List ℕ) → EndsError → Type 0
RefusesEnds from known fault = (text : List ℕ) × IsFront known 67108865 text × (ends_of from text ≡ Err fault)

-- what came of a text
abbrev pub EndsIn : {A : Type 0} → Result (Vec GreenEnd A) (ReadError EndsError) → Moment → List ℕ → Type 0
EndsIn (Ok ends) from text = ends_of from text ≡ Ok ends.items
EndsIn (Err (faults.Refused fault)) from text = ends_of from text ≡ Err fault
EndsIn (Err (faults.Failed why)) from text = Unit {0}

-- what came of reading a file
abbrev pub EndsRead : {A : Type 0} → Result (Vec GreenEnd A) (ReadError EndsError) → Moment → Option (List ℕ) → Type 0
EndsRead (Ok ends) from known = HasEnds from known ends.items
EndsRead (Err (faults.Refused fault)) from known = RefusesEnds from known fault
EndsRead (Err (faults.Failed why)) from known = Unit {0}

-- the same fault, as one of `log`
abbrev pub as_filter : EndsError → FilterError
as_filter Memory = filters.Memory
as_filter TooLarge = filters.TooLarge
as_filter (Malformed line why) = filters.Malformed line why

-- the line that says why the file of this name has no ends of greens
abbrev pub TellsNoEnds : List ℕ → ReadError EndsError → ℕ → Seen → Seen → Type 0
TellsNoEnds name (faults.Failed why) status told tells = FailsFile name why status told tells
TellsNoEnds name (faults.Refused fault) status told tells = TellsFault (as_filter fault) status told tells

-- the same, with 1 also where it is an event log by which no green ends
abbrev pub NoEnds : Moment → List ℕ → (List ℕ → Option (List ℕ)) → ℕ → Seen → Seen → Type 0
NoEnds from path files status told tells =
    ((fault : EndsError) × RefusesEnds from (files path) fault × TellsFault (as_filter fault) status told tells)
    ⊎ ((HasEnds from (files path) [] × (status ≡ 1) × Tells told tells (codes "events: no gap out, max out or force-off from --from on\n"))
    ⊎ FailsToReadFile path status told tells)
