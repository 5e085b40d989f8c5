-- What calls of a live run tell one another.
use Rattle.std.specs.Prelude.{◌≡◌, ◌⊎◌, List, ◌++◌, Option, Some, None, Result, Ok, Err, ℕ}
use Rattle.tsb_lines.specs.declared.writes.WriteError.{WriteError}
use Rattle.tsb_types.specs.declared.refusal.Refusal.TheVariants.{Memory}
use Rattle.tsb_step.specs.tsb_plan.Plan.{Plan}
use Rattle.tsb_dialog.specs.Said.{IsCutShort, Said, Wrote, with_feed}
use Rattle.tsb_status_text.specs.PlanLine.{plan_text}
use Rattle.tsb_text.specs.Answers.{refused_line, when_line}
use Rattle.tsb_text.specs.Faults.{fault_words}
use Rattle.tsb_text.specs.declared.faults.LineFault.{LineFault}
use Rattle.tsb_text.specs.declared.faults.LineFault.TheVariants.{Refused}
use Rattle.tsb_text.specs.declared.rows.Rows.TheVariants.{Held}
use Rattle.tsb_text.specs.Obeyed.{Keeps, Stands, tells_in}
use Rattle.tsb_text.specs.Rows.{rows_in}
use Rattle.tsb_live_text.specs.declared.run.LiveRun.{LiveRun}
use Rattle.tsb_live_text.specs.Live.{Live, setup}
use Rattle.tsb_text.specs.Stops.{stop_in}

-- a run has come to this
pub record StandsLive (run : LiveRun) (s : Live) : Type 0 where
  pub stands : Stands (setup s) (rows_in (Held s.row)) run.course s.inputs
  pub keeps : Keeps run.course.mode
  pub tells : tells_in run.course.mode ≡ s.tells
  pub echoes : run.echoes ≡ s.echoes
  pub on_fault : run.on_fault ≡ s.on_fault
  pub stop : stop_in run.stop ≡ s.stopped

-- an answer was said, which leaves this; or a fault came within it
abbrev pub Does : Result (Option LineFault) WriteError → LiveRun → (List ℕ → Option LineFault → Live → Type 0) → Option (List ℕ) → Option (List ℕ) → List ℕ → List ℕ → Type 0
Does (Ok fault) run IsAnswer old new waited waits = (left : Live) × StandsLive run left × Wrote old new waited waits (λ text. IsAnswer text fault left)
Does (Err e) run IsAnswer old new waited waits = Wrote old new waited waits (λ text. (rest : List ℕ) × (fault : Option LineFault) × (left : Live) × IsAnswer (text ++ rest) fault left)

-- a text was said to a line with which this is wrong; or a fault came within it
abbrev pub TellsOnce : Result (Option LineFault) WriteError → Option LineFault → List ℕ → Option (List ℕ) → Option (List ℕ) → List ℕ → List ℕ → Type 0
TellsOnce (Ok fault) why text old new waited waits = (fault ≡ why) × Said old new waited waits text
TellsOnce (Err e) why text old new waited waits = IsCutShort old new waited waits text

-- the line that was made of a plan was said; or that there was no memory to make it
abbrev pub TellsMade : {A E : Type 0} → (A → List ℕ) → Result A E → Result (Option LineFault) WriteError → List ℕ → Option (List ℕ) → Option (List ℕ) → List ℕ → List ℕ → Type 0
TellsMade text_of (Ok line) result echo old new waited waits = TellsOnce result None (echo ++ with_feed (text_of line)) old new waited waits
TellsMade text_of (Err e) result echo old new waited waits = TellsOnce result (Some (Refused Memory)) (echo ++ with_feed (refused_line Memory)) old new waited waits

-- a tick was said; or what is wrong with the line that asks for it
abbrev pub TellsTickOnce : Result ℕ LineFault → Result (Option LineFault) WriteError → List ℕ → Option (List ℕ) → Option (List ℕ) → List ℕ → List ℕ → Type 0
TellsTickOnce (Ok tick) result echo old new waited waits = TellsOnce result None (echo ++ with_feed (when_line (Some tick))) old new waited waits
TellsTickOnce (Err why) result echo old new waited waits = TellsOnce result (Some why) (echo ++ with_feed (fault_words why)) old new waited waits

-- the line of a plan was said; or that there is no memory for it
abbrev pub TellsPlan : Result (Option LineFault) WriteError → Plan → List ℕ → Option (List ℕ) → Option (List ℕ) → List ℕ → List ℕ → Type 0
TellsPlan result plan echo old new waited waits =
    TellsOnce result None (echo ++ with_feed (plan_text plan)) old new waited waits
    ⊎ TellsOnce result (Some (Refused Memory)) (echo ++ with_feed (refused_line Memory)) old new waited waits
