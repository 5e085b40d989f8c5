-- That a live run has one answer to each line, up to want of memory, as statements.
--
-- All are proved, each as the contract of a function that does nothing (src/one_text.rt).
use Rattle.std.specs.Prelude.{◌≡◌, ◌⊎◌, ℕ, List, [], ◌∷◌, Option, Some}
use Rattle.tsb_dialog.specs.Heard.{Runs}
use Rattle.tsb_dialog.specs.declared.answers.Flow.{Flow}
use Rattle.tsb_live_text.specs.Live.{Live, Says}
use Rattle.tsb_step.specs.tsb_types.declared.refusal.Refusal.TheVariants.{Memory}
use Rattle.tsb_text.specs.declared.faults.LineFault.{LineFault}
use Rattle.tsb_text.specs.declared.faults.LineFault.TheVariants.{Refused}

-- a line was refused since memory ran out
abbrev pub RanOut : Option LineFault → Type 0
RanOut fault = fault ≡ Some (Refused Memory)

-- To a line a live run has one answer, and comes to one state by it, if memory does not run out.
abbrev pub LinesHaveOneAnswer : Type 0
LinesHaveOneAnswer = (s t u : Live) (number : ℕ) (line text other : List ℕ) (flow after : Flow) (a : Says s number line text flow t) (b : Says s number line other after u) →
    ((text ≡ other) × (flow ≡ after) × (t ≡ u)) ⊎ (RanOut a.fault ⊎ RanOut b.fault)

-- memory ran out at one of these lines
abbrev pub RunsOut : (most : ℕ) (from : Live) (lines : List (List ℕ)) (text : List ℕ) (now : Live) → Runs most Says from lines text now → Type 0
RunsOut most from [] text now r = ⊥
RunsOut most from (line ∷ lines) text now r = RunsOut most from lines r.0 r.2 r.3 ⊎ RanOut r.4.fault

-- So to all lines: what it has written is one text.
abbrev pub LiveRunsWriteOneText : Type 0
LiveRunsWriteOneText = (most : ℕ) (from now then : Live) (lines : List (List ℕ)) (text other : List ℕ) (r : Runs most Says from lines text now) (q : Runs most Says from lines other then) →
    ((text ≡ other) × (now ≡ then)) ⊎ (RunsOut most from lines text now r ⊎ RunsOut most from lines other then q)
