-- A machine that takes inputs one by one and keeps a record of each, so that it can go back; and its runs. Inputs are
-- piled up, the newest first, and a run begins at a state, as at power-up.
use Rattle.std.specs.Prelude.{◌≡◌, ℕ, ◌==◌, List, [], ◌∷◌, Option, None, if◌then◌else◌}
use Rattle.tsb_types.specs.declared.refusal.Refusal.{Refusal}
use Rattle.tsb_history.specs.declared.kinds.Kind.{Kind}

-- what runs and the way back need to know of a controller, over any states, inputs and records (`Change`)
pub record Machine (State Input Change : Type 0) : Type 0 where
  -- what an input makes of a state
  pub step : State → Input → State
  -- the tick number of a state
  pub now : State → ℕ
  -- why an input is refused, if it is refused for another cause than memory
  pub verdict : State → Input → Option Refusal
  -- the record of an input, by the states before and after it; and the state with a record taken back
  pub record_of : Input → State → State → Change
  pub undone : Change → State → State
  -- of an input and of a record
  pub kind_of : Input → Kind
  pub kind : Change → Kind

module _ {State Input Change : Type 0} (m : Machine State Input Change) (start : State) where
  -- the state after a list of inputs
  abbrev pub replay : List Input → State
  replay [] = start
  replay (i ∷ is) = m.step (replay is) i

  -- each input of the list was taken: there was no verdict against it where it came
  abbrev pub AreTaken : List Input → Type 0
  AreTaken [] = Unit {0}
  AreTaken (i ∷ is) = AreTaken is × (m.verdict (replay is) i ≡ None)

  -- the states of the run, newest first
  abbrev pub run : List Input → List State
  run [] = start ∷ []
  run (i ∷ is) = replay (i ∷ is) ∷ run is

  -- the record of each input, newest first
  abbrev pub records_of : List Input → List Change
  records_of [] = []
  records_of (i ∷ is) = m.record_of i (replay is) (replay (i ∷ is)) ∷ records_of is

  -- without the fewest of the newest inputs that make the tick number t; without all of them, where no state has it
  abbrev pub back_to : ℕ → List Input → List Input
  back_to t [] = []
  back_to t (i ∷ is) = if m.now (replay (i ∷ is)) == t then i ∷ is else back_to t is

-- what an undo leaves of a list of inputs; of none it leaves none
abbrev pub without_newest : {Input : Type 0} → List Input → List Input
without_newest [] = []
without_newest (i ∷ is) = is
