-- What holds of the place of each text. The law here is the contract of a function in src/laws.rt.
use Rattle.std.specs.Prelude.{◌≡◌, ◌<◌, ℕ, List, ◌++◌, length, Some}
use Rattle.tsb_plan_notes.specs.declared.machine.JsonStop.{JsonStop}
use Rattle.tsb_plan_notes.specs.Places.{start, stop}

-- a text that stops before its end stops there as well where more follows
abbrev pub StopsWhateverFollows : Type 0
StopsWhateverFollows = (text more : List ℕ) (s : JsonStop) → stop start 0 text ≡ Some s → s.at < length text → stop start 0 (text ++ more) ≡ Some s
