-- The lines that remain of a session that went back, and those of them at which something changed.
use Rattle.std.specs.Prelude.{◌≡◌, ℕ, nat_lt, Bool, true, false, List, [], ◌∷◌, if◌then◌else◌, filter, Option, Some, None}
use Rattle.std.specs.List.{list_all}
use Rattle.tsb_field_display.specs.declared.shown.Signals.{Signals}
use Rattle.tsb_field_display.specs.declared.shown.Shown.{Shown}
use Rattle.tsb_field_display.specs.declared.replay.Replay.{Replay}
use Rattle.tsb_field_display.specs.Shows.{nothing_lit, is_same}

-- ## Lines that remain

-- a line takes back what stood from its tick on: so a line remains where each later one has a tick above its own
abbrev pub remaining : List Shown → List Shown
remaining [] = []
remaining (line ∷ lines) =
    if list_all (λ later. nat_lt line.tick later.tick) lines then line ∷ remaining lines else remaining lines

-- the lines of these before a tick
abbrev pub before_tick : ℕ → List Shown → List Shown
before_tick tick lines = filter (λ line. nat_lt line.tick tick) lines

-- each line has a tick below those of all later ones
abbrev pub Rises : List Shown → Type 0
Rises [] = Unit {0}
Rises (line ∷ lines) = (list_all (λ later. nat_lt line.tick later.tick) lines ≡ true) × Rises lines

-- the tick of the last line
abbrev pub last_tick : List Shown → Option ℕ
last_tick [] = None
last_tick (line ∷ []) = Some line.tick
last_tick (line ∷ lines) = last_tick lines

-- ## Changes

-- of lines after this, those that show something else than what was shown before
abbrev pub changes_after : Signals → List Shown → List Shown
changes_after before [] = []
changes_after before (line ∷ lines) =
    if is_same before line.signals then changes_after before lines else line ∷ changes_after line.signals lines

-- the first line, and those that show something else than the line before
abbrev pub changes_of : List Shown → List Shown
changes_of [] = []
changes_of (line ∷ lines) = line ∷ changes_after line.signals lines

-- what is shown after lines, of which the first comes after this, is the same as this
abbrev pub shows_after : Signals → List Shown → Signals → Bool
shows_after before [] signals = is_same before signals
shows_after before (line ∷ lines) signals = shows_after line.signals lines signals

-- the last of lines shows the same as this
abbrev pub shows_last : List Shown → Signals → Bool
shows_last [] signals = false
shows_last (line ∷ lines) signals = shows_after line.signals lines signals

-- what stands in for a line that is not there
abbrev pub no_line : Shown
no_line = record { tick = 0; signals = nothing_lit }

-- ## Histories

-- the changes that it keeps
abbrev pub changes_in : Replay → List Shown
changes_in replay = replay.changes.items

-- the last tick that it keeps
abbrev pub last_in : Replay → Option ℕ
last_in replay = replay.last

-- it keeps the changes of what remains of these lines, and the tick of the last of them
pub record Keeps (replay : Replay) (lines : List Shown) : Type 0 where
  pub changes : changes_in replay ≡ changes_of (remaining lines)
  pub last : last_in replay ≡ last_tick lines
