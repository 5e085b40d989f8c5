-- What holds of display lines and their events, in words that do not retrace how they are found. Each law here is the
-- contract of a function in src/laws.rt.
use Rattle.std.specs.Prelude.{◌≡◌, ℕ, ◌<◌, ◌≤◌, Bool, false, List, [], ◌∷◌, ◌++◌, Option, Some, IfSome}
use Rattle.tsb_display_text.specs.tsb_heads.declared.display.Display.{Display}
use Rattle.tsb_display_text.specs.tsb_heads.Colours.{is_flashing_yellow}
use Rattle.tsb_display_text.specs.tsb_heads.Heads.{Heads}
use Rattle.tsb_display_text.specs.tsb_heads.Reading.{heads_of}
use Rattle.tsb_display_text.specs.Line.{line_in}
use Rattle.tsb_types.specs.declared.limits.TheConstants.{OVERLAPS, PREEMPTS}
use Rattle.tsb_field_display.specs.declared.shown.Signals.{Signals}
use Rattle.tsb_field_display.specs.declared.shown.Shown.{Shown}
use Rattle.tsb_field_display.specs.Shows.{AreApart, aspect_of, pedestrian_aspect_of}
use Rattle.tsb_field_display.specs.Reading.{overlaps_in, shown_of}
use Rattle.tsb_field_display.specs.Remaining.{changes_of}
use Rattle.tsb_field_display.specs.Events.{events_of_lines, is_green, is_yellow, is_walk, is_clearance, is_overlap_green, is_overlap_yellow, is_overlap_arrow, is_in_flash}
use Rattle.tsb_field_display.specs.ReadBack.{Lit, read_back}

-- it shows this tick, what these heads show, and this preempt in service; of a wide line it is all overlaps
pub record Tells (is_wide : Bool) (shown : Shown) (now : ℕ) (heads : Heads) (served : Option ℕ) : Type 0 where
  pub tick : shown.tick ≡ now
  pub vehicles : (p : ℕ) → 1 ≤ p → p ≤ 16 → aspect_of shown.signals.vehicles p ≡ heads.vehicle p
  pub pedestrians : (p : ℕ) → 1 ≤ p → p ≤ 16 → pedestrian_aspect_of shown.signals.pedestrians p ≡ heads.pedestrian p
  pub overlaps : (o : ℕ) → 1 ≤ o → o ≤ overlaps_in is_wide → aspect_of shown.signals.overlaps o ≡ heads.overlap o
  pub preempt : shown.signals.preempt ≡ served

-- no head of a phase flashes yellow, which arrows alone do
abbrev pub HaveNoArrows : Heads → Type 0
HaveNoArrows heads = (p : ℕ) → is_flashing_yellow (heads.vehicle p) ≡ false

-- what is read of a display line, or of a wide one, is what it shows
abbrev pub AreRead : Type 0
AreRead = (is_wide : Bool) (now : ℕ) (heads : Heads) (preempt local : Option ℕ) → HaveNoArrows heads →
    now < 10000000 → IfSome preempt (λ n. (1 ≤ n) × (n ≤ PREEMPTS)) →
    (shown : Shown) × (shown_of is_wide (line_in is_wide now heads preempt local) ≡ Some shown) × Tells is_wide shown now heads preempt

-- the same of the line of each display, whatever it shows
abbrev pub DisplaysAreRead : Type 0
DisplaysAreRead = (is_wide : Bool) (now : ℕ) (display : Display) (preempt local : Option ℕ) →
    now < 10000000 → IfSome preempt (λ n. (1 ≤ n) × (n ≤ PREEMPTS)) →
    (shown : Shown) × (shown_of is_wide (line_in is_wide now (heads_of display) preempt local) ≡ Some shown)
    × Tells is_wide shown now (heads_of display) preempt

-- lines that show the same as the line before have no events
abbrev pub ComeOfChanges : Type 0
ComeOfChanges = (lines : List Shown) → events_of_lines (changes_of lines) ≡ events_of_lines lines

-- no head of any line is in two sets
abbrev pub AreAllApart : List Shown → Type 0
AreAllApart [] = Unit {0}
AreAllApart (line ∷ lines) = AreApart line.signals × AreAllApart lines

-- these are the heads that are green, yellow, in walk and in clearance, and the arrows that flash yellow; and all flash red
-- where this says so
pub record IsLit (lit : Lit) (s : Signals) : Type 0 where
  pub green : (p : ℕ) → 1 ≤ p → p ≤ 16 → lit.green p ≡ is_green s p
  pub yellow : (p : ℕ) → 1 ≤ p → p ≤ 16 → lit.yellow p ≡ is_yellow s p
  pub walk : (p : ℕ) → 1 ≤ p → p ≤ 16 → lit.walk p ≡ is_walk s p
  pub clearance : (p : ℕ) → 1 ≤ p → p ≤ 16 → lit.clearance p ≡ is_clearance s p
  pub overlap_green : (o : ℕ) → 1 ≤ o → o ≤ OVERLAPS → lit.overlap_green o ≡ is_overlap_green s o
  pub overlap_yellow : (o : ℕ) → 1 ≤ o → o ≤ OVERLAPS → lit.overlap_yellow o ≡ is_overlap_yellow s o
  pub overlap_arrow : (o : ℕ) → 1 ≤ o → o ≤ OVERLAPS → lit.overlap_arrow o ≡ is_overlap_arrow s o
  pub flash : lit.flash ≡ is_in_flash s

-- after the events of each line they tell what that line shows
abbrev pub TellTheHeads : Type 0
TellTheHeads = (lines : List Shown) (line : Shown) → AreAllApart (lines ++ line ∷ []) →
    IsLit (read_back (events_of_lines (lines ++ line ∷ []))) line.signals
