-- What every run keeps of the overlaps that have intervals of their own: by which phases each is lit, and that the phase by
-- whose yellow an arrow is yellow began its own no earlier. Laws of overlaps are proved from it. That an arrow is green with
-- its turn is as MUTCD has it; when it flashes, and that an overlap which trails holds its phases, is the profile's own.
use Rattle.std.specs.Prelude.{◌≡◌, ℕ, ◌≤◌, Bool, true, false, ◌||◌, Option, Some}
use Rattle.tsb_cells.specs.declared.timer.Timer.TheVariants.{On}
use Rattle.tsb_types.specs.declared.interval.Interval.TheVariants as intervals
use Rattle.tsb_types.specs.Intervals.{is_green, is_yellow, is_red_clear}
use Rattle.tsb_types.specs.Lists.{among}
use Rattle.tsb_objects.specs.tsb_plan.Parts.{is_arrow, is_included, is_timed, trails}
use Rattle.tsb_objects.specs.tsb_plan.Plan.{phases}
use Rattle.tsb_heads.specs.Overlaps.{is_kept_green}
use Rattle.tsb_overlap.specs.declared.parts.OverlapInterval.{OverlapInterval}
use Rattle.tsb_overlap.specs.declared.parts.OverlapInterval.TheVariants.{Red, Green, TrailGreen, Flashing, Yellow, RedClear}
use Rattle.tsb_overlap.specs.Overlap.{turn_of}
use Rattle.tsb_step.specs.Events.{is_by}
use Rattle.tsb_step.specs.State.{State, interval}
use Rattle.tsb_step.specs.Signs.{shown}
use Rattle.tsb_step.specs.Laws.{OfEveryRun}
use Rattle.tsb_step.specs.Good.{IsGood}

-- ## Arrows

-- an included phase is Green
pub record IsOpposed (s : State) (o : ℕ) : Type 0 where
  pub phase : ℕ
  pub listed : among phase (phases s.plan) ≡ true
  pub included : is_included s.plan o phase ≡ true
  pub green : interval s phase ≡ intervals.Green

-- it is yellow by phase q, an included one or its turn, which is Green or Yellow; its own yellow began no earlier
pub record IsYellowBy (s : State) (o : ℕ) : Type 0 where
  pub phase : ℕ
  pub ticks : ℕ
  pub shows : (s.overlaps o).phase ≡ Some phase
  pub runs : (s.overlaps o).timer ≡ On ticks
  pub listed : among phase (phases s.plan) ≡ true
  pub by : is_by s.plan o phase ≡ true
  pub lit : (is_green (interval s phase) || is_yellow (interval s phase)) ≡ true
  pub later : (m : ℕ) → interval s phase ≡ intervals.Yellow → (s.phases phase).timer ≡ On m → m ≤ ticks

-- arrow o in this interval
abbrev pub PointsBy : State → ℕ → OverlapInterval → Type 0
PointsBy s o Red = Unit {0}
PointsBy s o Green = (t : ℕ) → turn_of s.plan o ≡ Some t → interval s t ≡ intervals.Green
PointsBy s o TrailGreen = ⊥
PointsBy s o Flashing = IsOpposed s o
PointsBy s o Yellow = IsYellowBy s o
PointsBy s o RedClear = ⊥

-- ## Overlaps that trail

-- an included phase clears
pub record IsTrailed (s : State) (o : ℕ) : Type 0 where
  pub phase : ℕ
  pub listed : among phase (phases s.plan) ≡ true
  pub included : is_included s.plan o phase ≡ true
  pub clears : (is_yellow (interval s phase) || is_red_clear (interval s phase)) ≡ true

-- overlap o, which trails, in this interval
abbrev pub TrailsBy : State → ℕ → OverlapInterval → Type 0
TrailsBy s o Red = Unit {0}
TrailsBy s o Green = is_kept_green s.plan (shown s) o ≡ true
TrailsBy s o TrailGreen = IsTrailed s o
TrailsBy s o Flashing = ⊥
TrailsBy s o Yellow = IsTrailed s o
TrailsBy s o RedClear = IsTrailed s o

-- ## All overlaps

-- an arrow, one that trails, any other
pub record IsBacked (s : State) (o : ℕ) : Type 0 where
  pub arrow : is_arrow s.plan o ≡ true → PointsBy s o (s.overlaps o).interval
  pub trail : is_arrow s.plan o ≡ false → trails s.plan o ≡ true → TrailsBy s o (s.overlaps o).interval
  pub other : is_timed s.plan o ≡ false → (s.overlaps o).interval ≡ Red

-- each overlap is lit by phases
abbrev pub AreBacked : State → Type 0
AreBacked s = (o : ℕ) → IsBacked s o

-- what holds of the state after every run, of overlaps too
pub record IsGoodInAll (s : State) : Type 0 where
  pub good : IsGood s
  pub backed : AreBacked s

-- So it is after every run.
abbrev pub OverlapsAreBacked : Type 0
OverlapsAreBacked = OfEveryRun AreBacked
