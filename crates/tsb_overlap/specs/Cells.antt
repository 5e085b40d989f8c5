-- The cells of the overlaps, N of them, and how they are read at a tick. What is yes or no of each overlap is one cell
-- for all of them, a list as of phases. The cells of an overlap that has no intervals of its own are 0.
--
-- | Cells | What |
-- |---|---|
-- | 0 to 4 | lists: green, trailing green, flashing yellow, yellow, red clearance |
-- | 5 | the list of omitted arrows |
-- | 6 to 5 + N | timers: one more than the tick at which each began; 0 for Off |
-- | 6 + N to 5 + 2 N | the phase whose yellow an arrow shows; 0 for none |
use Rattle.std.specs.Prelude.{◌≡◌, ℕ, ◌+◌, ◌≤◌, ◌<◌, Bool, true, false, ◌&&◌, nat_le, if◌then◌else◌, List, [], ◌∷◌, ◌++◌, length, map, slice_index, Option, Some, None}
use Rattle.tsb_cells.specs.Timer.{timer_at, timer_cell}
use Rattle.tsb_objects.specs.tsb_types.declared.limits.TheConstants.{OVERLAPS}
use Rattle.tsb_objects.specs.tsb_types.Lists.{run_from}
use Rattle.tsb_objects.specs.tsb_plan.Parts.{unless_zero}
use Rattle.tsb_objects.specs.tsb_types.Sets.{names, list_of, list_in}
use Rattle.tsb_overlap.specs.declared.TheConstants.{CELLS}
use Rattle.tsb_overlap.specs.declared.parts.Part.{Part}
use Rattle.tsb_overlap.specs.declared.parts.OverlapInterval.{OverlapInterval}
use Rattle.tsb_overlap.specs.declared.parts.OverlapInterval.TheVariants.{Red, Green, TrailGreen, Flashing, Yellow, RedClear}
use Rattle.tsb_overlap.specs.Overlap.{Overlap, at_power_up}

-- ## Reading

-- list k of a row names overlap o
abbrev pub listed : List ℕ → ℕ → ℕ → Bool
listed row k o = names (list_in row k) o

-- the interval of an overlap that five lists name or do not, by the first that does
abbrev pub interval_by : Bool → Bool → Bool → Bool → Bool → OverlapInterval
interval_by green trail flashing yellow clear =
    if green then Green else
    (if trail then TrailGreen else
    (if flashing then Flashing else
    (if yellow then Yellow else
    (if clear then RedClear else Red))))

-- the interval of overlap o
unfoldable pub interval_in : List ℕ → ℕ → OverlapInterval
interval_in row o = interval_by (listed row 0 o) (listed row 1 o) (listed row 2 o) (listed row 3 o) (listed row 4 o)

-- what the cells keep of overlap o
abbrev pub part_in : List ℕ → ℕ → Part
part_in row o = record {
  interval = interval_in row o;
  timer = slice_index row (5 + o);
  phase = unless_zero (slice_index row (5 + OVERLAPS + o));
}

-- the overlap that such a part keeps, at tick `now`
abbrev pub overlap_of : ℕ → Part → Overlap
overlap_of now part = record { interval = part.interval; timer = timer_at now part.timer; phase = part.phase }

-- there is an overlap of this number
abbrev pub is_overlap : ℕ → Bool
is_overlap o = nat_le 1 o && nat_le o OVERLAPS

-- overlap o at tick `now`
unfoldable pub overlap_in : ℕ → List ℕ → ℕ → Overlap
overlap_in now row o = if is_overlap o then overlap_of now (part_in row o) else at_power_up

-- the arrows that are omitted
abbrev pub omitted_in : List ℕ → ℕ → Bool
omitted_in row = names (list_in row 5)

-- ## Writing

-- it is this interval
abbrev pub is_interval : OverlapInterval → OverlapInterval → Bool
is_interval Red Red = true
is_interval Green Green = true
is_interval TrailGreen TrailGreen = true
is_interval Flashing Flashing = true
is_interval Yellow Yellow = true
is_interval RedClear RedClear = true
is_interval one other = false

-- the list of the overlaps in an interval
abbrev pub list_of_interval : (ℕ → Overlap) → OverlapInterval → ℕ
list_of_interval f i = list_of OVERLAPS (λ o. is_interval i (f o).interval)

-- the number of a phase that may be none
abbrev pub phase_cell : Option ℕ → ℕ
phase_cell None = 0
phase_cell (Some p) = p

-- THE TABLE: the cells of overlaps at tick `now`
abbrev pub overlaps_cells : ℕ → (ℕ → Overlap) → (ℕ → Bool) → List ℕ
overlaps_cells now f omitted =
    (list_of_interval f Green ∷ list_of_interval f TrailGreen ∷ list_of_interval f Flashing ∷ list_of_interval f Yellow
    ∷ list_of_interval f RedClear ∷ list_of OVERLAPS omitted ∷ [])
    ++ map (λ o. timer_cell now (f o).timer) (run_from 1 OVERLAPS)
    ++ map (λ o. phase_cell (f o).phase) (run_from 1 OVERLAPS)

-- ## Rows that the overlaps can hold at tick `now`

-- of overlap o: one list at most names it, its timer did not begin after `now`, and its phase is a number of one
pub record IsOverlapBy (now : ℕ) (row : List ℕ) (o : ℕ) : Type 0 where
  pub apart : (j k : ℕ) → j < k → k < 5 → listed row j o ≡ true → listed row k o ≡ false
  pub timer : slice_index row (5 + o) ≤ now + 1
  pub phase : slice_index row (5 + OVERLAPS + o) ≤ 16

-- six lists, and what `IsOverlapBy` says of each
pub record IsBy (now : ℕ) (row : List ℕ) : Type 0 where
  pub full : length row ≡ CELLS
  pub lists : (k : ℕ) → k < 6 → slice_index row k < 65536
  pub each : (o : ℕ) → 1 ≤ o → o ≤ OVERLAPS → IsOverlapBy now row o
