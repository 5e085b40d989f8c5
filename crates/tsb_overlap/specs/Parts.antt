-- What is done to the part of a row that keeps one overlap. What is done to an overlap is said of one part, and what is
-- done to the cells is that one part is changed.
use Rattle.std.specs.Prelude.{◌≡◌, ◌≢◌, ℕ, ◌+◌, ◌≤◌, ◌<◌, ◌==◌, Bool, true, false, List, slice_index}
use Rattle.tsb_objects.specs.tsb_types.declared.flow.OverlapLights.{OverlapLights}
use Rattle.tsb_objects.specs.tsb_types.declared.limits.TheConstants.{OVERLAPS}
use Rattle.tsb_objects.specs.tsb_plan.Plan.{Plan}
use Rattle.tsb_objects.specs.tsb_plan.Parts.{unless_zero}
use Rattle.tsb_overlap.specs.declared.parts.OverlapInterval.{OverlapInterval}
use Rattle.tsb_overlap.specs.declared.parts.OverlapInterval.TheVariants.{Red, Green, TrailGreen, Flashing, Yellow, RedClear}
use Rattle.tsb_overlap.specs.declared.parts.Part.{Part}
use Rattle.tsb_overlap.specs.declared.surroundings.Surroundings.{Surroundings}
use Rattle.tsb_overlap.specs.Overlap.{Overlap, run_on, settled}
use Rattle.tsb_overlap.specs.Cells.{listed, overlap_of}
use Rattle.tsb_overlap.specs.Reading.{given_by}

-- a part that keeps this overlap at tick `now`
pub record IsPartOf (now : ℕ) (said : Overlap) (part : Part) : Type 0 where
  pub state : overlap_of now part ≡ said
  pub timer : part.timer ≤ now + 1

-- list k is that of the interval
abbrev pub is_list : ℕ → OverlapInterval → Bool
is_list k Green = k == 0
is_list k TrailGreen = k == 1
is_list k Flashing = k == 2
is_list k Yellow = k == 3
is_list k RedClear = k == 4
is_list k Red = false

-- one list at most names overlap o
abbrev pub IsInOne : List ℕ → ℕ → Type 0
IsInOne row o = (j k : ℕ) → j < k → k < 5 → listed row j o ≡ true → listed row k o ≡ false

-- the cells keep of overlap o what they did
pub record IsKept (old new : List ℕ) (o : ℕ) : Type 0 where
  pub lists : (k : ℕ) → k < 5 → listed new k o ≡ listed old k o
  pub timer : slice_index new (5 + o) ≡ slice_index old (5 + o)
  pub phase : slice_index new (5 + OVERLAPS + o) ≡ slice_index old (5 + OVERLAPS + o)

-- they keep this part of overlap o
pub record IsPut (part : Part) (new : List ℕ) (o : ℕ) : Type 0 where
  pub lists : (k : ℕ) → k < 5 → listed new k o ≡ is_list k part.interval
  pub timer : slice_index new (5 + o) ≡ part.timer
  pub phase : unless_zero (slice_index new (5 + OVERLAPS + o)) ≡ part.phase
  pub small : slice_index new (5 + OVERLAPS + o) ≤ 16

-- and of the others what they did
abbrev pub KeepsOthers : ℕ → List ℕ → List ℕ → Type 0
KeepsOthers o old new = (q : ℕ) → 1 ≤ q → q ≤ OVERLAPS → q ≢ o → IsKept old new q

-- ## Ticks that leave a part as it is

-- where tick `now` leaves the overlap that a part keeps, so does tick t
pub record IsStill (plan : Plan) (preempted : Bool) (omitted : ℕ → Bool) (lights : OverlapLights) (seen : Surroundings) (o : ℕ) (part : Part) (now t : ℕ) : Type 0 where
  pub runs : run_on plan preempted o (overlap_of now part) ≡ overlap_of now part → run_on plan preempted o (overlap_of t part) ≡ overlap_of t part
  pub settles : settled plan (given_by now seen omitted lights) o (overlap_of now part) ≡ overlap_of now part →
      settled plan (given_by t seen omitted lights) o (overlap_of t part) ≡ overlap_of t part
