-- What offsets are counted to shows nothing but by when local 0 comes: two plans that differ in offsets and in
-- coordReference alone give the same run where local 0 of each pattern comes at one time. The laws here are the
-- contract of a function in src/options.rt, and proved there.
use Rattle.std.specs.Prelude.{◌≡◌, ℕ, ◌*◌, Bool, true, false, List, [], ◌∷◌}
use Rattle.tsb_step.specs.tsb_plan.declared.object.Object.{Object}
use Rattle.tsb_step.specs.tsb_plan.declared.object.Object.TheVariants.{PatternOffsetTime, CoordReference}
use Rattle.tsb_step.specs.tsb_plan.Plan.{Plan}
use Rattle.tsb_step.specs.tsb_objects.Instants.{offset_in_effect}
use Rattle.tsb_step.specs.tsb_coord.OffsetLaws.{with_offsets}
use Rattle.tsb_step.specs.declared.inputs.Input.{Input}
use Rattle.tsb_step.specs.declared.inputs.Input.TheVariants.{Tick, Pattern, Verify, Clock}
use Rattle.tsb_step.specs.DeskLaws.{is_commit}
use Rattle.tsb_step.specs.State.{State}
use Rattle.tsb_step.specs.Signs.{display, field, local}
use Rattle.tsb_step.specs.Step.{found}
use Rattle.tsb_step.specs.Runs.{replay}
use Rattle.tsb_laws.specs.CorrectionLimits.{ShowAndRefuseTheSame}
use Rattle.tsb_laws.specs.Differing.{DifferIn, IsSameBut}

-- the offsets of patterns, and what they are counted to
abbrev pub is_of_offsets : Object → Bool
is_of_offsets PatternOffsetTime = true
is_of_offsets CoordReference = true
is_of_offsets o = false

-- in both plans local 0 of each pattern comes at one time
abbrev pub CountAlike : Plan → Plan → Type 0
CountAlike x y = (n : ℕ) → offset_in_effect y n ≡ offset_in_effect x n

-- What an input reads of offsets where it comes is the same: when local 0 comes where a tick is counted, a pattern
-- selected or the clock set, and at a check of edits what the check finds. By K17 an offset is below its cycle.
abbrev pub ReadsAlike : State → State → Input → Type 0
ReadsAlike s t (Tick row) = CountAlike s.plan t.plan
ReadsAlike s t (Pattern n) = CountAlike s.plan t.plan
ReadsAlike s t (Clock m) = CountAlike s.plan t.plan
ReadsAlike s t (Verify station) = found t.plan t.desk ≡ found s.plan s.desk
ReadsAlike s t i = Unit {0}

-- each of the inputs does, in the states of both runs in which it comes
abbrev pub ReadAlike : Plan → Plan → List Input → Type 0
ReadAlike x y [] = Unit {0}
ReadAlike x y (i ∷ is) = ReadAlike x y is × ReadsAlike (replay x is) (replay y is) i

-- Two plans that differ in these objects alone give the same run where each input does: states that differ in them
-- alone, over inputs of every kind.
abbrev pub OffsetsChangeNoRun : Type 0
OffsetsChangeNoRun = (x y : Plan) (is : List Input) → DifferIn is_of_offsets x y → ReadAlike x y is →
    IsSameBut is_of_offsets (replay x is) (replay y is)

-- Where local 0 comes at one time after them as well, display, field and local counter are the same in both. An input
-- that comes next is refused in both for one cause, or in neither.
abbrev pub OffsetsShowNothing : Type 0
OffsetsShowNothing = (x y : Plan) (is : List Input) → DifferIn is_of_offsets x y → ReadAlike x y is →
    CountAlike (replay x is).plan (replay y is).plan → ShowAndRefuseTheSame (replay x is) (replay y is)

-- ## Without a commit

-- no input of the list is a commit
abbrev pub CommitNothing : List Input → Type 0
CommitNothing [] = Unit {0}
CommitNothing (i ∷ is) = CommitNothing is × (is_commit i ≡ false)

-- what both show
pub record ShowAlike (s t : State) : Type 0 where
  pub heads : display t ≡ display s
  pub lamps : field t ≡ field s
  pub counter : local t ≡ local s

-- A plan shows what the one with coordReference 0 and the converted offsets shows, over inputs of every kind but a
-- commit. An offset is in seconds, and converted it is when local 0 comes.
abbrev pub ConvertedOffsetsShowTheSame : Type 0
ConvertedOffsetsShowTheSame = (plan : Plan) (offsets : ℕ → ℕ) (is : List Input) →
    ((n : ℕ) → 10 * offsets n ≡ offset_in_effect plan n) → CommitNothing is →
    ShowAlike (replay plan is) (replay (with_offsets plan offsets 0) is)
