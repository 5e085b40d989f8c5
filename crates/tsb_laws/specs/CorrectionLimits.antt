-- What only an option reads does not matter while the option is 0. One option has an object of its own: the correction
-- limit, which is read by how a local counter comes into step (coordCorrectionMode). The laws here are the contract of a
-- function in src/options.rt, and proved there. Every other option is one object, which `RunsAreThoseWithoutOptions` of
-- WithoutOptions speaks of.
use Rattle.std.specs.Prelude.{◌≡◌, Bool, true, false, List, [], ◌∷◌}
use Rattle.tsb_step.specs.tsb_plan.declared.object.Object.{Object}
use Rattle.tsb_step.specs.tsb_plan.declared.object.Object.TheVariants.{CoordCorrectionLimit, CoordCorrectionMode}
use Rattle.tsb_step.specs.tsb_plan.Plan.{Plan}
use Rattle.tsb_step.specs.declared.inputs.Input.{Input}
use Rattle.tsb_step.specs.State.{State}
use Rattle.tsb_step.specs.Signs.{display, field, local}
use Rattle.tsb_step.specs.Step.{verdict}
use Rattle.tsb_step.specs.Runs.{replay}
use Rattle.tsb_laws.specs.Differing.{DifferIn, IsSameBut}

-- the object that only the correction mode reads
abbrev pub is_limit : Object → Bool
is_limit CoordCorrectionLimit = true
is_limit o = false

-- the correction mode is 0 in the plan in effect where each of the inputs comes
abbrev pub CorrectsAtOnce : Plan → List Input → Type 0
CorrectsAtOnce plan [] = Unit {0}
CorrectsAtOnce plan (i ∷ is) = CorrectsAtOnce plan is × ((replay plan is).plan.value CoordCorrectionMode 1 ≡ 0)

-- Two plans that differ in that limit alone give the same run while the mode is 0: states that differ in it alone, over
-- inputs of every kind. A commit may set the limit, and the last one may set another mode.
abbrev pub LimitsChangeNoRun : Type 0
LimitsChangeNoRun = (x y : Plan) (is : List Input) → DifferIn is_limit x y → CorrectsAtOnce x is →
    IsSameBut is_limit (replay x is) (replay y is)

-- what both show and refuse then
pub record ShowAndRefuseTheSame (s t : State) : Type 0 where
  pub heads : display t ≡ display s
  pub lamps : field t ≡ field s
  pub counter : local t ≡ local s
  pub refused : (i : Input) → verdict t i ≡ verdict s i

-- Where the mode is 0 after them as well, display, field and local counter are the same in both. An input that comes
-- next is refused in both for one cause, or in neither.
abbrev pub LimitsShowNothing : Type 0
LimitsShowNothing = (x y : Plan) (is : List Input) → DifferIn is_limit x y → CorrectsAtOnce x is →
    (replay x is).plan.value CoordCorrectionMode 1 ≡ 0 → ShowAndRefuseTheSame (replay x is) (replay y is)
