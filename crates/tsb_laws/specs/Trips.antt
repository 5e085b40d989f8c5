-- What a trip does: it stays until a reset, and until then the heads flash or are dark. Each law here is the contract of
-- a function in src/heads.rt, and proved there.
use Rattle.std.specs.Prelude.{◌≡◌, ℕ, ◌==◌, false, if◌then◌else◌, Some, None}
use Rattle.tsb_step.specs.tsb_types.declared.lamp.Aspect.TheVariants.{Dark, FlashingRed}
use Rattle.tsb_step.specs.tsb_types.declared.lamp.PedestrianAspect.TheVariants as pedestrian_aspects
use Rattle.tsb_step.specs.tsb_plan.declared.object.Object.TheVariants.{OverlapIncludedPhases}
use Rattle.tsb_step.specs.tsb_plan.Plan.{Plan, is_enabled}
use Rattle.tsb_step.specs.tsb_heads.Heads.{Heads}
use Rattle.tsb_step.specs.declared.inputs.Input.{Input}
use Rattle.tsb_step.specs.declared.inputs.Input.TheVariants.{Reset}
use Rattle.tsb_step.specs.State.{State, Tripped}
use Rattle.tsb_step.specs.Signs.{display}
use Rattle.tsb_step.specs.Step.{step}
use Rattle.tsb_step.specs.TimeLaws.{is_reset}

-- A trip, with its cause and its tick number, stays over every input but a reset.
abbrev pub TripsStay : Type 0
TripsStay = (s : State) (i : Input) (t : Tripped) → s.trip ≡ Some t → is_reset i ≡ false → (step s i).trip ≡ Some t

-- After a reset there is none.
abbrev pub ResetsEndTrips : Type 0
ResetsEndTrips = (s : State) → (step s Reset).trip ≡ None

-- in the plan in effect the vehicle head of each enabled phase and the head of each overlap that includes a phase flash
-- red, and all other heads are dark
pub record AreInFlash (plan : Plan) (heads : Heads) : Type 0 where
  pub vehicle : (p : ℕ) → heads.vehicle p ≡ (if is_enabled plan p then FlashingRed else Dark)
  pub pedestrian : (p : ℕ) → heads.pedestrian p ≡ pedestrian_aspects.Dark
  pub overlap : (o : ℕ) → heads.overlap o ≡ (if plan.value OverlapIncludedPhases o == 0 then Dark else FlashingRed)

-- So it is while the controller has tripped.
abbrev pub TrippedHeadsFlash : Type 0
TrippedHeadsFlash = (s : State) (t : Tripped) → s.trip ≡ Some t → AreInFlash s.plan (display s)
