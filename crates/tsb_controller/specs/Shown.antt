-- What a display is made from, in the words of the layers' contracts.
use Rattle.std.specs.Prelude.{ℕ, Bool, Option}
use Rattle.tsb_step.specs.tsb_types.declared.flow.Intervals.{Intervals}
use Rattle.tsb_step.specs.tsb_types.declared.flow.OverlapLights.{OverlapLights}
use Rattle.tsb_step.specs.tsb_types.declared.flow.Pedestrians.{Pedestrians}
use Rattle.tsb_step.specs.tsb_plan.Plan.{Plan}
use Rattle.tsb_phase.specs.Promises.{TellsIntervals, TellsPedestrians}
use Rattle.tsb_ring.specs.Promises.{TellsCommitment}
use Rattle.tsb_overlap.specs.Promises.{TellsLights}
use Rattle.tsb_heads.specs.declared.display.Display.{Display}
use Rattle.tsb_heads.specs.Promises.{IsDisplayed}
use Rattle.tsb_controller.specs.Rows.{Rows}

-- a display of these rows: by the intervals, the pedestrian parts, both commitments and the lights of overlaps as the layers
-- give them; in flash where `tripped` says so
pub record IsShown (plan : Plan) (tripped : Bool) (rows : Rows) (display : Display) : Type 0 where
  pub intervals : Intervals
  pub pedestrians : Pedestrians
  pub ring_1 : Option ℕ
  pub ring_2 : Option ℕ
  pub lights : OverlapLights
  pub intervals_are : TellsIntervals rows.phases intervals
  pub pedestrians_are : TellsPedestrians rows.phases pedestrians
  pub first_is : TellsCommitment rows.rings 1 ring_1
  pub second_is : TellsCommitment rows.rings 2 ring_2
  pub lights_are : TellsLights rows.overlaps lights
  pub displayed : IsDisplayed intervals pedestrians ring_1 ring_2 lights tripped plan display
