-- What a tick finds, and what it does, step by step, in the words of the layers' contracts, over rows of cells: `old`
-- before a step, `new` after it.
use Rattle.std.specs.Prelude.{◌≡◌, ℕ, Bool, true, false, not, ◌&&◌, ◌⊎◌, if◌then◌else◌, List, Option, Some, None, is_some, option_map}
use Rattle.tsb_step.specs.tsb_types.declared.flow.Called.{Called}
use Rattle.tsb_step.specs.tsb_types.declared.flow.Intervals.{Intervals}
use Rattle.tsb_step.specs.tsb_types.declared.flow.Orders.{Orders}
use Rattle.tsb_step.specs.tsb_types.declared.flow.OverlapLights.{OverlapLights}
use Rattle.tsb_step.specs.tsb_types.declared.flow.Timing.{Timing}
use Rattle.tsb_step.specs.tsb_types.declared.row.Row.{Row}
use Rattle.tsb_step.specs.tsb_types.declared.phase_set.PhaseSet.{PhaseSet}
use Rattle.tsb_step.specs.tsb_types.Sets.{has}
use Rattle.tsb_step.specs.tsb_plan.Parts.{is_anew, is_timed}
use Rattle.tsb_step.specs.tsb_plan.Plan.{Plan}
use Rattle.tsb_detect.specs.declared.greens.Greens.{Greens}
use Rattle.tsb_detect.specs.Cells as detect_cells
use Rattle.tsb_detect.specs.Promises as detect
use Rattle.tsb_calls.specs.declared.decided.Decided.{Decided}
use Rattle.tsb_calls.specs.declared.observed.Observed.{Observed}
use Rattle.tsb_calls.specs.Promises as calls
use Rattle.tsb_phase.specs.declared.conditions.Conditions as phase_conditions
use Rattle.tsb_phase.specs.Cells as phase_cells
use Rattle.tsb_phase.specs.Promises as phases
use Rattle.tsb_ring.specs.declared.conditions.RingConditions as ring_conditions
use Rattle.tsb_ring.specs.declared.ring_order.RingOrder.TheVariants.{Ring1First}
use Rattle.tsb_ring.specs.Cells as ring_cells
use Rattle.tsb_ring.specs.Moves.{is_ended, is_started}
use Rattle.tsb_ring.specs.Promises as rings
use Rattle.tsb_coord.specs.Promises as coord
use Rattle.tsb_preempt.specs.Service.{Service}
use Rattle.tsb_preempt.specs.Cells as preempt_cells
use Rattle.tsb_preempt.specs.Cells.{preempts_in}
use Rattle.tsb_preempt.specs.Promises as preempts
use Rattle.tsb_overlap.specs.declared.surroundings.Surroundings.{Surroundings}
use Rattle.tsb_overlap.specs.Cells.{omitted_in}
use Rattle.tsb_overlap.specs.Cells as overlap_cells
use Rattle.tsb_overlap.specs.Layer.{KeepsOmitted}
use Rattle.tsb_overlap.specs.Promises as overlaps
use Rattle.tsb_overlap.specs.Reading.{given_by}
use Rattle.tsb_heads.specs.Promises as heads
use Rattle.tsb_controller.specs.declared.values.Sensed.{Sensed}
use Rattle.tsb_controller.specs.declared.values.Movement.{Movement}
use Rattle.tsb_controller.specs.Carried.{IsCarriedOut, AreOnes}
use Rattle.tsb_controller.specs.Rows.{Rows}

-- ## Values that are put together

-- what the calls are found from: buttons of the row, vehicle detectors after this tick, phases as they were, and what
-- coordination and preemption say
abbrev pub observed : Row → Sensed → Observed
observed row s = record {
  outputs = s.outputs;
  actuated = s.actuated;
  buttons = row.pedestrians;
  intervals = s.intervals;
  pedestrians = s.pedestrians;
  runs = s.coordination.runs;
  omit = s.coordination.omit;
  service_ended = s.asked.ended;
}

-- what coordination and preemption ask of the phases: hold, force-off, recycle and omit; the phases that must end, and
-- the target
abbrev pub orders : Sensed → Orders
orders s = record {
  hold = s.coordination.hold;
  must_end = s.asked.must_end;
  forced = s.coordination.forced;
  recycle = s.coordination.recycle;
  omit = s.coordination.omit;
  target = s.asked.target;
}

-- what phase timing is given, with the counts that `calls` lends
pub record AreConditions (s : Sensed) (called : Called) (counts : List ℕ) (c : phase_conditions.Conditions) : Type 0 where
  pub called_are : c.called ≡ called
  pub counts_are : c.counts.now ≡ counts
  pub runs_is : c.runs ≡ s.coordination.runs
  pub service_is : c.service ≡ s.service
  pub orders_are : c.orders ≡ orders s

-- what the rings decide from: phases as they were, the sequence in effect, calls, phase timing and orders
abbrev pub for_rings : Sensed → Called → Timing → ring_conditions.RingConditions
for_rings s called timing = record {
  intervals = s.intervals;
  sequence = s.coordination.sequence;
  called = called;
  timing = timing;
  orders = orders s;
}

-- what the calls are given of what the rings did
pub record AreDecided (s : Sensed) (called : Called) (m : Movement) (d : Decided) : Type 0 where
  pub starts_are : (p : ℕ) → has d.starts p ≡ is_started m.moves p
  pub ends_are : (p : ℕ) → has d.ends p ≡ is_ended m.moves p
  pub gapped_are : d.gapped ≡ m.timing.gapped
  pub walks_are : d.walks ≡ m.timing.walks
  pub pedestrian_are : d.pedestrian ≡ called.pedestrian
  pub service_is : d.service ≡ s.service

-- ## The steps of a tick

-- the phases are seen as they were, preempts and detectors run, and coordination is asked; no other row changes
pub record IsSensed (now : ℕ) (row : Row) (plan : Plan) (old new : Rows) (s : Sensed) : Type 0 where
  pub shown : phases.TellsIntervals old.phases s.intervals
  pub walking : phases.TellsPedestrians old.phases s.pedestrians
  pub preempted : preempts.IsTicked now row s.intervals plan old.preempts new.preempts
  pub wanted : preempts.AreOrdered now row s.intervals plan old.preempts s.asked
  pub preempts_by : preempt_cells.IsBy now new.preempts
  pub served : (n : ℕ) → s.service ≡ option_map (λ (x : Service). x.preempt) (preempts_in n new.preempts).service
  pub ordered : coord.AreOrders now plan old.pattern s.coordination
  pub greens : Greens
  pub greens_are : detect.phases_of greens ≡ s.intervals.green
  pub since_are : phases.TellsSince old.phases (detect.since_of greens)
  pub detected : detect.IsTicked now row greens plan old.detectors new.detectors
  pub detectors_by : detect_cells.IsBy now new.detectors
  pub outputs_are : detect.TellsOutputs new.detectors s.outputs
  pub actuated_are : detect.TellsActuations new.detectors s.actuated
  pub rest : new ≡ record old { detectors = new.detectors; preempts = new.preempts }

-- arrows and overlaps that trail run on, and those that trail hold phases in clearance; no other row changes
pub record IsRunOn (now : ℕ) (s : Sensed) (plan : Plan) (old new : Rows) (held : PhaseSet) : Type 0 where
  pub state : overlaps.IsRunOn now (is_some s.service) plan old.overlaps new.overlaps
  pub omitted : KeepsOmitted old.overlaps new.overlaps
  pub holding : overlaps.AreHeld now (is_some s.service) plan old.overlaps held
  pub overlaps_by : overlap_cells.IsBy now new.overlaps
  pub rest : new ≡ record old { overlaps = new.overlaps }

-- what phase timing gives the rings, where overlaps hold these phases: they are not over
pub record IsHeldBack (held : PhaseSet) (old new : Timing) : Type 0 where
  pub over : (p : ℕ) → has new.over p ≡ (has old.over p && not (has held p))
  pub rest : new ≡ record old { over = new.over }

-- the times of phases run, the rings decide, and their moves are carried out on phases and rings; no other row changes
pub record IsMoved (now : ℕ) (s : Sensed) (called : Called) (held : PhaseSet) (plan : Plan) (old new : Rows) (m : Movement) : Type 0 where
  pub conditions : phase_conditions.Conditions
  pub counts : List ℕ
  pub lent : calls.LendsCounts old.calls counts
  pub conditions_are : AreConditions s called counts conditions
  pub timed : List ℕ
  pub ticked : phases.IsTicked now conditions plan old.phases timed
  pub timing : Timing
  pub ready : phases.TellsReady now conditions plan old.phases timing
  pub over : phases.TellsOver now plan old.phases timing
  pub reverted : phases.TellsRedRevertPassed now plan old.phases timing
  pub gapped : phases.TellsGapped now conditions plan old.phases timing
  pub walks : phases.TellsWalks now conditions old.phases timing
  pub held_back : IsHeldBack held timing m.timing
  pub decided : rings.IsDecided plan (for_rings s called m.timing) old.rings m.moves
  pub ones : AreOnes m.moves
  pub carried : IsCarriedOut m.moves now m.timing conditions plan timed new.phases
  pub phases_by : phase_cells.IsBy now new.phases
  pub acted : rings.IsActed m.moves Ring1First old.rings new.rings
  pub rings_by : ring_cells.IsBy new.rings
  pub rest : new ≡ record old { phases = new.phases; rings = new.rings }

-- some overlap lasts through a clearance by a commitment, as phases and rings are in these rows
pub record TellsLasting (plan : Plan) (rows : Rows) (result : Bool) : Type 0 where
  pub intervals : Intervals
  pub ring_1 : Option ℕ
  pub ring_2 : Option ℕ
  pub intervals_are : phases.TellsIntervals rows.phases intervals
  pub first_is : rings.TellsCommitment rows.rings 1 ring_1
  pub second_is : rings.TellsCommitment rows.rings 2 ring_2
  pub told : heads.TellsLasting intervals ring_1 ring_2 plan result

-- no row changes but that of the rings
abbrev pub LeavesAllButRings : Rows → Rows → Type 0
LeavesAllButRings old new = new ≡ record old { rings = new.rings }

-- the rings give up what they are committed to outside the target, unless an overlap lasts; no other row changes
pub record IsGivenUpOutside (target : ℕ → Bool) (plan : Plan) (old new : Rows) : Type 0 where
  pub lasts : Bool
  pub lasts_is : TellsLasting plan old lasts
  pub given : lasts ≡ false → rings.IsGivenUp plan target old.rings new.rings
  pub stays : lasts ≡ true → new.rings ≡ old.rings
  pub rings_by : ring_cells.IsBy new.rings
  pub rest : LeavesAllButRings old new

-- so where there is a target, and else nothing changes
abbrev pub IsGivenUpFor : Option PhaseSet → Plan → Rows → Rows → Type 0
IsGivenUpFor None plan old new = new ≡ old
IsGivenUpFor (Some target) plan old new = IsGivenUpOutside (has target) plan old new

-- the target of the preempt in service counts, where that chooses anew
abbrev pub IsGivenUp : Sensed → Plan → Rows → Rows → Type 0
IsGivenUp s plan old new = IsGivenUpFor (if is_anew plan s.service then s.asked.target else None) plan old new

-- ## Overlaps that have intervals of their own

-- what overlaps see: which phases were Green, whether a preempt is in service, and phases and commitments as these rows have
-- them
pub record AreSeen (was_green : PhaseSet) (preempted : Bool) (phases_row rings_row : List ℕ) (seen : Surroundings) : Type 0 where
  pub was_green_is : seen.was_green ≡ was_green
  pub intervals_are : phases.TellsIntervals phases_row seen.intervals
  pub pedestrians_are : phases.TellsPedestrians phases_row seen.pedestrians
  pub since_are : phases.TellsSince phases_row seen.since.now
  pub first_is : rings.TellsCommitment rings_row 1 seen.ring_1
  pub second_is : rings.TellsCommitment rings_row 2 seen.ring_2
  pub preempted_is : seen.is_preempted ≡ preempted

-- the plan has no arrow, and no overlap that trails
abbrev pub HasNoneTimed : Plan → Type 0
HasNoneTimed plan = (o : ℕ) → is_timed plan o ≡ false

-- no row changes but that of the overlaps
abbrev pub LeavesAllButOverlaps : Rows → Rows → Type 0
LeavesAllButOverlaps old new = new ≡ record old { overlaps = new.overlaps }

-- arrows and overlaps that trail follow the phases and the rings; no other row changes
pub record IsFollowing (now : ℕ) (s : Sensed) (plan : Plan) (old new : Rows) : Type 0 where
  pub seen : Surroundings
  pub seen_are : AreSeen s.intervals.green (is_some s.service) old.phases old.rings seen
  pub state : (lights : OverlapLights) → overlaps.IsSettled now (given_by now seen (omitted_in old.overlaps) lights) plan old.overlaps new.overlaps
  pub omitted : KeepsOmitted old.overlaps new.overlaps
  pub rest : new ≡ record old { overlaps = new.overlaps }

-- where the plan has none, nothing changes
abbrev pub IsSettled : ℕ → Sensed → Plan → Rows → Rows → Type 0
IsSettled now s plan old new = (HasNoneTimed plan × (new ≡ old)) ⊎ IsFollowing now s plan old new
