-- When nothing happens to the preempts: ticks in which their cells can stay as they are, and what they then ask.
use Rattle.std.specs.Prelude.{◌≡◌, ℕ, ◌+◌, ◌<◌, ◌≤◌, Bool, false, ◌&&◌, List, slice_index, Option, Some, None}
use Rattle.tsb_types.specs.declared.flow.Intervals.{Intervals}
use Rattle.tsb_types.specs.declared.interval.Interval.{Interval}
use Rattle.tsb_types.specs.declared.number_set.NumberSet.{NumberSet}
use Rattle.tsb_types.specs.declared.row.Row.{Row}
use Rattle.tsb_types.specs.Flow.{target_of}
use Rattle.tsb_types.specs.Sets.{has, has_number}
use Rattle.tsb_objects.specs.tsb_plan.Plan.{Plan}
use Rattle.tsb_preempt.specs.declared.orders.PreemptOrders.{PreemptOrders}
use Rattle.tsb_preempt.specs.declared.serving.Serving.{Serving}
use Rattle.tsb_preempt.specs.Service.{Service, ends_dwell, moved}
use Rattle.tsb_preempt.specs.Preempts.{is_dwell, is_outside, may_begin, wanted_by}
use Rattle.tsb_preempt.specs.Cells.{preempts_in}
use Rattle.tsb_preempt.specs.Promises.{IsTicked, AreOrdered}
use Rattle.tsb_preempt.specs.Rows.{serving_of, requests_by}

-- ## Of the parts of a tick

-- the service does not move, and Dwell does not end
pub record StaysInStage (plan : Plan) (interval : ℕ → Interval) (input : Bool) (s : Service) : Type 0 where
  pub moves : moved plan interval input s ≡ Some s
  pub dwells : (is_dwell s.stage && ends_dwell plan input s) ≡ false

-- where no preempt is in service there is nothing that could move
abbrev pub StaysInService : Plan → (ℕ → Interval) → (ℕ → Bool) → Option Service → Type 0
StaysInService plan interval input None = Unit {0}
StaysInService plan interval input (Some s) = StaysInStage plan interval (input s.preempt) s

-- preempt n does not request at tick t, or its service may not begin
abbrev pub IsWaiting : ℕ → ℕ → Plan → List ℕ → NumberSet → NumberSet → Option Serving → ℕ → Type 0
IsWaiting now t plan cells inputs spent was n =
    (may_begin (serving_of now was) n && requests_by t plan n (has_number inputs n) (has_number spent n) (slice_index cells (1 + n))) ≡ false

-- ## Of ticks

-- orders that stay: they ask what the stage in service asks, and no service ended
pub record AreStanding (now : ℕ) (plan : Plan) (cells : List ℕ) (orders : PreemptOrders) : Type 0 where
  pub target : target_of orders.target ≡ wanted_by plan (preempts_in now cells).service
  pub must_end : (p : ℕ) → 1 ≤ p → p ≤ 16 → has orders.must_end p ≡ is_outside (target_of orders.target) p
  pub ended : orders.ended ≡ false

-- `due(now, row, intervals, plan)`, clause `quiet`: in each tick after `now` and before it that has these inputs and
-- intervals, cells that stay are what the tick makes of them
abbrev pub AreQuietUntil : ℕ → Row → Intervals → Plan → List ℕ → ℕ → Type 0
AreQuietUntil now row intervals plan cells due = (t : ℕ) → now < t → t < due → IsTicked t row intervals plan cells cells

-- and clause `orders`: orders that stay are what it answers
abbrev pub OrdersStandUntil : ℕ → Row → Intervals → Plan → List ℕ → ℕ → Type 0
OrdersStandUntil now row intervals plan cells due = (t : ℕ) → now < t → t < due → (orders : PreemptOrders) →
    AreStanding now plan cells orders → AreOrdered t row intervals plan cells orders
