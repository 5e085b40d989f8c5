-- The built-in plan of eight phases with a schedule: each day operation is free from 00:00, and pattern 1 is selected at
-- 00:01. A clock is set 0.1 s before that.
use Rattle.std.proofs.Common.{◌≡◌, ℕ, ◌+◌, ◌*◌, true, false, List, [], ◌∷◌, ◌++◌, None, refl, inl}
use Rattle.tsb_types.specs.declared.clock_time.TheConstants.{DAY}
use Rattle.tsb_types.specs.Sets.{number_of_bits}
use Rattle.tsb_step.specs.tsb_plan.declared.object.Object.{Object}
use Rattle.tsb_step.specs.tsb_plan.declared.object.Object.TheVariants.{TimeBaseScheduleMonth, TimeBaseScheduleDay, TimeBaseScheduleDate, TimeBaseScheduleDayPlan, DayPlanMinute, DayPlanActionNumber, TimebaseAscPattern}
use Rattle.tsb_step.specs.tsb_plan.Acting.{action_at}
use Rattle.tsb_step.specs.tsb_plan.Holding.{holding, sevenths}
use Rattle.tsb_step.specs.tsb_plan.Plan.{Plan, with_values}
use Rattle.tsb_step.specs.tsb_plan.Quad.{quad}
use Rattle.tsb_step.specs.tsb_plan.Schedule.{has_schedule}
use Rattle.tsb_step.specs.declared.inputs.Input.{Input}
use Rattle.tsb_step.specs.declared.inputs.Input.TheVariants.{Clock, Pattern}
use Rattle.tsb_step.specs.Runs.{replay}
use Rattle.tsb_step.proofs.Examples.Scenes as scenes
use Rattle.tsb_dialog.specs.Said.{with_feed}
use Rattle.tsb_text.specs.Answers.{Setup, line_in, followers, next_tick, refused_after}
use Rattle.tsb_text.specs.Obeys.{news, nothing_besides, trail}
use Rattle.tsb_text.specs.declared.task.Task.TheVariants.{Ticks}
use Rattle.tsb_text.specs.recording.Leaves.{LeavesOf}

-- what a computed schedule opens
unfoldable pub opened : Unit {0}
unfolding scenes.opened action_at holding sevenths number_of_bits
opened = tt

-- entry 1 is of all days, and of day plan 1; of its events the first is at 00:00 and has action 1, the second at 00:01
abbrev pub entries : List (Object × ℕ × ℕ)
entries =
    (TimeBaseScheduleMonth, 1, 8190) ∷ (TimeBaseScheduleDay, 1, 254) ∷ (TimeBaseScheduleDate, 1, 65534) ∷ (TimeBaseScheduleDate, 33, 65535) ∷
    (TimeBaseScheduleDayPlan, 1, 1) ∷
    (DayPlanActionNumber, 1, 1) ∷ (DayPlanMinute, 2, 1) ∷ (DayPlanActionNumber, 2, 2) ∷
    (TimebaseAscPattern, 1, 254) ∷ (TimebaseAscPattern, 2, 1) ∷ []

abbrev pub scheduled : Plan
scheduled = with_values quad entries

-- 0.1 s before 00:01 of a day in January 2000
abbrev pub before_one : ℕ
before_one = 20 * DAY + 599

abbrev pub given : Setup
given = record { plan = scheduled; log = []; acts = true; is_wide = false }

-- the clock is set, and the pattern that follows that
abbrev pub is_set : List Input
is_set = Pattern 0 ∷ Clock before_one ∷ []

clock_selects_free : followers given [] (Clock before_one) ≡ Pattern 0 ∷ []
unfolding opened
clock_selects_free = refl

abbrev pub tick : Input
tick = next_tick given is_set

tick_selects_1 : followers given is_set tick ≡ Pattern 1 ∷ []
unfolding opened
tick_selects_1 = refl

-- the text of the tick and of what follows it
abbrev said : List ℕ
said =
    (news nothing_besides.tells given is_set tick ++ trail nothing_besides.tells given (tick ∷ is_set) (followers given is_set tick) (Pattern 1 ∷ tick ∷ is_set))
    ++ (with_feed (line_in given.is_wide (replay given.plan (tick ∷ is_set))) ++ (refused_after nothing_besides.echo None ++ []))

at_a_minute : LeavesOf given is_set (Ticks 1) None (Pattern 1 ∷ tick ∷ is_set)
unfolding opened
at_a_minute = (
  said,
  inl ([], None, Pattern 1 ∷ tick ∷ is_set, record { right = refl; leads = inl (refl, (refl, refl)); line = refl }, (refl, refl, refl)),
)

-- ## Nothing follows

abbrev first_tick : Input
first_tick = next_tick given []

has_no_clock : (replay scheduled (first_tick ∷ [])).start_moment ≡ None
unfolding opened
has_no_clock = refl

has_no_schedule : has_schedule (replay quad (Clock before_one ∷ [])).plan ≡ false
unfolding opened
has_no_schedule = refl
