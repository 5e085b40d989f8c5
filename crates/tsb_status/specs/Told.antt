-- What waits are found from, of phases as they are given.
use Rattle.std.specs.Prelude.{ℕ, Bool, ◌&&◌, if◌then◌else◌, None, is_none}
use Rattle.tsb_step.specs.tsb_types.Intervals.{is_green}
use Rattle.tsb_step.specs.tsb_plan.Plan.{Plan, red_revert}
use Rattle.tsb_phase.specs.declared.told.PhaseTimes.{PhaseTimes}
use Rattle.tsb_phase.specs.Ready.{is_over, red_revert_passed}
use Rattle.tsb_step.specs.Waits.{clearance_left_in, left, part_lack}
use Rattle.tsb_status.specs.declared.found.Next.{Next}
use Rattle.tsb_status.specs.declared.found.Served.{Served}
use Rattle.tsb_status.specs.declared.found.Waiting.{Waiting}
use Rattle.tsb_status.specs.declared.rings.PhaseFound.{PhaseFound}
use Rattle.tsb_status.specs.Times.{given_by, phase_by, read_by}

-- a phase in service
abbrev pub served_as : Plan → PhaseFound → Served
served_as plan q = record {
  phase = q.phase;
  is_green = is_green q.times.interval;
  is_over = is_over plan q.phase (read_by q.times) && is_none q.holder;
  left = clearance_left_in plan q.phase q.times.timer q.times.interval;
  trail = if is_over plan q.phase (read_by q.times) then q.holder else None;
  lack = part_lack plan (given_by q.found q.times) q.phase (phase_by q.times) q.times.pedestrian;
}

-- a phase that a ring starts next
abbrev pub next_as : Plan → ℕ → PhaseTimes → Next
next_as plan p x = record {
  phase = p;
  is_reverted = red_revert_passed plan p (read_by x);
  red_revert = left (red_revert plan p) x.red_revert;
}

-- a phase that waits
abbrev pub waiting_as : Plan → ℕ → Bool → PhaseTimes → Waiting
waiting_as plan p is_omitted x = record {
  phase = p;
  is_omitted = is_omitted;
  is_reverted = red_revert_passed plan p (read_by x);
  red_revert = left (red_revert plan p) x.red_revert;
}
