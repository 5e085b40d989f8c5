-- The timers of a phase as they were given, and what its green depends on, as phase timing has them.
use Rattle.std.specs.Prelude.{not, false, None}
use Rattle.tsb_step.specs.tsb_cells.Timer.{is_on}
use Rattle.tsb_step.specs.tsb_phase.Phase.{Phase, Given, as_read}
use Rattle.tsb_phase.specs.declared.told.PhaseTimes.{PhaseTimes}
use Rattle.tsb_status.specs.declared.times.GreenFound.{GreenFound}

-- the phase, apart from how its last green ended
abbrev pub phase_by : PhaseTimes → Phase
phase_by x = record {
  interval = x.interval;
  timer = x.timer;
  pedestrian = x.pedestrian;
  pedestrian_timer = x.pedestrian_timer;
  passage = x.passage;
  conflict = x.conflict;
  reduction = x.reduction;
  gapped = x.gapped;
  forced = x.forced;
  red_revert = x.red_revert;
  running_maximum = x.running_maximum;
  last_ending = None;
}

-- as the next tick reads it
abbrev pub read_by : PhaseTimes → Phase
read_by x = as_read (phase_by x)

-- what phase timing would be given again of this phase; that it may walk again is part of no time that is left
abbrev pub given_by : GreenFound → PhaseTimes → Given
given_by found x = record {
  output = λ p. not (is_on x.passage);
  conflict = λ p. is_on x.conflict;
  callable = λ p. false;
  pedestrian_call = λ p. false;
  count = λ p. found.count;
  runs = found.runs;
  service = found.service;
  hold = λ p. found.is_held;
  must_end = λ p. found.must_end;
  forced = λ p. x.forced;
  recycle = λ p. false;
}
