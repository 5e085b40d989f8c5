-- Quiet ticks, in which nothing happens but time: what their records leave out.
use Rattle.std.specs.Prelude.{◌≡◌, ℕ, ◌+◌, is_some, if◌then◌else◌}
use Rattle.tsb_detect.specs.Detector as detector
use Rattle.tsb_detect.specs.Detector.{Detector}
use Rattle.tsb_phase.specs.Phase as phase
use Rattle.tsb_preempt.specs.Preempts as preempts
use Rattle.tsb_overlap.specs.Overlap as overlap
use Rattle.tsb_step.specs.State.{State}

-- each detector's timers stayed Off or ran on
abbrev pub detectors_waited : (ℕ → Detector) → ℕ → Detector
detectors_waited was d = if detector.is_detector d then detector.as_read (was d) else was d

-- the state once a tick has passed in which each timer stayed Off or went from On n to On (n + 1), and nothing else
-- changed except the tick number; the timers of a controller that has tripped have stopped
abbrev pub waited : State → State
waited s =
    if is_some s.trip then record s { now = s.now + 1 }
    else record s {
      now = s.now + 1;
      detectors = detectors_waited s.detectors;
      phases = λ p. phase.as_read (s.phases p);
      preempts = preempts.as_read s.preempts;
      overlaps = λ o. overlap.as_read (s.overlaps o);
    }

-- the tick between two states is quiet
abbrev pub IsQuiet : State → State → Type 0
IsQuiet before after = after ≡ waited before
