-- Why a green ends, where no preempt ends it: by its gap, by its maximum or by its force-off, of which the first that
-- applies is named. That is the order of the Indiana enumerations (gap out, max out, force off).
--
-- `w` is the phase as the tick reads it.
use Rattle.std.specs.Prelude.{ℕ, Bool, if◌then◌else◌, Option, Some, None}
use Rattle.tsb_objects.specs.tsb_plan.Plan.{Plan}
use Rattle.tsb_phase.specs.declared.cause.Cause.{Cause}
use Rattle.tsb_phase.specs.declared.cause.Cause.TheVariants.{Gap, Maximum, ForceOff}
use Rattle.tsb_phase.specs.Phase.{Phase, Given, held_of}
use Rattle.tsb_phase.specs.Green.{is_gapped, is_by_gap, has_maxed_out, forced_latch}
use Rattle.tsb_phase.specs.Ready.{needs_forced}

-- by its force-off, if that has come
abbrev pub by_force_off : Bool → Option Cause
by_force_off forced = if forced then Some ForceOff else None

-- the first of gap, maximum and force-off
abbrev pub first_cause : Plan → Given → ℕ → Phase → Option Cause
first_cause plan given p w =
    if is_by_gap plan given p (is_gapped plan given p (held_of w)) then Some Gap else
    (if has_maxed_out plan given p (held_of w) w.running_maximum then Some Maximum else
    by_force_off (forced_latch plan given p (held_of w)))

-- of a coordinated phase, while no preempt is in service, its force-off alone
abbrev pub cause : Plan → Given → ℕ → Phase → Option Cause
cause plan given p w = if needs_forced given p then by_force_off (forced_latch plan given p (held_of w)) else first_cause plan given p w
