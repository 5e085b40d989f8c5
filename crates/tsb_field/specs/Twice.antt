-- The lines of vehicle detectors whose delay and extension act twice: in the controller that logs its detectors' outputs, and
-- in the bench that takes these for inputs.
use Rattle.std.specs.Prelude.{ℕ, zero, suc, ◌/◌, ◌%◌, ◌==◌, ◌&&◌, Bool, List, [], ◌++◌, if◌then◌else◌, codes, decimal}
use Rattle.std.specs.List.{list_any}
use Rattle.tsb_field_log.specs.Wires.{leads_to}
use Rattle.tsb_field_log.specs.declared.inputs.InputKind.TheVariants.{Vehicle}
use Rattle.tsb_field_log.specs.declared.inputs.Wire.{Wire}
use Rattle.tsb_types.specs.declared.limits.TheConstants.{VEHICLE_DETECTORS}
use Rattle.tsb_text.specs.tsb_plan.Parts.{detector_delay, detector_extend}
use Rattle.tsb_text.specs.tsb_plan.Plan.{Plan}

-- the line of a detector with so long a delay, in tenths of a second, and no extension
abbrev pub delay_line : ℕ → ℕ → List ℕ
delay_line detector delay =
    codes "detector " ++ (decimal detector ++ (codes ": its delay of " ++ (decimal (delay / 10) ++ (codes "." ++ (decimal (delay % 10)
    ++ codes " s acts twice\n")))))

-- the line of a detector with so long an extension, and no delay
abbrev pub extend_line : ℕ → ℕ → List ℕ
extend_line detector extend =
    codes "detector " ++ (decimal detector ++ (codes ": its extension of " ++ (decimal (extend / 10) ++ (codes "." ++ (decimal (extend % 10)
    ++ codes " s acts twice\n")))))

-- the line of a detector with both
abbrev pub both_line : ℕ → ℕ → ℕ → List ℕ
both_line detector delay extend =
    codes "detector " ++ (decimal detector ++ (codes ": its delay of " ++ (decimal (delay / 10) ++ (codes "." ++ (decimal (delay % 10)
    ++ (codes " s and its extension of " ++ (decimal (extend / 10) ++ (codes "." ++ (decimal (extend % 10) ++ codes " s act twice\n")))))))))

-- what is told of a detector with this delay and this extension: nothing where it has neither
abbrev pub acts_twice : ℕ → ℕ → ℕ → List ℕ
acts_twice detector delay extend =
    if delay == 0 && extend == 0 then []
    else if extend == 0 then delay_line detector delay
    else if delay == 0 then extend_line detector extend
    else both_line detector delay extend

-- one of the wires leads to this vehicle detector
abbrev pub is_led : List Wire → ℕ → Bool
is_led wires detector = list_any (λ wire. leads_to wire Vehicle detector) wires

-- what is told of a detector of this plan: nothing where no wire leads to it
abbrev pub twice_line : List Wire → Plan → ℕ → List ℕ
twice_line wires plan detector =
    if is_led wires detector then acts_twice detector (detector_delay plan detector) (detector_extend plan detector) else []

-- what is told of so many detectors, from this one on
unfoldable pub twice_lines : List Wire → Plan → ℕ → ℕ → List ℕ
twice_lines wires plan detector zero = []
twice_lines wires plan detector (suc count) = twice_line wires plan detector ++ twice_lines wires plan (suc detector) count

-- what is told of all vehicle detectors
abbrev pub twice_text : List Wire → Plan → List ℕ
twice_text wires plan = twice_lines wires plan 1 VEHICLE_DETECTORS
