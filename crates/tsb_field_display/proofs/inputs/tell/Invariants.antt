use Rattle.std.proofs.Common.{◌≡◌, ◌++◌}
use Rattle.tsb_types.specs.Sets.{has_number, size_of_numbers}
use Rattle.tsb_types.specs.Events.{told}
use Rattle.tsb_field_display.proofs.inputs.tell.Given as goal

-- what is told, with the rest, is all
abbrev pub invariant-loop-number : goal.invariant-loop-number
invariant-loop-number l =
    l.events.items ++ told l.tick l.code (has_number l.rest) ≡ l.fn.events.items ++ told l.tick l.code (has_number l.fn.numbers)

abbrev pub decreases-loop-number : goal.decreases-loop-number
decreases-loop-number l = size_of_numbers l.rest
