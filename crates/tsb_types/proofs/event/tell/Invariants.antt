use Rattle.std.proofs.Common.{◌≡◌, ◌+◌, ◌≤◌, ◌++◌, length}
use Rattle.tsb_types.specs.Sets.{has_number, size_of_numbers}
use Rattle.tsb_types.specs.Events.{told, numbers_with}
use Rattle.arrayvec.specs.ArrayVec.{array_vec_len}
use Rattle.tsb_types.proofs.event.tell.Given as goal

-- what is told, with the rest, is all; and there is room for the rest
abbrev pub invariant-loop-number : goal.invariant-loop-number
invariant-loop-number g l = record {
  told : l.events.items ++ told l.tick l.code (has_number l.rest) ≡ l.fn.events.items ++ told l.tick l.code (has_number l.fn.numbers);
  room : array_vec_len l.events + length (numbers_with (has_number l.rest)) ≤ array_vec_len l.fn.events + 16;
}

abbrev pub decreases-loop-number : goal.decreases-loop-number
decreases-loop-number g l = size_of_numbers l.rest
