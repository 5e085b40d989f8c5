use Rattle.std.proofs.Common.{◌≡◌, take}
use Rattle.tsb_plan_notes.specs.PhaseLists.{listed_in}
use Rattle.tsb_plan_notes.proofs.phase_list.listed_in.Given as goal

abbrev pub invariant-loop-byte : goal.invariant-loop-byte
invariant-loop-byte l = l.listed ≡ listed_in (take l.byte-index l.text)
