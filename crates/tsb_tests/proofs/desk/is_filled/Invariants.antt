use Rattle.std.proofs.Common.{◌≡◌, true}
use Rattle.tsb_transact.specs.Layer.{is_open}
use Rattle.tsb_tests.proofs.desk.is_filled.Given as goal

abbrev pub invariant-loop-index : goal.invariant-loop-index
invariant-loop-index l = record { opened : is_open l.desk ≡ true }
