use Rattle.std.proofs.Common.{◌≡◌, drop}
use Rattle.tsb_rules.specs.SequenceRules.{zeros_last}
use Rattle.tsb_rules.proofs.rules.sequences.zeros_last.Given as goal

abbrev pub invariant-loop-place : goal.invariant-loop-place
invariant-loop-place l =
    zeros_last (drop l.place l.places) ≡ zeros_last l.places
