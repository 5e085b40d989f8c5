use Rattle.std.proofs.Common.{◌≡◌, drop}
use Rattle.tsb_rules.specs.SequenceRules.{lists_once}
use Rattle.tsb_rules.proofs.rules.sequences.lists_once.Given as goal

abbrev pub invariant-loop-place : goal.invariant-loop-place
invariant-loop-place l =
    lists_once (drop l.place l.places) ≡ lists_once l.places
