use Rattle.std.proofs.Common.{◌≡◌, ◌+◌, ◌-◌, ◌++◌}
use Rattle.tsb_field_log.specs.Mapping.{own_wires}
use Rattle.tsb_field_log.proofs.mapping.push_own_wires.Given as goal

-- the wires so far, and those of the channels that are left, are all
abbrev pub invariant-loop-before : goal.invariant-loop-before
invariant-loop-before l =
    l.all.items ++ own_wires l.mapped l.kind (l.before + 1) (l.most - l.before) ≡ l.initial.all.items ++ own_wires l.mapped l.kind 1 l.most
