use Rattle.std.proofs.Common.{◌≡◌, ◌-◌, ◌++◌}
use Rattle.tsb_field_streams.specs.Devices.{devices_from}
use Rattle.tsb_field_streams.proofs.filter.devices.append_names.Given as goal

-- the names so far, and those in the places that are left, are all
abbrev pub invariant-loop-place : goal.invariant-loop-place
invariant-loop-place l =
    l.text.items ++ devices_from l.devices l.place (8 - l.place) ≡ l.initial.text.items ++ devices_from l.devices 0 8
