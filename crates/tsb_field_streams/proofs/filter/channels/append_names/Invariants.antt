use Rattle.std.proofs.Common.{◌≡◌, ◌-◌, ◌++◌}
use Rattle.tsb_field_streams.specs.Channels.{channels_from}
use Rattle.tsb_field_streams.proofs.filter.channels.append_names.Given as goal

-- the names so far, and those in the places that are left, are all
abbrev pub invariant-loop-place : goal.invariant-loop-place
invariant-loop-place l =
    l.text.items ++ channels_from l.channels l.place (8 - l.place) ≡ l.initial.text.items ++ channels_from l.channels 0 8
