use Rattle.std.proofs.Common.{◌≡◌, ◌==◌, drop}
use Rattle.std.specs.List.{list_all}
use Rattle.tsb_field_display.proofs.reading.are_dashes.Given as goal

-- all are where the rest are
abbrev pub invariant-loop-byte : goal.invariant-loop-byte
invariant-loop-byte l = list_all (λ b. b == 45) (drop l.byte-index l.field) ≡ list_all (λ b. b == 45) l.field
