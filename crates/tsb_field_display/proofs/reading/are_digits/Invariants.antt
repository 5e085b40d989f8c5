use Rattle.std.proofs.Common.{◌≡◌, ◌&&◌, nat_le, drop}
use Rattle.std.specs.List.{list_all}
use Rattle.tsb_field_display.proofs.reading.are_digits.Given as goal

-- all are where the rest are
abbrev pub invariant-loop-byte : goal.invariant-loop-byte
invariant-loop-byte l = list_all (λ b. nat_le 48 b && nat_le b 57) (drop l.byte-index l.field) ≡ list_all (λ b. nat_le 48 b && nat_le b 57) l.field
