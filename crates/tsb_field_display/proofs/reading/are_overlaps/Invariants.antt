use Rattle.std.proofs.Common.{◌≡◌, drop, codes}
use Rattle.tsb_field_display.specs.Reading.{is_spelled}
use Rattle.tsb_field_display.proofs.reading.are_overlaps.Given as goal

-- all are where the rest are
abbrev pub invariant-loop-letter : goal.invariant-loop-letter
invariant-loop-letter l = is_spelled (codes "-RYGPF") (drop l.letter-index l.letters) ≡ is_spelled (codes "-RYGPF") l.letters
