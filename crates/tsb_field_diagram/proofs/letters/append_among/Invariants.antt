use Rattle.std.proofs.Common.{◌≡◌, ◌++◌, drop, length}
use Rattle.tsb_field_diagram.specs.Letters.{letter_among}
use Rattle.tsb_field_diagram.proofs.letters.append_among.Given as goal

-- the letters so far, and those in the bands that are left, are all
abbrev pub invariant-loop-place : goal.invariant-loop-place
invariant-loop-place l =
    l.text.items ++ letter_among (length l.bands) l.seconds l.given l.place (drop l.place l.bands)
    ≡ l.initial.text.items ++ letter_among (length l.bands) l.seconds l.given 0 l.bands
