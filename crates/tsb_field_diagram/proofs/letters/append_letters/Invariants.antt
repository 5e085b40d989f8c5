use Rattle.std.proofs.Common.{◌≡◌, ◌++◌, drop}
use Rattle.tsb_field_diagram.specs.Letters.{letters_text}
use Rattle.tsb_field_diagram.proofs.letters.append_letters.Given as goal

-- the letters so far, and those of the ends that are left, are all
abbrev pub invariant-loop-given : goal.invariant-loop-given
invariant-loop-given l =
    l.text.items ++ letters_text l.bands l.seconds l.last (drop l.given-index l.ends)
    ≡ l.initial.text.items ++ letters_text l.bands l.seconds l.last l.ends
