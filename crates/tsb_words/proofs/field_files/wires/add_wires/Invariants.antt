use Rattle.std.proofs.Common.{◌≡◌, map, drop, Some}
use Rattle.tsb_words.specs.Wires.{joined, wires_of}
use Rattle.tsb_words.proofs.field_files.wires.add_wires.Given as goal

-- the wires so far and those of what is left are those before and those of all
abbrev pub invariant-loop-word : goal.invariant-loop-word
invariant-loop-word l =
    joined (Some l.wires.items) (wires_of l.kind (map (λ word. word.now) (drop l.word-index l.words)))
    ≡ joined (Some l.initial.wires.items) (wires_of l.kind (map (λ word. word.now) l.words))
