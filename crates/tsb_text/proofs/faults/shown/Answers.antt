use Rattle.std.proofs.Common.{◌≡◌, ◌∙◌, ◌≤◌, ℕ, List, ap, arith, length, map, min, take, take_all}
use Rattle.std.proofs.lemmas.List.{take_min}
use Rattle.tsb_text.specs.Faults.{shown_byte}
use Rattle.tsb_text.proofs.faults.shown.Goals as goal

pub returns-clause-text : goal.returns-clause-text
returns-clause-text c =
    let line : List ℕ = c.args.line.now in
    let least : c.min.result ≡ min 200 (length line) = c.min.ensures in
    let done : length (take c.min.result line) ≤ c.loop-byte.byte-index = omega (arith, c.loop-byte-test.false) in
    c.loop-byte.invariant.text
    ∙ ap (map shown_byte) (take_all c.loop-byte.byte-index (take c.min.result line) done ∙ (ap (λ (n : ℕ). take n line) least ∙ take_min 200 line))
