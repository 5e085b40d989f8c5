use Rattle.std.proofs.Common.{◌≡◌, ◌∙◌, ◌≤◌, ℕ, List, ap, arith, length, map, min, take, take_all}
use Rattle.std.proofs.lemmas.List.{take_min}
use Rattle.tsb_words.specs.Shown.{safe}
use Rattle.tsb_program.proofs.told.shown.Goals as goal

pub returns-clause-text : goal.returns-clause-text
returns-clause-text c =
    let name : List ℕ = c.args.name.now in
    let least : c.min.result ≡ min 200 (length name) = c.min.ensures in
    let done : length (take c.min.result name) ≤ c.loop-byte.byte-index = omega (arith, c.loop-byte-test.false) in
    c.loop-byte.invariant.text
    ∙ ap (map safe) (take_all c.loop-byte.byte-index (take c.min.result name) done ∙ (ap (λ (n : ℕ). take n name) least ∙ take_min 200 name))
