use Rattle.std.proofs.Common.{◌≡◌, ◌∙◌, ◌≤◌, ℕ, List, ap, arith, length, map, min, take, take_all}
use Rattle.std.proofs.lemmas.Grind.{common_steps}
use Rattle.std.proofs.lemmas.List.{take_min}
use Rattle.tsb_words.specs.Shown.{safe}
use Rattle.tsb_words.proofs.shown.shown.Goals as goal

pub returns-clause-text : goal.returns-clause-text
returns-clause-text c =
    let word : List ℕ = c.args.word.now in
    let least : c.min.result ≡ min 40 (length word) = c.min.ensures in
    let done : length (take c.min.result word) ≤ c.loop-byte.byte-index = omega (arith, c.loop-byte-test.false) in
    c.loop-byte.invariant.text
    ∙ ap (map safe) (take_all c.loop-byte.byte-index (take c.min.result word) done ∙ (ap (λ (n : ℕ). take n word) least ∙ take_min 40 word))

pub loop-byte-preserved : goal.loop-byte-preserved
loop-byte-preserved c = grind (arith, common_steps)
