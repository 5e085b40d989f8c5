use Rattle.std.proofs.Common.{◌≡◌, ℕ, ◌+◌, ◌-◌, ◌<◌, List, length, take, drop, arith, sym, ap, ◌∙◌}
use Rattle.std.proofs.lemmas.List.{take_all, length-drop}
use Rattle.tsb_rules.specs.SequenceRules.{is_zeros}
use Rattle.tsb_rules.proofs.RuleLemmas.{zeros-at}
use Rattle.tsb_rules.proofs.rules.sequences.zeros_last.Goals as goal

pub returns-then-places-place-eq0 : goal.returns-then-places-place-eq0
returns-then-places-place-eq0 c =
    let k : ℕ = c.loop-place.place in
    let places : List ℕ = c.args.places.now in
    let below : k < length places = omega (arith, c.loop-place-test.true) in
    let whole : take (length places - (k + 1)) (drop (k + 1) places) ≡ drop (k + 1) places =
    take_all (length places - (k + 1)) (drop (k + 1) places) (omega (arith, length-drop (k + 1) places)) in
    c.are_zeros.ensures ∙ ap is_zeros whole ∙ sym (zeros-at places k below (omega (arith, c.if-places-place-eq0.true)))
    ∙ c.loop-place.invariant
