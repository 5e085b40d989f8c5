use Rattle.std.proofs.Common.{◌≡◌, ℕ, ◌+◌, ◌-◌, ◌*◌, arith, sym, ap, ◌∙◌, take, drop, length, get_or, List, true, refl}
use Rattle.std.proofs.lemmas.List.{get_or-drop, get_or-take, length-take, length-drop}
use Rattle.std.proofs.lemmas.Bool.Decides.{nat_tests}
use Rattle.tsb_plan.specs.PlanOf.{plan_of}
use Rattle.tsb_plan.specs.declared.object.Object.TheVariants.{SequenceData}
use Rattle.tsb_plan.specs.Objects.{value_in, has_index, first_cell}
use Rattle.tsb_types.proofs.RunLemmas.{map-run_from}
use Rattle.tsb_plan.proofs.plan.Plan.sequence.Goals as goal

pub returns-clause-places : goal.returns-clause-places
unfolding plan_of
returns-clause-places c =
    let values : List ℕ = c.args.self.now.values in
    let before : ℕ = 32 * (c.args.sequence - 1) + 16 * (c.args.ring - 1) in
    let from : ℕ = c.cell-end.result + 1 - 16 in
    let count : ℕ = c.cell-end.result + 1 - from in
    let at : from ≡ first_cell SequenceData + before = grind (arith, c.cell-end.ensures.at, c.places_before.ensures.same) in
    let sixteen : count ≡ 16 = grind (arith, c.cell-end.ensures.at) in
    let places : List ℕ = take count (drop from values) in
    let full : length places ≡ 16 = grind (arith, length-take, length-drop, c.cell-end.ensures.within, at, sixteen) in
    map-run_from (λ (k : ℕ). value_in values SequenceData (before + k)) 1 16 places full
    (λ k below.
    let inside : has_index SequenceData (before + (1 + k)) ≡ true = grind (arith, nat_tests, c.places_before.ensures.same, c.places_before.ensures.within, below) in
    let read : get_or places k 0 ≡ get_or values (from + k) 0 = get_or-take count (drop from values) k 0 (omega arith) ∙ get_or-drop from values k 0 in
    read ∙ (let e : from + k ≡ first_cell SequenceData + (before + (1 + k) - 1) = omega arith in ap (λ (i : ℕ). get_or values i 0) e)
    ∙ sym (rw inside refl))
