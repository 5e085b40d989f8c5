use Rattle.std.proofs.Common.{ℕ, ◌-◌, ◌≤◌, subst}
use Rattle.tsb_transact.proofs.PlaceLemmas.{found-place}
use Rattle.tsb_transact.proofs.places.id_of.Goals as goal

pub returns-then-place-before : goal.returns-then-place-before
returns-then-place-before c =
    let before : ℕ = c.first_cell-before.result in
    found-place c.args.object c.args.place before c.first_cell-before.ensures c.if-before-place.true
    (subst (λ (n : ℕ). c.args.place - before ≤ n) c.indices.ensures c.if-place-before.true)
