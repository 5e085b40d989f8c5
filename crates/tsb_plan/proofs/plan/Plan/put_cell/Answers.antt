use Rattle.std.proofs.Common.{◌≡◌, ℕ, ◌<◌, List, get_or, slice_set, arith}
use Rattle.std.proofs.lemmas.Grind.{common_steps}
use Rattle.std.proofs.lemmas.List.{get_or-set_same}
use Rattle.tsb_plan.proofs.RangeLemmas.{cell-fits}
use Rattle.tsb_plan.proofs.plan.Plan.put_cell.Goals as goal

pub overflow_cast-self : goal.overflow_cast-self
overflow_cast-self c =
    let k : ℕ = c.args.k in
    let cells : List ℕ = slice_set c.args.self.now.values k c.args.value in
    let low : get_or cells k 0 < 65536 = cell-fits cells k c.requires.ranged c.requires.within in
    let here : get_or cells k 0 ≡ c.args.value =
    get_or-set_same c.args.self.now.values k c.args.value 0 (omega (arith, c.args.self.now.full, c.requires.within)) in
    omega (arith, low, here)

pub invariant_of-self : goal.invariant_of-self
invariant_of-self c = grind (arith, common_steps)

pub returns : goal.returns
returns c = grind (arith, common_steps)
