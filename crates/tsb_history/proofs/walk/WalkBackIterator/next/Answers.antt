use Rattle.std.proofs.Common.{◌≡◌, ◌≤◌, ◌-◌, ℕ, length, subst, sym, arith}
use Rattle.tsb_history.specs.Bytes.{start_at, IsLaid}
use Rattle.tsb_history.proofs.PlaceLemmas.{rest-laid}
use Rattle.tsb_history.proofs.walk.WalkBackIterator.next.Goals as goal

-- the records before this one end where it begins
pub invariant_of-self : goal.invariant_of-self
invariant_of-self c =
    let start : c.read_record-change.result.1 ≡ start_at c.self.inside.bytes.now c.self.inside.end = c.read_record-change.ensures.start in
    let within : c.self.inside.end ≤ length c.self.inside.bytes.now = c.self.invariant.0 in (
      omega (arith, start, within),
      subst (λ (at : ℕ). IsLaid (c.self.inside.count - 1) c.self.inside.bytes.now at) (sym start) (rest-laid c.self.inside.count c.self.inside.bytes.now c.self.inside.end c.if-self-eq0.false c.self.invariant.1),
    )
