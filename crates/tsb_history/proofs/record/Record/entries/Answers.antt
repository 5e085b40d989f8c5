use Rattle.std.proofs.Common.{◌∙◌, ℕ, ap, arith}
use Rattle.tsb_history.specs.Bytes.{entries_at}
use Rattle.tsb_history.proofs.EntryLemmas.{filled-within}
use Rattle.tsb_history.proofs.record.Record.entries.Goals as goal

pub of-requires-clause-whole : goal.of-requires-clause-whole
of-requires-clause-whole c =
    let all = filled-within c.self.inside.count c.self.inside.start c.self.inside.end c.self.invariant.1 in
    omega (arith, c.self.invariant.1, all)

-- they are as many as the record has
pub returns : goal.returns
returns c =
    c.of.ensures
    ∙ ap (λ (n : ℕ). entries_at n c.self.inside.bytes.now c.self.inside.start) (filled-within c.self.inside.count c.self.inside.start c.self.inside.end c.self.invariant.1)
    ∙ ap (λ r. r.entries) c.self.view_is
