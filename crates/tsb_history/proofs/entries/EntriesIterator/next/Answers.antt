use Rattle.std.proofs.Common.{◌≡◌, ◌∷◌, ◌∙◌, ◌+◌, ℕ, List, sym, ap, ap₂, rules}
use Rattle.tsb_history.specs.Bytes.{entries_at, entries_within}
use Rattle.tsb_history.proofs.EntryLemmas.{one-within}
use Rattle.tsb_history.proofs.entries.EntriesIterator.next.Goals as goal

-- the entry at this place, and those behind it
pub returns-clause-steps : goal.returns-clause-steps
returns-clause-steps c =
    let more : entries_within c.self.inside.at c.self.inside.end ≡ _ = one-within c.self.inside.at c.self.inside.end c.self.invariant.0 c.if-self.false in
    let rest : List (ℕ × ℕ) = entries_at (entries_within (c.self.inside.at + 6) c.self.inside.end) c.self.inside.bytes.now (c.self.inside.at + 6) in
    sym c.self.view_is ∙ ap (λ (n : ℕ). entries_at n c.self.inside.bytes.now c.self.inside.at) more
    ∙ ap₂ (λ (cell old : ℕ). (cell, old) ∷ rest) (sym c.two.ensures) (sym c.four.ensures)

pub returns-clause-goes : goal.returns-clause-goes
returns-clause-goes c = let steps = returns-clause-steps c in search rules
