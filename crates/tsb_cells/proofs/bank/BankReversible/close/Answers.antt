use Rattle.std.proofs.Common.{◌≡◌, ◌∙◌, ◌++◌, ◌<◌, ℕ, List, arith, length, ap}
use Rattle.std.proofs.lemmas.List.Elements.{All-same}
use Rattle.tsb_cells.specs.Bank.{kept_of}
use Rattle.tsb_cells.specs.Diff.{diff, shifted}
use Rattle.tsb_cells.proofs.DiffLemmas.{AreWithin-diff}
use Rattle.tsb_cells.proofs.PartLemmas.{shifted-zero}
use Rattle.tsb_cells.proofs.bank.BankReversible.close.Goals as goal

pub returns-clause-changes : goal.returns-clause-changes
returns-clause-changes g c =
    c.close_onto.ensures.changes ∙ ap (λ (es : List (ℕ × ℕ)). es ++ shifted 0 (diff (kept_of c.args.self.now) c.args.self.now.cells)) c.new-changes.ensures
    ∙ shifted-zero (diff (kept_of c.args.self.now) c.args.self.now.cells)

pub returns-clause-in_range : goal.returns-clause-in_range
returns-clause-in_range g c =
    All-same (λ (e : ℕ × ℕ). e.0 < g.row.N) c.close_onto.new.out.items _ (returns-clause-changes g c)
    (AreWithin-diff g.row.N (kept_of c.args.self.now) c.args.self.now.cells (let full : length (kept_of c.args.self.now) ≡ g.row.N = c.args.self.now.kept_full in omega arith))
