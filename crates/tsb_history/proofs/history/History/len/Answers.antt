use Rattle.std.proofs.Common.{◌∙◌, ap, sym, length}
use Rattle.tsb_history.proofs.PlaceLemmas.{length-changes_at}
use Rattle.tsb_history.proofs.history.History.len.Goals as goal

pub returns-clause-count : goal.returns-clause-count
returns-clause-count c = sym (length-changes_at c.self.inside.count c.self.inside.bytes.items (length c.self.inside.bytes.items)) ∙ ap (λ p. length p.records) c.self.view_is
