use Rattle.std.proofs.Common.{◌∙◌, ap, sym, length}
use Rattle.tsb_history.proofs.PlaceLemmas.{length-entries_at}
use Rattle.tsb_history.proofs.record.Record.len.Goals as goal

pub returns-clause-count : goal.returns-clause-count
returns-clause-count c = sym (length-entries_at c.self.inside.count c.self.inside.bytes.now c.self.inside.start) ∙ ap (λ r. length r.entries) c.self.view_is
