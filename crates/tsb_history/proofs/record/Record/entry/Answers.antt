use Rattle.std.proofs.Common.{ℕ, ◌+◌, ◌*◌, ◌∙◌, ap, sym, slice_get, Some}
use Rattle.tsb_history.specs.Bytes.{two_at}
use Rattle.tsb_history.proofs.PlaceLemmas.{entry-there, entry-none}
use Rattle.tsb_history.proofs.record.Record.entry.Goals as goal

pub returns-then-index-self : goal.returns-then-index-self
returns-then-index-self c =
    ap (λ (n : ℕ). Some (n, c.four.result)) c.two.ensures
    ∙ ap (λ (n : ℕ). Some (two_at c.self.inside.bytes.now (c.self.inside.start + 6 * c.args.index), n)) c.four.ensures
    ∙ sym (entry-there c.self.inside.count c.self.inside.bytes.now c.self.inside.start c.args.index c.if-index-self.true)
    ∙ ap (λ r. slice_get r.entries c.args.index) c.self.view_is

pub returns-else-index-self : goal.returns-else-index-self
returns-else-index-self c =
    sym (entry-none c.self.inside.count c.self.inside.bytes.now c.self.inside.start c.args.index c.if-index-self.false) ∙ ap (λ r. slice_get r.entries c.args.index) c.self.view_is
