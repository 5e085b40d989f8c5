use Rattle.std.proofs.Common.{◌∙◌, ap, length}
use Rattle.tsb_history.specs.Bytes.{changes_at}
use Rattle.tsb_history.specs.History.{size_of}
use Rattle.tsb_history.proofs.ByteLemmas.{length-bytes_of}
use Rattle.tsb_history.proofs.history.History.bytes.Goals as goal

pub returns-clause-size : goal.returns-clause-size
returns-clause-size c =
    ap length (c.as_slice.ensures.value ∙ c.self.invariant.spelled)
    ∙ length-bytes_of (changes_at c.self.inside.count c.self.inside.bytes.items (length c.self.inside.bytes.items))
    ∙ ap (λ p. size_of p.records) c.self.view_is
