use Rattle.std.proofs.Common.{◌≡◌, ◌∙◌, ◌∷◌, ℕ, List, ap, sym}
use Rattle.tsb_log_text.specs.RowLists.{ends_of_item, parts}
use Rattle.tsb_log_text.proofs.ListLemmas.{ends-many}
use Rattle.tsb_log_text.proofs.list_text.range_of.Goals as goal

pub returns-in-Some : goal.returns-in-Some
returns-in-Some c =
    let cut : parts 45 c.args.rest.now ≡ c.cut_at.result.0.now ∷ parts 45 c.in-Some._more.now = rw c.in-Some.is at c.cut_at.ensures.parts in
    sym (ap (λ (ps : List (List ℕ)). ends_of_item (c.args.low.now ∷ ps)) cut ∙ ends-many c.args.low.now c.cut_at.result.0.now 45 c.in-Some._more.now)
