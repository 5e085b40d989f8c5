use Rattle.std.proofs.Common.{◌∙◌, ◌+◌, ◌∷◌, ℕ, List, ap, arith, rules, sym, take}
use Rattle.tsb_log_text.specs.RowLists.{parts}
use Rattle.tsb_log_text.proofs.ListLemmas.{parts-cut-at, parts-none, slice-behind}
use Rattle.tsb_log_text.proofs.list_text.cut_at.Goals as goal

pub returns-then-end-bytes-clause-parts : goal.returns-then-end-bytes-clause-parts
returns-then-end-bytes-clause-parts c = parts-none _ _ (λ k lt. c.loop-end.invariant.clear k (omega (arith, lt)))

pub returns-else-end-bytes-clause-parts : goal.returns-else-end-bytes-clause-parts
returns-else-end-bytes-clause-parts c =
    parts-cut-at _ _ c.loop-end.end (omega arith) c.loop-end.invariant.clear (search rules)
    ∙ ap (λ (rest : List ℕ). take c.loop-end.end c.args.bytes.now ∷ parts c.args.at rest) (sym (slice-behind (c.loop-end.end + 1) c.args.bytes.now))
