use Rattle.std.proofs.Common.{◌≡◌, ◌∙◌, ◌++◌, ◌∷◌, [], List, ap, arith, rules}
use Rattle.tsb_log_text.specs.declared.log.LogRow.{LogRow}
use Rattle.tsb_log_text.proofs.ReadLemmas.{skipped, malformed, out-of-order, taken}
use Rattle.tsb_log_text.proofs.read.step.Goals as goal

pub returns-then-is_skipped-clause-reads : goal.returns-then-is_skipped-clause-reads
returns-then-is_skipped-clause-reads c = λ lines. skipped c.args.form c.args.rows.now.items c.args.number c.args.last c.args.line.now lines (search rules)

pub returns-in_default-clause-reads : goal.returns-in_default-clause-reads
returns-in_default-clause-reads c = λ lines. malformed c.args.form c.args.number c.args.last c.args.line.now lines (search rules) (search rules)

pub returns-then-row-last-clause-reads : goal.returns-then-row-last-clause-reads
returns-then-row-last-clause-reads c = λ lines. out-of-order c.args.form c.args.number c.args.last c.args.line.now lines c.in-Some.row (search rules) (search rules) (omega arith)

pub returns-in_default-reserve-clause-reads : goal.returns-in_default-reserve-clause-reads
returns-in_default-reserve-clause-reads c =
    (c.in-Some.row, λ lines. taken c.args.form c.args.rows.now.items c.args.number c.args.last c.args.line.now lines c.in-Some.row (search rules) (search rules) (omega arith))

pub returns-clause-reads : goal.returns-clause-reads
returns-clause-reads c = λ lines.
    let now : c.push_reserved.new.self.items ≡ c.args.rows.now.items ++ c.in-Some.row ∷ [] = c.push_reserved.ensures.items ∙ ap (λ (v : List LogRow). v ++ c.in-Some.row ∷ []) c.reserve.ensures.items in
    rw now (taken c.args.form c.args.rows.now.items c.args.number c.args.last c.args.line.now lines c.in-Some.row (search rules) (search rules) (omega arith))
