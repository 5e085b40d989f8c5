use Rattle.tsb_lines.proofs.ShortLemmas.{said, then}
use Rattle.tsb_status_text.proofs.edits.push_rule.Goals as goal

pub returns-in-Some : goal.returns-in-Some
returns-in-Some c = rw c.in-Some.is (then c.push-in-Some.ensures.line (then (said c.rule_name.ensures c.push-in-Some-2.ensures.line) c.push-in-Some-3.ensures.line))
