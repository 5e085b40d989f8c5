use Rattle.std.proofs.Common.{rules}
use Rattle.tsb_review_text.proofs.breach_template.breach_template.Goals as goal

pub returns-in-K11 : goal.returns-in-K11
returns-in-K11 c = search rules fits 100

pub returns-in-K29Yellow : goal.returns-in-K29Yellow
returns-in-K29Yellow c = search rules fits 100

pub returns-in-K28Turns : goal.returns-in-K28Turns
returns-in-K28Turns c = search rules fits 100
