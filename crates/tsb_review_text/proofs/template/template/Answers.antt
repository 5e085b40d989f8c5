use Rattle.std.proofs.Common.{rules}
use Rattle.tsb_review_text.proofs.template.template.Goals as goal

pub returns-in-A9 : goal.returns-in-A9
returns-in-A9 c = search rules fits 100
