use Rattle.std.proofs.Common.{rules}
use Rattle.tsb_breaches.proofs.fault.RuleFault.rule.Goals as goal

pub returns-in-K9 : goal.returns-in-K9
returns-in-K9 c = search rules fits 100
