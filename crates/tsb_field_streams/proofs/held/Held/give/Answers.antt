use Rattle.std.proofs.Common.{rules}
use Rattle.tsb_field_streams.proofs.held.Held.give.Goals as goal

pub returns-clause-first : goal.returns-clause-first
returns-clause-first c = search rules fits 100

pub returns-clause-rest : goal.returns-clause-rest
returns-clause-rest c = search rules fits 100
