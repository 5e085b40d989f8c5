use Rattle.std.proofs.Common.{rules}
use Rattle.tsb_field_streams.proofs.filter.Filter.take_due.Goals as goal

pub returns-clause-takes : goal.returns-clause-takes
returns-clause-takes c = search rules fits 100
