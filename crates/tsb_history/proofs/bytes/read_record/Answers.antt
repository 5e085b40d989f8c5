use Rattle.std.proofs.Common.{rules}
use Rattle.tsb_history.proofs.bytes.read_record.Goals as goal

pub of-requires-clause-whole : goal.of-requires-clause-whole
of-requires-clause-whole c = search rules fits 100
