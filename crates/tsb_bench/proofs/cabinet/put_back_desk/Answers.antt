use Rattle.std.proofs.Common.{rules}
use Rattle.tsb_bench.proofs.cabinet.put_back_desk.Goals as goal

pub returns-clause-cells : goal.returns-clause-cells
returns-clause-cells c = search rules fits 100
