use Rattle.std.proofs.Common.{length}
use Rattle.tsb_bench.proofs.WatchedLemmas.{IsAt}
use Rattle.tsb_bench.proofs.bench.Bench.when.Given as goal

-- the search stands where the records left lead back from
abbrev pub invariant-loop-change : goal.invariant-loop-change
invariant-loop-change l = record {
  at : IsAt l.fn.self l.fn.watch l.watched l.tick l.value l.records;
}

abbrev pub decreases-loop-change : goal.decreases-loop-change
decreases-loop-change l = length l.records
