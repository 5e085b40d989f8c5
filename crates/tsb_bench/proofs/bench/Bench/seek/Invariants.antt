use Rattle.std.proofs.Common.{◌≡◌, ◌≤◌, length}
use Rattle.tsb_step.specs.Past.{sought}
use Rattle.tsb_bench.specs.Held.{state_of, memory}
use Rattle.tsb_bench.proofs.bench.Bench.seek.Given as goal

-- what is sought from here is what was sought
abbrev pub invariant-loop-self : goal.invariant-loop-self
invariant-loop-self l = record {
  ahead : l.tick ≤ l.self.tick;
  room : l.fn.self.room ≤ l.self.room;
  memory : memory l.self ≡ memory l.fn.self;
  same : sought l.tick (state_of l.self) l.self.records ≡ sought l.tick (state_of l.fn.self) l.fn.self.records;
}

abbrev pub decreases-loop-self : goal.decreases-loop-self
decreases-loop-self l = length l.self.records
