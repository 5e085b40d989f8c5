use Rattle.std.proofs.Common.{◌≡◌, false, List, ℕ, length}
use Rattle.std.specs.declared.option.Option.{Option}
use Rattle.tsb_field_streams.specs.Filtering.{Given, Stand}
use Rattle.tsb_field_streams.specs.Streaming.{Known}
use Rattle.tsb_field_streams.proofs.stream.Stream.take_held.Given as goal

abbrev pub invariant-loop : goal.invariant-loop
invariant-loop g l = record {
  well : l.fn.writer.failed ≡ false → l.writer.failed ≡ false;
  known : (given : Given) (bytes : List ℕ) (begun : Option (List ℕ)) (before : Stand) → Known given bytes before 0 l.fn.self.filter begun (g.W.Write.contents l.fn.writer.device)
      → Known given bytes before l.counter l.self.filter begun (g.W.Write.contents l.writer.device) × (l.count ≡ length before.held);
}
