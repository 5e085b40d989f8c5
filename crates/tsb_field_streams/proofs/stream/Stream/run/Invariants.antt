use Rattle.std.proofs.Common.{◌≡◌, [], false}
use Rattle.tsb_field_streams.specs.Filtering.{Given}
use Rattle.tsb_field_streams.specs.Streaming.{Follows}
use Rattle.tsb_field_streams.proofs.GoingLemmas.{Going}
use Rattle.tsb_field_streams.proofs.stream.Stream.run.Given as goal

abbrev pub invariant-loop-count : goal.invariant-loop-count
invariant-loop-count g l = record {
  well : l.fn.reader.failed ≡ false → l.fn.writer.failed ≡ false → (l.reader.failed ≡ false) × (l.writer.failed ≡ false);
  going : (given : Given) → Follows given [] l.fn.self (g.W.Write.contents l.fn.writer.device) (g.W.Write.contents l.fn.writer.device)
      → Going given l.self l.left (g.R.Read.remaining l.fn.reader.device) (g.R.Read.remaining l.reader.device) (g.W.Write.contents l.fn.writer.device) (g.W.Write.contents l.writer.device);
}

abbrev pub decreases-loop-count : goal.decreases-loop-count
decreases-loop-count g l = l.left
