use Rattle.std.proofs.Common.{◌≡◌, ◌++◌, false, length, List, ℕ}
use Rattle.std.specs.declared.option.Option.{Option}
use Rattle.tsb_field_streams.specs.Filtering.{Given}
use Rattle.tsb_field_streams.specs.Streaming.{Follows}
use Rattle.tsb_field_streams.proofs.stream.Stream.feed_all.Given as goal

-- what was taken so far are whole lines
abbrev pub invariant-loop-rest : goal.invariant-loop-rest
invariant-loop-rest g l = record {
  well : l.fn.writer.failed ≡ false → l.writer.failed ≡ false;
  cut : (taken : List ℕ) × (l.bytes ≡ taken ++ l.left)
      × ((given : Given) (before : List ℕ) (begun : Option (List ℕ)) → Follows given before l.fn.self begun (g.W.Write.contents l.fn.writer.device) → Follows given (before ++ taken) l.self begun (g.W.Write.contents l.writer.device));
}

abbrev pub decreases-loop-rest : goal.decreases-loop-rest
decreases-loop-rest g l = length l.left
