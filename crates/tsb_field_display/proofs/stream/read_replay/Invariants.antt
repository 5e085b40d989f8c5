use Rattle.tsb_field_display.specs.Stream.{Going}
use Rattle.tsb_field_display.proofs.stream.read_replay.Given as goal

abbrev pub invariant-loop-read : goal.invariant-loop-read
invariant-loop-read g l = Going l.is_wide l.reader.failed (g.R.Read.remaining l.fn.reader.device) (g.R.Read.remaining l.reader.device) l.stream l._read
