use Rattle.std.proofs.Common.{rules}
use Rattle.tsb_lines.proofs.words.number.Goals as goal

pub loop-byte-init : goal.loop-byte-init
loop-byte-init c = search rules fits 100
