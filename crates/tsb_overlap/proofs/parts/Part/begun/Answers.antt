use Rattle.std.proofs.Common.{refl, arith}
use Rattle.tsb_cells.proofs.TimerLemmas.{timer_at-begins}
use Rattle.tsb_overlap.proofs.parts.Part.begun.Goals as goal

pub returns : goal.returns
returns c = record { state = rw (timer_at-begins c.args.now) refl; timer = omega arith }
