use Rattle.std.proofs.Common.{rules}
use Rattle.tsb_controller.proofs.parts.undo_part.Goals as goal

pub loop-cell-init : goal.loop-cell-init
loop-cell-init g c = search rules fits 100

pub loop-cell-preserved-then-undo_entry : goal.loop-cell-preserved-then-undo_entry
loop-cell-preserved-then-undo_entry g c = search rules fits 100
