use Rattle.std.proofs.Common.{◌∙◌, arith}
use Rattle.std.proofs.lemmas.Grind.{common_steps}
use Rattle.tsb_overlap.specs.Layer.{cells_of}
use Rattle.tsb_overlap.proofs.CellLemmas.{others-listed}
use Rattle.tsb_overlap.proofs.timed_overlaps.TimedOverlaps.put_interval.Goals as goal

pub returns-clause-others : goal.returns-clause-others
returns-clause-others c = λ k q below other.
    others-listed 4 k q c.args.o (cells_of c.put-4.new.self) (cells_of c.put-5.new.self) other c.put-5.ensures.others c.put-5.ensures.elsewhere
    ∙ others-listed 3 k q c.args.o (cells_of c.put-3.new.self) (cells_of c.put-4.new.self) other c.put-4.ensures.others c.put-4.ensures.elsewhere
    ∙ others-listed 2 k q c.args.o (cells_of c.put-2.new.self) (cells_of c.put-3.new.self) other c.put-3.ensures.others c.put-3.ensures.elsewhere
    ∙ others-listed 1 k q c.args.o (cells_of c.put.new.self) (cells_of c.put-2.new.self) other c.put-2.ensures.others c.put-2.ensures.elsewhere
    ∙ others-listed 0 k q c.args.o (cells_of c.args.self.now) (cells_of c.put.new.self) other c.put.ensures.others c.put.ensures.elsewhere

pub returns-clause-own : goal.returns-clause-own
returns-clause-own c = grind (arith, common_steps)
