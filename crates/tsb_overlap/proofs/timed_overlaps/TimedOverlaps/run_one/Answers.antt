use Rattle.std.proofs.Common.{◌≡◌, ap, ap₂, ◌∙◌}
use Rattle.tsb_objects.specs.tsb_plan.Plan.{Plan}
use Rattle.tsb_objects.specs.Checked.{checked_plan}
use Rattle.tsb_overlap.specs.declared.parts.OverlapInterval.{OverlapInterval}
use Rattle.tsb_overlap.specs.declared.parts.Part.{Part}
use Rattle.tsb_overlap.specs.Cells.{part_in, overlap_of}
use Rattle.tsb_overlap.specs.Layer.{cells_of}
use Rattle.tsb_overlap.specs.Overlap.{Overlap, run_on, holds_by}
use Rattle.tsb_overlap.proofs.CellLemmas.{put-part, put-by}
use Rattle.tsb_overlap.proofs.timed_overlaps.TimedOverlaps.run_one.Goals as goal
use Rattle.tsb_overlap.proofs.timed_overlaps.TimedOverlaps.run_one.Goals.{After-run_on-part}

-- what the tick makes of the part that the cells kept
made : (c : After-run_on-part) → overlap_of c.args.now c.run_on-part.result
    ≡ run_on (checked_plan c.args.plan.now) c.args.is_preempted c.args.o (overlap_of c.args.now (part_in (cells_of c.args.self.now) c.args.o))
made c =
    c.run_on-part.ensures.state
    ∙ ap₂ (λ (p : Plan) (part : Part). run_on p c.args.is_preempted c.args.o (overlap_of c.args.now part)) c.plan.ensures.plan c.part-was.ensures

pub returns-clause-own : goal.returns-clause-own
returns-clause-own c =
    ap (overlap_of c.args.now) (put-part c.run_on-part.result (cells_of c.put_part.new.self) c.args.o c.put_part.ensures.own)
    ∙ made (goal.at.returns-clause-own c).After-run_on-part

pub returns-clause-held : goal.returns-clause-held
returns-clause-held c = λ p.
    c.held_by.ensures p
    ∙ ap₂ (λ (plan : Plan) (i : OverlapInterval). holds_by plan c.args.o i p) c.plan-2.ensures.plan
    (ap (λ (x : Overlap). x.interval) (made (goal.at.returns-clause-held c).After-run_on-part))

pub returns-clause-by : goal.returns-clause-by
returns-clause-by c = put-by c.args.now c.run_on-part.result (cells_of c.put_part.new.self) c.args.o c.run_on-part.ensures.timer c.put_part.ensures.own
