use Rattle.std.proofs.Common.{refl, ap, ◌∙◌}
use Rattle.tsb_objects.specs.Checked.{checked_plan}
use Rattle.tsb_objects.specs.tsb_types.Sets.{set_of_list}
use Rattle.tsb_overlap.specs.declared.parts.Part.{Part}
use Rattle.tsb_overlap.specs.Cells.{overlap_of}
use Rattle.tsb_overlap.specs.Layer.{cells_of}
use Rattle.tsb_overlap.specs.Overlap.{settled}
use Rattle.tsb_overlap.specs.Reading.{given_by}
use Rattle.tsb_overlap.proofs.CellLemmas.{put-part, put-by}
use Rattle.tsb_overlap.proofs.timed_overlaps.TimedOverlaps.settle_one.Goals as goal

pub returns-clause-own : goal.returns-clause-own
returns-clause-own c = λ omitted lights is.
    ap (overlap_of c.args.now) (put-part c.settled-part.result (cells_of c.put_part.new.self) c.args.o c.put_part.ensures.own)
    ∙ (c.settled-part.ensures omitted lights is).state
    ∙ ap (λ (part : Part). settled (checked_plan c.args.plan.now) (given_by c.args.now c.args.seen.now omitted lights) c.args.o (overlap_of c.args.now part)) c.part-was.ensures

pub returns-clause-by : goal.returns-clause-by
returns-clause-by c =
    put-by c.args.now c.settled-part.result (cells_of c.put_part.new.self) c.args.o
    (c.settled-part.ensures (λ o. c.args.is_omitted) (record { green = set_of_list 0; flashing = set_of_list 0; yellow = set_of_list 0 }) refl).timer c.put_part.ensures.own
