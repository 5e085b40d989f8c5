use Rattle.std.proofs.Common.{◌∙◌, sym}
use Rattle.tsb_objects.specs.tsb_plan.PlanOf.{plan_of}
use Rattle.tsb_overlap.specs.Layer.{cells_of}
use Rattle.tsb_overlap.proofs.HolderLemmas.{held-then, held-else}
use Rattle.tsb_overlap.proofs.timed_overlaps.TimedOverlaps.held_left.Goals as goal

pub returns-then-contains : goal.returns-then-contains
returns-then-contains c =
    held-then (plan_of c.args.plan.now) c.args.is_preempted c.args.now (cells_of c.args.self.now) c.args.phase c.args.o c.part-was.result c.run_on-part.result
    c.requires.by c.known.ensures.from c.known.ensures.within c.part-was.ensures c.run_on-part.ensures c.left.result
    (sym (c.contains.ensures ∙ c.held_by.ensures c.args.phase) ∙ c.if-contains.true) c.left.ensures

pub returns-else-contains : goal.returns-else-contains
returns-else-contains c =
    held-else (plan_of c.args.plan.now) c.args.is_preempted c.args.now (cells_of c.args.self.now) c.args.phase c.args.o c.part-was.result c.run_on-part.result
    c.requires.by c.known.ensures.from c.known.ensures.within c.part-was.ensures c.run_on-part.ensures
    (sym (c.contains.ensures ∙ c.held_by.ensures c.args.phase) ∙ c.if-contains.false)
