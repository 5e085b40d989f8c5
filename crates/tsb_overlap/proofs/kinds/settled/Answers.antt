use Rattle.std.proofs.Common.{◌≡◌, ◌∙◌, false, refl, sym, ap, subst}
use Rattle.tsb_objects.specs.tsb_plan.Plan.{Plan}
use Rattle.tsb_objects.specs.tsb_plan.Parts.{is_arrow, trails}
use Rattle.tsb_objects.specs.Checked.{checked_plan}
use Rattle.tsb_overlap.specs.Cells.{overlap_of}
use Rattle.tsb_overlap.specs.Overlap.{turn_of, arrow_settled}
use Rattle.tsb_overlap.specs.Parts.{IsPartOf}
use Rattle.tsb_overlap.specs.Reading.{given_by}
use Rattle.tsb_overlap.proofs.PartLemmas.{kind-arrow, kind-trail, second-of}
use Rattle.tsb_overlap.proofs.kinds.settled.Goals as goal

pub returns-then-is_arrow : goal.returns-then-is_arrow
returns-then-is_arrow c = λ omitted lights is.
    kind-arrow (checked_plan c.args.plan.now) (given_by c.args.now c.args.seen.now omitted lights) c.args.o c.args.now c.args.part.now c.settled.result
    (sym (ap (λ (p : Plan). is_arrow p c.args.o) c.plan-values.ensures.plan) ∙ sym c.is_arrow.ensures ∙ c.if-is_arrow.true)
    (subst (λ (p : Plan). IsPartOf c.args.now (arrow_settled p (given_by c.args.now c.args.seen.now omitted lights) c.args.o (overlap_of c.args.now c.args.part.now) (turn_of p c.args.o))
    c.settled.result) c.plan-values.ensures.plan (c.settled.ensures omitted lights is))

pub returns-else-is_arrow : goal.returns-else-is_arrow
returns-else-is_arrow c = λ omitted lights is.
    let arrow : is_arrow (checked_plan c.args.plan.now) c.args.o ≡ false =
    sym (ap (λ (p : Plan). is_arrow p c.args.o) c.plan-values.ensures.plan) ∙ sym c.is_arrow.ensures ∙ c.if-is_arrow.false in
    kind-trail (checked_plan c.args.plan.now) (given_by c.args.now c.args.seen.now omitted lights) c.args.o c.args.now c.args.part.now c.settled-else-is_arrow.result
    arrow (second-of (is_arrow (checked_plan c.args.plan.now) c.args.o) (trails (checked_plan c.args.plan.now) c.args.o) c.requires.timed arrow)
    (c.settled-else-is_arrow.ensures (checked_plan c.args.plan.now) (given_by c.args.now c.args.seen.now omitted lights) c.args.o
    (c.keeps_green-is_kept.ensures c.args.seen.now.pedestrians lights false) refl)
