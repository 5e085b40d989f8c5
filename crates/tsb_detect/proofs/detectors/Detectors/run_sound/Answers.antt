use Rattle.std.proofs.Common.{◌≡◌, ◌&&◌, not, Bool, sym, ◌∙◌, ap, subst}
use Rattle.std.proofs.lemmas.Bool.{or_parts}
use Rattle.tsb_objects.specs.tsb_plan.Plan.{Plan}
use Rattle.tsb_objects.specs.tsb_plan.PlanOf.{plan_of}
use Rattle.tsb_objects.specs.tsb_plan.Parts.{call_phase}
use Rattle.tsb_objects.specs.tsb_types.Sets.{has_detector}
use Rattle.tsb_detect.specs.declared.detector_row.DetectorRow.{DetectorRow}
use Rattle.tsb_detect.specs.Promises.{green_timer_of}
use Rattle.tsb_detect.specs.Cells.{row_in}
use Rattle.tsb_detect.specs.Rows.{row_with, with_list, IsVisit}
use Rattle.tsb_detect.specs.Layer.{cells_of}
use Rattle.tsb_detect.proofs.SoundLemmas.{input-of, output-of, row-of-lists}
use Rattle.tsb_detect.proofs.detectors.Detectors.run_sound.Goals as goal

pub visit_moved-on-requires-clause-input : goal.visit_moved-on-requires-clause-input
visit_moved-on-requires-clause-input c = λ d out.
    let both = or_parts _ _ (sym (c.union-moved.ensures d) ∙ out) in
    input-of (cells_of c.args.self.now) d ∙ sym (c.list.ensures d) ∙ c.differing.ensures d both.0

pub visit_moved-on-requires-clause-output : goal.visit_moved-on-requires-clause-output
visit_moved-on-requires-clause-output c = λ d out.
    let both = or_parts _ _ (sym (c.union-moved.ensures d) ∙ out) in
    output-of (cells_of c.args.self.now) d ∙ sym (c.list-were.ensures d) ∙ c.differing-2.ensures d both.1

pub returns-clause-each : goal.returns-clause-each
returns-clause-each c = λ d from within.
    let x : Bool = has_detector c.args.inputs d in
    let on : Bool = has_detector c.visit_moved-on.result d in
    let risen : Bool = has_detector c.difference.result d in
    let plan : Plan = plan_of c.args.plan.now in
    let first = cells_of c.args.self.now in
    let moved = cells_of c.visit_moved-on.new.self in
    let last = cells_of c.put_set-3.new.self in
    let rows : row_in last d ≡ with_list 2 risen (with_list 1 on (with_list 0 x (row_in moved d))) =
    c.put_set-3.ensures.rows d from within
    ∙ ap (with_list 2 risen) (c.put_set-2.ensures.rows d from within ∙ ap (with_list 1 on) (c.put_set.ensures.rows d from within)) in
    let told : row_in last d ≡ row_with x on (row_in first d) (row_in moved d) =
    row-of-lists (row_in last d) x on risen (row_in first d) (row_in moved d) (c.visit_moved-on.ensures.none d from within)
    (c.difference.ensures d ∙ ap (λ (o : Bool). on && not o) (c.list-were.ensures d ∙ sym (output-of first d))) rows in
    subst (λ (r : DetectorRow). IsVisit c.args.now plan d x (green_timer_of c.args.now c.args.greens.now (call_phase plan d)) (row_in first d) r) (sym told)
    (c.visit_moved-on.ensures.each d from within)
