use Rattle.std.proofs.Common.{◌∙◌, sym, ap}
use Rattle.tsb_objects.specs.Checked.{checked_plan}
use Rattle.tsb_plan.specs.PlanOf.{plan_of}
use Rattle.tsb_step.specs.Step.{verdict}
use Rattle.tsb_controller.specs.Whole.{all_in}
use Rattle.tsb_bench.specs.Cabinet.{rows_of}
use Rattle.tsb_bench.proofs.DeskLemmas.{set-refusals}
use Rattle.tsb_bench.proofs.cabinet.Cabinet.refusal.Goals as goal

pub returns-in-Tick : goal.returns-in-Tick
unfolding verdict checked_plan plan_of
returns-in-Tick c = c.tick_refusal.ensures ∙ ap (verdict (all_in c.args.tick (rows_of c.args.self.now))) (sym c.in-Tick.is)

pub returns-in-Pattern : goal.returns-in-Pattern
unfolding verdict checked_plan plan_of
returns-in-Pattern c = c.pattern_refusal.ensures ∙ ap (verdict (all_in c.args.tick (rows_of c.args.self.now))) (sym c.in-Pattern.is)

pub returns-in-Switch : goal.returns-in-Switch
unfolding verdict checked_plan plan_of
returns-in-Switch c = c.switch_refusal.ensures ∙ ap (verdict (all_in c.args.tick (rows_of c.args.self.now))) (sym c.in-Switch.is)

pub returns-in-Fault : goal.returns-in-Fault
unfolding verdict checked_plan plan_of
returns-in-Fault c = ap (verdict (all_in c.args.tick (rows_of c.args.self.now))) (sym c.in-Fault.is)

pub returns-in-Reset : goal.returns-in-Reset
unfolding verdict checked_plan plan_of
returns-in-Reset c = ap (verdict (all_in c.args.tick (rows_of c.args.self.now))) (sym c.in-Reset.is)

pub returns-in-Clock : goal.returns-in-Clock
unfolding verdict checked_plan plan_of
returns-in-Clock c = ap (verdict (all_in c.args.tick (rows_of c.args.self.now))) (sym c.in-Clock.is)

pub returns-in-Omit : goal.returns-in-Omit
unfolding verdict checked_plan plan_of
returns-in-Omit c = c.omit_refusal.ensures ∙ ap (verdict (all_in c.args.tick (rows_of c.args.self.now))) (sym c.in-Omit.is)

pub returns-in-Begin : goal.returns-in-Begin
unfolding verdict checked_plan plan_of
returns-in-Begin c = c.begin_refusal.ensures ∙ ap (verdict (all_in c.args.tick (rows_of c.args.self.now))) (sym c.in-Begin.is)

pub returns-in-Set : goal.returns-in-Set
unfolding verdict checked_plan plan_of
returns-in-Set c = c.set_refusal.ensures ∙ set-refusals c.args.tick (rows_of c.args.self.now) c.in-Set.station c.in-Set.id c.in-Set.value ∙ ap (verdict (all_in c.args.tick (rows_of c.args.self.now))) (sym c.in-Set.is)

pub returns-in-Verify : goal.returns-in-Verify
unfolding verdict checked_plan plan_of
returns-in-Verify c = c.verify_refusal.ensures ∙ ap (verdict (all_in c.args.tick (rows_of c.args.self.now))) (sym c.in-Verify.is)

pub returns-in-Commit : goal.returns-in-Commit
unfolding verdict checked_plan plan_of
returns-in-Commit c = c.commit_refusal.ensures c.args.tick ∙ ap (verdict (all_in c.args.tick (rows_of c.args.self.now))) (sym c.in-Commit.is)

pub returns-in-Abort : goal.returns-in-Abort
unfolding verdict checked_plan plan_of
returns-in-Abort c = c.abort_refusal.ensures ∙ ap (verdict (all_in c.args.tick (rows_of c.args.self.now))) (sym c.in-Abort.is)
