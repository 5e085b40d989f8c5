use Rattle.std.proofs.Common.{Bool, not, ◌&&◌, ◌∙◌, ap}
use Rattle.tsb_types.specs.Sets.{names, has_number, list_in}
use Rattle.tsb_objects.specs.tsb_plan.PlanOf.{plan_of}
use Rattle.tsb_preempt.specs.Layer.{cells_of}
use Rattle.tsb_preempt.proofs.ServiceLemmas.{waits}
use Rattle.tsb_preempt.proofs.preempts.Preempts.is_still.Goals as goal

pub returns : goal.returns
returns c = λ stays. record {
  settled = c.requires.settled;
  waits = λ n from to.
      waits c.args.now (plan_of c.args.plan.now) (cells_of c.args.self.now) c.args.was.now n (has_number c.args.inputs n) (names (list_in (cells_of c.args.self.now) 1) n)
      (has_number c.difference-asking.result n)
      (c.difference-asking.ensures n ∙ ap (λ (b : Bool). has_number c.args.inputs n && not b) (c.list.ensures n))
      (c.one_begins.ensures c.if-one_begins.false n from to);
  stays = c.stays_in_service.ensures c.requires.by stays;
}
